-- `tuples` has the first rows of the enumeration without end of `Digits.antt`.
use Prim.Native.Nat.{ℕ, ◌*◌, ◌%◌, min, ◌≤◌, ◌<◌}
use Rattle.std.specs.Prelude.{◌≡◌}
use Rattle.std.proofs.Math.Path.{refl, sym, ap}
use Rattle.std.proofs.Common.{◌∙◌, mul-pos, one-mul, mod-lt, mod-eq_of_lt, arith}
use mathlib.Core.List.{List, [], ◌∷◌, ◌++◌, append-nil, append_assoc}
use Rattle.std.proofs.Math.Nat.{mul-one, mul_assoc, le-mul_of_pos_right, min-eq_left, min-eq_right, mod-mod_of_dvd, dvd-mul_right}
use Rattle.std.proofs.Math.Decide.{dec_le}
use Rattle.counting.specs.Totals.{product_over}
use Rattle.counting.specs.Terms.{Each}
use Rattle.counting.proofs.Laws.Members.{each-head, each_tail}
use Rattle.pairing.specs.Pairing.{Tuples, single, paired_with, paired_with_all, tuples, left_of}
use Rattle.pairing.proofs.Laws.Pair.{right_of-below-left, right_of-below-right}
use Rattle.pairing.specs.Notions.{product}
use Rattle.pairing.proofs.Laws.Digits.{digit, digits, digit-below, digit_mod}

-- `r` has the first rows of `row`: as many as wanted, but at most `p`
pub record Starts (want p : ℕ) (r : Tuples) (row : ℕ → List ℕ) : Type 0 where
  pub count : r.count ≡ min want p
  pub rows : (i : ℕ) → i < min want p → r.row i ≡ row i

module _ (want : ℕ) where
  -- If `r` has all `p` rows, they recur with period `p`. If not, it has as many as wanted already, and each of them is paired once.
  paired-starts : (r : Tuples) (row : ℕ → List ℕ) (p t : ℕ) → 0 < p → 0 < t → ((i : ℕ) → row (i % p) ≡ row i)
      → Starts want p r row → Starts want (p * t) (paired_with want r t) (λ i. row i ++ (digit p t i ∷ []))
  unfolding paired_with left_of
  paired-starts r row p t hp ht period s = go (dec_le p want)
    where
      grows : (k : ℕ) → k ≤ k * t
      grows k = le-mul_of_pos_right k ht

      go : Dec (p ≤ want) → Starts want (p * t) (paired_with want r t) (λ i. row i ++ (digit p t i ∷ []))
      go (yes h) =
          let e : r.count ≡ p = s.count ∙ min-eq_right h in
          record {
            count = rw e;
            rows = λ i l. cc (e, s.rows (i % p) (omega (arith, mod-lt i hp)), period i, digit-below p t i (omega arith));
          }
      go (no h) =
          let e : r.count ≡ want = s.count ∙ min-eq_left (omega arith) in
          record {
            count = rw e (omega (arith, grows want, grows p));
            rows = λ i l.
                let w : i < want = omega arith in
                let b : i < p = omega arith in
                cc (
                  e,
                  mod-eq_of_lt w,
                  s.rows i (omega arith),
                  right_of-below-left want t i ht w,
                  digit-below p t i (omega (arith, grows p)),
                  right_of-below-left p t i ht b,
                );
          }

  paired-all-starts : (r : Tuples) (row : ℕ → List ℕ) (p : ℕ) (ts : List ℕ) → 0 < p → Each (0 <◌) ts → ((i : ℕ) → row (i % p) ≡ row i)
      → Starts want p r row → Starts want (p * product ts) (paired_with_all want r ts) (λ i. row i ++ digits p ts i)
  unfolding paired_with_all product_over digits
  paired-all-starts r row p [] hp h period s = rw mul-one (record { count = s.count; rows = λ i l. s.rows i l ∙ sym (append-nil (row i)) })
  paired-all-starts r row p (t ∷ ts) hp h period s =
      let row' : ℕ → List ℕ = λ i. row i ++ (digit p t i ∷ []) in
      let coarse : (i : ℕ) → i % (p * t) % p ≡ i % p = λ i. mod-mod_of_dvd p i (dvd-mul_right p t) in
      let period' : (i : ℕ) → row' (i % (p * t)) ≡ row' i = λ i. cc (coarse i, period (i % (p * t)), period i, digit_mod p t i) in
      let rest =
      paired-all-starts (paired_with want r t) row' (p * t) ts (mul-pos hp (each-head _ h)) (each_tail _ h) period'
      (paired-starts r row p t hp (each-head _ h) period s) in
      rw (← mul_assoc p t (product ts))
      (record { count = rest.count; rows = λ i l. rest.rows i l ∙ append_assoc (row i) (digit p t i ∷ []) (digits (p * t) ts i) })

  pub tuples-starts : (sizes : List ℕ) → 0 < want → Each (0 <◌) sizes → Each (◌≤ want) sizes
      → Starts want (product sizes) (tuples want sizes) (digits 1 sizes)
  unfolding tuples single product_over digits
  tuples-starts [] some h b = record { count = omega arith; rows = λ i l. refl }
  tuples-starts (s ∷ ss) some h b =
      let row : ℕ → List ℕ = λ i. digit 1 s i ∷ [] in
      let alone : (i : ℕ) → i < s → i ∷ [] ≡ row i = λ i l. cc (digit-below 1 s i (omega arith), right_of-below-right 1 s i (omega arith) l) in
      let one : Starts want (1 * s) (single s) row = record { count = omega (arith, each-head (◌≤ want) b); rows = λ i l. alone i (omega arith) } in
      let all =
      paired-all-starts (single s) row (1 * s) ss (omega (arith, each-head (0 <◌) h)) (each_tail _ h)
      (λ i. ap (◌∷ []) (digit_mod 1 s i)) one in
      record { count = all.count ∙ ap (λ (x : ℕ). min want (x * product ss)) (one-mul s); rows = λ i l. all.rows i (rw (one-mul s) l) }
