-- Where there is room, the limits that were written are read back, and are whole.
use Rattle.std.specs.Prelude.{ℕ, zero, suc, ◌+◌, ◌-◌, ◌≤◌, ◌<◌, ◌≡◌, refl, min, Bool, true, false, nat_eq, List, [], ◌∷◌, ◌++◌, length, map, fold, flat_map, take, drop, slice_index, slice_range, slice_set, All, if◌then◌else◌}
use Rattle.std.proofs.Common.{arith, sym, ap, ap₂, subst, ◌∙◌, length-append, length-drop, lt-ltb, eqb-true}
use Rattle.std.proofs.Math.Path.{subst⁻¹}
use Rattle.std.proofs.Math.Seq.{take-append_seam, drop-append_seam}
use Rattle.std.proofs.lemmas.List.Edits.{sets, sets-eq}
use mathlib.Core.List.{append-nil, append_assoc}
use mathlib.Core.List.Memᴰ.{head as here}
use mathlib.Core.List.Memᴰ.{tail as there}
use Rattle.counting.specs.Terms.{Each}
use Rattle.fixpoint.specs.Limits.{Limit, Expr, product, sum, times, quotient}
use Rattle.buffer.specs.Written.{Place, place, put, puts}
use Rattle.buffer.specs.Laws.{puts-room, puts-long}
use Rattle.lowering.specs.Sizes.{largest}
use Rattle.lowering.specs.Coded.{expr_of, limit_of}
use Rattle.lowering.specs.Closed.{operands_of, Inside, Among, Fed, Within}
use Rattle.lowering.specs.declared.Limit as code
use Rattle.lowering.specs.declared.Most.{Most}
use Rattle.lowering.specs.declared.Most.TheVariants.{Size, Product, Sum, Times, Quotient}
use Rattle.limits.specs.declared.writer.Writer.{Writer}
use Rattle.limits.specs.Encoded.{Both, both, both_of, with_code, with_operands, with_most, with_limit, Fresh, Encoded, written_of, written_count}

-- ---- operands behind others

set_seam : (pre : List ℕ) (r s : ℕ) (rest : List ℕ) → slice_set (pre ++ r ∷ rest) (length pre) s ≡ pre ++ s ∷ rest
set_seam [] r s rest = refl
set_seam (p ∷ pre) r s rest = ap (λ xs. p ∷ xs) (set_seam pre r s rest)

puts-behind : (ss pre rest : List ℕ) → length ss ≤ length rest
    → puts (place (pre ++ rest) (length pre)) ss ≡ place ((pre ++ ss) ++ drop (length ss) rest) (length (pre ++ ss))
puts-behind [] pre rest h = let e : pre ≡ pre ++ [] = sym (append-nil pre) in ap (λ xs. place (xs ++ rest) (length xs)) e
puts-behind (s ∷ ss) pre [] h = absurd (omega arith)
puts-behind (s ∷ ss) pre (r ∷ rest) h =
    let room : length pre < length (pre ++ r ∷ rest) = omega (arith, length-append pre (r ∷ rest)) in
    let more : length (pre ++ s ∷ []) ≡ length pre + 1 = length-append pre (s ∷ []) in
    let one : put (place (pre ++ r ∷ rest) (length pre)) s ≡ place ((pre ++ s ∷ []) ++ rest) (length (pre ++ s ∷ [])) =
    rw (lt-ltb (length pre) (length (pre ++ r ∷ rest)) room, put)
    (ap₂ place (set_seam pre r s rest ∙ sym (append_assoc pre (s ∷ []) rest)) (sym more)) in
    ap (λ p. fold put p ss) one ∙ puts-behind ss (pre ++ s ∷ []) rest (omega arith)
    ∙ ap (λ xs. place (xs ++ drop (length ss) rest) (length xs)) (append_assoc pre (s ∷ []) ss)

-- they stand where they were written
range_behind : (pre ss tail : List ℕ) (to : ℕ) → to ≡ length (pre ++ ss) → slice_range ((pre ++ ss) ++ tail) (length pre) to ≡ ss
range_behind pre ss tail to e =
    let count : to - length pre ≡ length ss = omega (arith, length-append pre ss) in
    ap₂ take count (ap (drop (length pre)) (append_assoc pre ss tail) ∙ drop-append_seam pre (ss ++ tail)) ∙ take-append_seam ss tail

-- ---- a writing leaves the length of the slice as it is

with_long : (b : Both) (target : ℕ) (e : Expr) → length (with_most b target e).limits.items ≡ length b.limits.items
with_long b target (times k s) = puts-long b.limits (_ ∷ [])
with_long b target (quotient s k) = puts-long b.limits (_ ∷ [])
with_long b target (sum ss) = puts-long b.limits (_ ∷ [])
with_long b target (product ss) = go (nat_eq (length ss) 1)
  where
    go : (c : Bool) → length (if c then with_code b target (Size (slice_index ss 0)) else with_operands Product b target ss).limits.items ≡ length b.limits.items
    go true = puts-long b.limits (_ ∷ [])
    go false = puts-long b.limits (_ ∷ [])

limits_long : (ls : List Limit) (b : Both) → length (fold with_limit b ls).limits.items ≡ length b.limits.items
limits_long [] b = refl
limits_long (l ∷ ls) b = limits_long ls (with_limit b l) ∙ with_long b l.target l.most

-- ---- all limits

record Read (pre rest : List ℕ) (at : Place code.Limit) (ls : List Limit) : Type 0 where
  codes : List code.Limit
  all : List ℕ
  end : ℕ
  tail : List ℕ
  is : fold with_limit (both at (place (pre ++ rest) (length pre))) ls ≡ both (fold put at codes) (place all end)
  kept : all ≡ pre ++ tail
  long : length all ≡ length pre + length rest
  count : length codes ≡ length ls
  means : map (limit_of all) codes ≡ ls
  whole : (n : ℕ) → Each (Inside n) ls → All (Within n all) codes

all-cons : {A : Type 0} (P : A → Type 0) (x : A) (xs : List A) → P x → All P xs → All P (x ∷ xs)
all-cons P x xs p h zero d l = p
all-cons P x xs p h (suc k) d l = h k d (omega arith)

each-index : {A : Type 0} (P : A → Type 0) (xs : List A) → Each P xs → All P xs
each-index P [] h k d l = absurd (omega arith)
each-index P (x ∷ xs) h zero d l = h x (here refl)
each-index P (x ∷ xs) h (suc k) d l = each-index P xs (λ a m. h a (there m)) k d (omega arith)

-- a limit without operands beside, then the others
read_code : (pre rest : List ℕ) (at : Place code.Limit) (l : Limit) (ls : List Limit) (m : Most)
    → with_limit (both at (place (pre ++ rest) (length pre))) l ≡ both (put at (record { target = l.target; most = m })) (place (pre ++ rest) (length pre))
    → ((ops : List ℕ) → expr_of ops m ≡ l.most)
    → ((n : ℕ) (ops : List ℕ) → Inside n l → Fed n ops m)
    → Read pre rest (put at (record { target = l.target; most = m })) ls → Read pre rest at (l ∷ ls)
read_code pre rest at l ls m step means fed r = record {
  codes = record { target = l.target; most = m } ∷ r.codes;
  all = r.all;
  end = r.end;
  tail = r.tail;
  is = ap (λ b. fold with_limit b ls) step ∙ r.is;
  kept = r.kept;
  long = r.long;
  count = ap suc r.count;
  means = ap₂ (λ (e : Expr) (xs : List Limit). record { target = l.target; most = e } ∷ xs) (means r.all) r.means;
  whole = λ n h. all-cons (Within n r.all) (record { target = l.target; most = m }) r.codes
      (record { target = (h l (here refl)).target; most = fed n r.all (h l (here refl)) }) (r.whole n (λ a i. h a (there i)));
}

-- a limit with operands beside, then the others
read_operands : (pre rest : List ℕ) (at : Place code.Limit) (l : Limit) (ls : List Limit) (ss : List ℕ) (m : ℕ → ℕ → Most) (from to : ℕ)
    → length ss ≤ length rest → from ≡ length pre → to ≡ length (pre ++ ss)
    → with_limit (both at (place (pre ++ rest) (length pre))) l
    ≡ both (put at (record { target = l.target; most = m from to })) (puts (place (pre ++ rest) (length pre)) ss)
    → ((ops : List ℕ) → slice_range ops from to ≡ ss → expr_of ops (m from to) ≡ l.most)
    → ((n : ℕ) (ops : List ℕ) → Inside n l → from ≤ to → to ≤ length ops → slice_range ops from to ≡ ss → Fed n ops (m from to))
    → Read (pre ++ ss) (drop (length ss) rest) (put at (record { target = l.target; most = m from to })) ls → Read pre rest at (l ∷ ls)
read_operands pre rest at l ls ss m from to room ef et step means fed r =
    let stands : slice_range r.all from to ≡ ss =
    ap₂ (λ xs a. slice_range xs a to) r.kept ef ∙ range_behind pre ss r.tail to et in
    let size : length (pre ++ ss) ≡ length pre + length ss = length-append pre ss in
    record {
      codes = record { target = l.target; most = m from to } ∷ r.codes;
      all = r.all;
      end = r.end;
      tail = ss ++ r.tail;
      is = ap (λ b. fold with_limit b ls) (step ∙ ap (both (put at (record { target = l.target; most = m from to }))) (puts-behind ss pre rest room)) ∙ r.is;
      kept = r.kept ∙ append_assoc pre ss r.tail;
      long = omega (arith, r.long, size, length-drop (length ss) rest);
      count = ap suc r.count;
      means = ap₂ (λ (e : Expr) (xs : List Limit). record { target = l.target; most = e } ∷ xs) (means r.all stands) r.means;
      whole = λ n h. all-cons (Within n r.all) (record { target = l.target; most = m from to }) r.codes
          (record {
            target = (h l (here refl)).target;
            most = fed n r.all (h l (here refl)) (omega (arith, size)) (omega (arith, size, r.long)) stands;
          })
          (r.whole n (λ a i. h a (there i)));
    }

among : (n : ℕ) (ops ss : List ℕ) (from to : ℕ) → Each (λ s. s < n) ss → from ≤ to → to ≤ length ops → slice_range ops from to ≡ ss → Among n ops from to
among n ops ss from to h o i e = record { order = o; inside = i; each = subst⁻¹ (All (λ s. s < n)) e (each-index (λ s. s < n) ss h) }

pub one_is : (ss : List ℕ) → length ss ≡ 1 → ss ≡ slice_index ss 0 ∷ []
one_is [] e = absurd (omega arith)
one_is (s ∷ []) e = refl
one_is (s ∷ t ∷ ss) e = absurd (omega arith)

read : (ls : List Limit) (pre rest : List ℕ) (at : Place code.Limit) → written_count ls ≤ length rest → length pre + written_count ls ≤ largest
    → Read pre rest at ls
read [] pre rest at room small = record {
  codes = [];
  all = pre ++ rest;
  end = length pre;
  tail = rest;
  is = refl;
  kept = refl;
  long = length-append pre rest;
  count = refl;
  means = refl;
  whole = λ n h k d b. absurd (omega arith);
}
read (l ∷ ls) pre rest at room small = go l.most refl (read ls)
  where
    operands_in : {e : Expr} → l.most ≡ e → {n : ℕ} → Inside n l → Each (λ s. s < n) (operands_of e)
    operands_in e {n} i = subst (λ (m : Expr). Each (λ s. s < n) (operands_of m)) e i.operands

    counted : {e : Expr} → l.most ≡ e → written_count (l ∷ ls) ≡ length (written_of e) + written_count ls
    counted e = length-append (written_of l.most) (flat_map (λ (l : Limit). written_of l.most) ls) ∙ ap (λ m. length (written_of m) + written_count ls) e

    step : {e : Expr} → l.most ≡ e → with_limit (both at (place (pre ++ rest) (length pre))) l ≡ with_most (both at (place (pre ++ rest) (length pre))) l.target e
    step e = ap (with_most (both at (place (pre ++ rest) (length pre))) l.target) e

    Others : Type 0
    Others = (pre rest : List ℕ) (at : Place code.Limit) → written_count ls ≤ length rest → length pre + written_count ls ≤ largest → Read pre rest at ls

    beside : (e : Expr) (ss : List ℕ) (m : ℕ → ℕ → Most) → l.most ≡ e → written_of e ≡ ss → operands_of e ≡ ss
        → with_most (both at (place (pre ++ rest) (length pre))) l.target e ≡ with_operands m (both at (place (pre ++ rest) (length pre))) l.target ss
        → ((ops : List ℕ) (from to : ℕ) → slice_range ops from to ≡ ss → expr_of ops (m from to) ≡ e)
        → ((n : ℕ) (ops : List ℕ) (from to : ℕ) → Among n ops from to → Fed n ops (m from to))
        → Others → Read pre rest at (l ∷ ls)
    beside e ss m is w o writes means fed rec =
        let all : written_count (l ∷ ls) ≡ length ss + written_count ls = counted is ∙ ap (λ xs. length xs + written_count ls) w in
        let fits : length ss ≤ length rest = omega arith in
        let size : length (pre ++ ss) ≡ length pre + length ss = length-append pre ss in
        let end : min largest (puts (place (pre ++ rest) (length pre)) ss).at ≡ length (pre ++ ss) =
        ap (λ (p : Place ℕ). min largest p.at) (puts-behind ss pre rest fits) ∙ omega arith in
        read_operands pre rest at l ls ss m (min largest (length pre)) (min largest (puts (place (pre ++ rest) (length pre)) ss).at)
        fits (omega arith) end (step is ∙ writes) (λ ops r. means ops _ _ r ∙ sym is)
        (λ n ops i a b r. fed n ops _ _ (among n ops ss _ _ (subst (Each (λ s. s < n)) o (operands_in is i)) a b r))
        (rec (pre ++ ss) (drop (length ss) rest) _ (omega (arith, length-drop (length ss) rest)) (omega arith))

    go : (e : Expr) → l.most ≡ e → Others → Read pre rest at (l ∷ ls)
    go (times k s) e rec =
        let all : written_count (l ∷ ls) ≡ 0 + written_count ls = counted e in
        read_code pre rest at l ls (Times k s) (step e) (λ ops. sym e) (λ n ops i. operands_in e i s (here refl)) (rec pre rest _ (omega arith) (omega arith))
    go (quotient s k) e rec =
        let all : written_count (l ∷ ls) ≡ 0 + written_count ls = counted e in
        read_code pre rest at l ls (Quotient s k) (step e) (λ ops. sym e) (λ n ops i. operands_in e i s (here refl)) (rec pre rest _ (omega arith) (omega arith))
    go (sum ss) e rec = beside (sum ss) ss Sum e refl refl refl (λ ops from to r. ap sum r) (λ n ops from to a. a) rec
    go (product ss) e rec = at_test (nat_eq (length ss) 1) refl
      where
        at_test : (b : Bool) → nat_eq (length ss) 1 ≡ b → Read pre rest at (l ∷ ls)
        at_test true q =
            let one : length ss ≡ 1 = eqb-true (length ss) 1 q in
            let none : written_of (product ss) ≡ [] = ap (λ b. if b then [] else ss) q in
            let all : written_count (l ∷ ls) ≡ 0 + written_count ls = counted e ∙ ap (λ xs. length xs + written_count ls) none in
            let single : slice_index ss 0 ∷ [] ≡ ss = sym (one_is ss one) in
            read_code pre rest at l ls (Size (slice_index ss 0))
            (step e
            ∙ ap (λ b. if b then with_code (both at (place (pre ++ rest) (length pre))) l.target (Size (slice_index ss 0))
            else with_operands Product (both at (place (pre ++ rest) (length pre))) l.target ss) q)
            (λ ops. ap product single ∙ sym e)
            (λ n ops i. subst⁻¹ (Each (λ s. s < n)) single (operands_in e i) (slice_index ss 0) (here refl))
            (rec pre rest _ (omega arith) (omega arith))
        at_test false q =
            beside (product ss) ss Product e (ap (λ b. if b then [] else ss) q) refl
            (ap (λ b. if b then with_code (both at (place (pre ++ rest) (length pre))) l.target (Size (slice_index ss 0))
            else with_operands Product (both at (place (pre ++ rest) (length pre))) l.target ss) q)
            (λ ops from to r. ap product r) (λ n ops from to a. a) rec

-- ---- from the fronts of two slices on

-- Limits were written into slices into which nothing had been written, so few operands that the place of each fits 32 bits
module _ {o n : Writer} {ls : List Limit} (w : Encoded o ls n) (f : Fresh o (length ls) (written_count ls)) (few : written_count ls ≤ largest) where
  abbrev limits : List code.Limit
  limits = o.limits.buffer.now

  abbrev operands : List ℕ
  operands = o.operands.buffer.now

  r : Read [] operands (place limits 0) ls
  r = read ls [] operands (place limits 0) f.operands_room (omega arith)

  written : both_of n ≡ fold with_limit (both (place limits 0) (place operands 0)) ls
  written = w.is ∙ ap₂ (λ i j. fold with_limit (both (place limits i) (place operands j)) ls) f.limits_at f.operands_at

  is : both_of n ≡ both (place (sets limits 0 r.codes) (0 + length r.codes)) (place r.all r.end)
  unfolding r
  is = written ∙ r.is ∙ ap (λ p. both p (place r.all r.end)) (puts-room limits r.codes 0 (omega (arith, r.count, f.limits_room)))

  ops_are : n.operands.buffer.now ≡ r.all
  ops_are = ap (λ (s : Both). s.operands.items) is

  read-count : n.limits.at ≡ length ls
  read-count = ap (λ (s : Both). s.limits.at) is ∙ omega (arith, r.count)

  pub read-within : n.limits.at ≤ length n.limits.buffer.now
  read-within =
      let long : length n.limits.buffer.now ≡ length limits =
      ap (λ (s : Both). length s.limits.items) written ∙ limits_long ls (both (place limits 0) (place operands 0)) in
      omega (arith, read-count, f.limits_room)

  front : take n.limits.at n.limits.buffer.now ≡ r.codes
  front =
      let m : n.limits.at ≡ length r.codes = read-count ∙ sym r.count in
      ap₂ take m (ap (λ (s : Both). s.limits.items) is ∙ sets-eq r.codes limits 0 (omega (arith, r.count, f.limits_room)))
      ∙ take-append_seam r.codes (drop (0 + length r.codes) limits)

  -- the limits are read back, and are whole
  pub read-limits : map (limit_of n.operands.buffer.now) (take n.limits.at n.limits.buffer.now) ≡ ls
  unfolding r
  read-limits = ap₂ (λ ops xs. map (limit_of ops) xs) ops_are front ∙ r.means

  pub read-whole : (m : ℕ) → Each (Inside m) ls → All (Within m n.operands.buffer.now) (take n.limits.at n.limits.buffer.now)
  unfolding r
  read-whole m h = subst⁻¹ (λ ops. All (Within m ops) (take n.limits.at n.limits.buffer.now)) ops_are (subst⁻¹ (All (Within m r.all)) front (r.whole m h))
