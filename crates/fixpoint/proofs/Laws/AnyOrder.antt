-- Limits put to use one at a time, in any order: wherever no limit lowers an entry any more, the greatest solution stands; and it comes to that.
use Prim.Native.Nat.{ℕ, zero, suc, ◌+◌, ◌≤◌, ◌<◌}
use Rattle.std.specs.Prelude.{◌≡◌, ◌≢◌, ◌↔◌, ◌⊎◌, Bool, true, false, ◌||◌, get_or, replicate, set}
use Rattle.std.proofs.Math.Path.{refl, sym, ap}
use Rattle.std.proofs.Common.{◌∙◌, inl, inr, true≢false, le_refl, lt_of_not-le, le_of_suc-le-suc, eq-or-lt_of_le, ltb-true, ltb-false}
use Rattle.std.proofs.lemmas.Bool.{false≢true}
use mathlib.Core.List.Memᴰ.{head as here}
use mathlib.Core.List.{List, [], ◌∷◌, ◌++◌, map, map-append}
use Rattle.std.proofs.Math.Nat.{min-eq_right, zero-add}
use native.Mathlib.Omega.{arith}
use Rattle.std.proofs.Math.ListN.{length}
use Rattle.std.proofs.lemmas.List.{length-replicate}
use Rattle.counting.specs.Lists.{up_from}
use Rattle.counting.specs.Totals.{sum_over}
use Rattle.counting.proofs.Laws.Members.{each_nil, each-cons, each-head, each_tail}
use Rattle.counting.specs.Index.{At, first, later}
use Rattle.counting.proofs.Laws.Range.{up_from_snoc}
use Rattle.fixpoint.specs.Limits.{Limit, value_of, lowered, lowered_by, round, slack, lowers, step_at, lowers_at, any_lowers, steps_by}
use Rattle.fixpoint.specs.Notions.{◌≼◌, Satisfies, GreatestSolution, Lowers, LowersTo, EachLowers, Stable, ComesBack}
use Rattle.fixpoint.proofs.Laws.Order.{≼_refl, ≼_trans, ≼_antisym}
use Rattle.fixpoint.proofs.Laws.Round.{round_≼, round-sound, round_same}
use Rattle.fixpoint.proofs.Laws.Tests.{slack_less}

-- ---- one limit

-- One limit put to use is a round with this limit alone
step-is-round : (l : Limit) (c : List ℕ) → lowered c l c ≡ round (l ∷ []) c
unfolding round lowered_by
step-is-round l c = refl

step_same : (l : Limit) (c : List ℕ) → lowered c l c ≡ c → get_or c l.target 0 ≤ value_of c l.most
step_same l c e = (round_same (l ∷ []) c).0 (rw step-is-round at e) l (here refl)

step-holds : (l : Limit) (c : List ℕ) → get_or c l.target 0 ≤ value_of c l.most → lowered c l c ≡ c
step-holds l c h = rw step-is-round ((round_same (l ∷ []) c).1 (each-cons _ h (each_nil _)))

-- a limit that lowers nothing changes nothing
step-idle : (l : Limit) (c : List ℕ) → lowers c l ≡ false → lowered c l c ≡ c
unfolding lowers
step-idle l c e = step-holds l c (ltb-false _ _ e)

-- and one that lowers an entry does
step-lowers : (l : Limit) (c : List ℕ) → lowers c l ≡ true → lowered c l c ≢ c
unfolding lowers
step-lowers l c e h = absurd (omega (arith, ltb-true (value_of c l.most) (get_or c l.target 0) e, step_same l c h))

lowers_decides : (l : Limit) (c : List ℕ) → (lowers c l ≡ true) ↔ (lowered c l c ≢ c)
lowers_decides l c = (step-lowers l c, λ n. go (lowers c l) refl n)
  where
    go : (b : Bool) → lowers c l ≡ b → lowered c l c ≢ c → b ≡ true
    go true e n = refl
    go false e n = absurd (n (step-idle l c e))

-- ---- the limit with a number

pub step_at-is : (ls : List Limit) {k : ℕ} (c : List ℕ) {l : Limit} → At l ls k → step_at ls k c ≡ lowered c l c
unfolding step_at
step_at-is [] {k = k} c {l = l} x' = elim x' [ ]
step_at-is (x ∷ ls) c (first e) = ap (λ (y : Limit). lowered c y c) (sym e)
step_at-is (x ∷ ls) c (later h) = step_at-is ls c h

pub lowers_at-is : (ls : List Limit) {k : ℕ} (c : List ℕ) {l : Limit} → At l ls k → lowers_at ls k c ≡ lowers c l
unfolding lowers_at
lowers_at-is [] {k = k} c {l = l} x' = elim x' [ ]
lowers_at-is (x ∷ ls) c (first e) = ap (lowers c) (sym e)
lowers_at-is (x ∷ ls) c (later h) = lowers_at-is ls c h

-- what the tests say
pub lowers_at-iff : (ls : List Limit) (k : ℕ) (c : List ℕ) → (lowers_at ls k c ≡ true) ↔ Lowers ls k c
unfolding step_at lowers_at
lowers_at-iff [] k c = (λ e. absurd (false≢true e), λ n. absurd (n refl))
lowers_at-iff (l ∷ ls) zero c = lowers_decides l c
lowers_at-iff (l ∷ ls) (suc k) c = lowers_at-iff ls k c

pub lowers_at-idle : (ls : List Limit) (k : ℕ) (c : List ℕ) → lowers_at ls k c ≡ false → step_at ls k c ≡ c
unfolding step_at lowers_at
lowers_at-idle [] k c e = refl
lowers_at-idle (l ∷ ls) zero c e = step-idle l c e
lowers_at-idle (l ∷ ls) (suc k) c e = lowers_at-idle ls k c e

pub any_lowers-iff : (ls : List Limit) (c : List ℕ) → (any_lowers ls c ≡ false) ↔ Stable ls c
unfolding step_at any_lowers
any_lowers-iff [] c = (λ e k. refl, λ s. refl)
any_lowers-iff (l ∷ ls) c = split (lowers c l) refl (any_lowers-iff ls c)
  where
    split : (b : Bool) → lowers c l ≡ b → (any_lowers ls c ≡ false) ↔ Stable ls c → (b || any_lowers ls c ≡ false) ↔ Stable (l ∷ ls) c
    split true e iff = (λ q. absurd (true≢false q), λ s. absurd (step-lowers l c e (s 0)))
    split false e iff = (λ q. elim [ zero ↦ step-idle l c e | suc k ↦ iff.0 q k ], λ s. iff.1 (λ k. s (suc k)))

pub step_≼ : (ls : List Limit) (k : ℕ) (c : List ℕ) → step_at ls k c ≼ c
unfolding step_at
step_≼ [] k c = ≼_refl c
step_≼ (l ∷ ls) zero c = rw step-is-round (round_≼ (l ∷ []) c)
step_≼ (l ∷ ls) (suc k) c = step_≼ ls k c

step-sound : (ls : List Limit) (k : ℕ) {x c : List ℕ} → Satisfies ls x → x ≼ c → x ≼ step_at ls k c
unfolding step_at
step-sound [] k s p = p
step-sound (l ∷ ls) zero s p = rw step-is-round (round-sound (l ∷ []) (each-cons _ (each-head _ s) (each_nil _)) p)
step-sound (l ∷ ls) (suc k) s p = step-sound ls k (each_tail _ s) p

-- What a limit that lowers an entry does
pub lowers_to : (ls : List Limit) (k : ℕ) (c : List ℕ) → Lowers ls k c → LowersTo ls k c
unfolding step_at lowered
lowers_to [] k c n = absurd (n refl)
lowers_to (l ∷ ls) zero c n =
    let above : value_of c l.most < get_or c l.target 0 = lt_of_not-le (λ h. n (step-holds l c h)) in
    record {
      limit = l;
      numbered = first refl;
      above = above;
      lowered_to = ap (set c l.target) (min-eq_right (omega arith));
    }
lowers_to (l ∷ ls) (suc k) c n =
    let r = lowers_to ls k c n in
    record { limit = r.limit; numbered = later r.numbered; above = r.above; lowered_to = r.lowered_to }

stable_satisfies : (ls : List Limit) {c : List ℕ} → Stable ls c → Satisfies ls c
unfolding step_at
stable_satisfies [] s = each_nil _
stable_satisfies (l ∷ ls) {c} s = each-cons _ (step_same l c (s 0)) (stable_satisfies ls (λ k. s (suc k)))

-- ---- a sequence

pub steps_≼ : (ls : List Limit) (ks c : List ℕ) → steps_by ls ks c ≼ c
unfolding steps_by
steps_≼ ls [] c = ≼_refl c
steps_≼ ls (k ∷ ks) c = ≼_trans (steps_≼ ls ks (step_at ls k c)) (step_≼ ls k c)

steps-sound : (ls : List Limit) (ks : List ℕ) {x c : List ℕ} → Satisfies ls x → x ≼ c → x ≼ steps_by ls ks c
unfolding steps_by
steps-sound ls [] s p = p
steps-sound ls (k ∷ ks) s p = steps-sound ls ks s (step-sound ls k s p)

pub steps-greatest : (ls : List Limit) (ks start : List ℕ) → Stable ls (steps_by ls ks start) → GreatestSolution ls start (steps_by ls ks start)
steps-greatest ls ks start s = record {
  solution = record { under = steps_≼ ls ks start; limits = stable_satisfies ls s };
  greatest = λ x p. steps-sound ls ks p.limits p.under;
}

-- ---- the sum of all entries falls with each limit that lowers one

abbrev total : List ℕ → ℕ
total c = sum_over (λ x. x) c

zeros : List ℕ → List ℕ
zeros c = replicate (length c) 0

slack-zeros : (c : List ℕ) → slack (zeros c) c ≡ total c
unfolding slack sum_over zeros
slack-zeros [] = refl
slack-zeros (x ∷ c) = omega (arith, slack-zeros c)

get_or-zeros : (n i : ℕ) → get_or (replicate n 0) i 0 ≤ 0
get_or-zeros zero i = le_refl 0
get_or-zeros (suc n) zero = le_refl 0
get_or-zeros (suc n) (suc i) = get_or-zeros n i

total_less : {a b : List ℕ} → a ≼ b → a ≢ b → total a < total b
unfolding zeros
total_less {a} {b} p n =
    let e : zeros b ≡ zeros a = ap (λ m. replicate m 0) (sym p.sized) in
    let low : zeros a ≼ a = record { sized = length-replicate _ 0; entry = λ i. omega (arith, get_or-zeros (length a) i) } in
    omega (arith, slack-zeros a, slack-zeros b, ap (λ z. slack z b) e, slack_less low p n)

-- a sequence of limits that each lower an entry is no longer than that sum
pub lowers-within : (ls : List Limit) (ks c : List ℕ) → EachLowers ls ks c → length ks + total (steps_by ls ks c) ≤ total c
unfolding steps_by
lowers-within ls [] c h = omega arith
lowers-within ls (k ∷ ks) c (h, hs) = omega (arith, total_less (step_≼ ls k c) h, lowers-within ls ks (step_at ls k c) hs)

-- ---- it comes to an end

find_lowering : (ls : List Limit) (c : List ℕ) → ((k : ℕ) × (k < length ls) × Lowers ls k c) ⊎ Stable ls c
unfolding step_at
find_lowering [] c = inr (λ k. refl)
find_lowering (l ∷ ls) c = split (lowers c l) refl (find_lowering ls c)
  where
    split : (b : Bool) → lowers c l ≡ b → ((k : ℕ) × (k < length ls) × Lowers ls k c) ⊎ Stable ls c
        → ((k : ℕ) × (k < length (l ∷ ls)) × Lowers (l ∷ ls) k c) ⊎ Stable (l ∷ ls) c
    split true e r = inl (0, omega arith, step-lowers l c e)
    split false e (inl (k, h, n)) = inl (suc k, omega arith, n)
    split false e (inr s) = inr (elim [ zero ↦ step-idle l c e | suc k ↦ s k ])

steps_snoc : (ls : List Limit) (ks : List ℕ) (k : ℕ) (c : List ℕ) → steps_by ls (ks ++ k ∷ []) c ≡ step_at ls k (steps_by ls ks c)
unfolding steps_by
steps_snoc ls [] k c = refl
steps_snoc ls (j ∷ ks) k c = steps_snoc ls ks k (step_at ls j c)

module _ (ls : List Limit) where
  -- some sequence does, each of whose limits lowers an entry
  steps-within : (n : ℕ) (c : List ℕ) → total c < n → (ks : List ℕ) × EachLowers ls ks c × Stable ls (steps_by ls ks c)
  unfolding steps_by
  steps-within zero c h = absurd (omega arith)
  steps-within (suc n) c h = split (steps-within n) (find_lowering ls c)
    where
      split : ((a : List ℕ) → total a < n → (ks : List ℕ) × EachLowers ls ks a × Stable ls (steps_by ls ks a))
          → ((k : ℕ) × (k < length ls) × Lowers ls k c) ⊎ Stable ls c → (ks : List ℕ) × EachLowers ls ks c × Stable ls (steps_by ls ks c)
      split rest (inl (k, l, m)) =
          let (ks, hs, s) = rest (step_at ls k c) (omega (arith, total_less (step_≼ ls k c) m)) in
          (k ∷ ks, (m, hs), s)
      split rest (inr s) = ([], tt, s)

  pub steps-exist : (start : List ℕ) → (ks : List ℕ) × EachLowers ls ks start × Stable ls (steps_by ls ks start)
  steps-exist start = steps-within (suc (total start)) start (le_refl _)

  -- and so does every sequence without end that comes back to each limit
  module _ (start : List ℕ) (choice : ℕ → ℕ) (back : ComesBack (length ls) choice) where
    -- after the first n limits of it
    after : ℕ → List ℕ
    after zero = start
    after (suc n) = step_at ls (choice n) (after n)

    after-by : (n : ℕ) → after n ≡ steps_by ls (map choice (up_from 0 n)) start
    unfolding after steps_by up_from
    after-by zero = refl
    after-by (suc n) =
        ap (step_at ls (choice n)) (after-by n) ∙ sym (steps_snoc ls (map choice (up_from 0 n)) (choice n) start)
        ∙ ap (λ ks. steps_by ls ks start) (sym (ap (map choice) (rw zero-add at (up_from_snoc 0 n)) ∙ map-append choice (up_from 0 n) (n ∷ [])))

    later_≼ : (n m : ℕ) → n ≤ m → after m ≼ after n
    unfolding after
    later_≼ n zero h = let e : n ≡ 0 = omega arith in rw e (≼_refl _)
    later_≼ n (suc m) h = split (eq-or-lt_of_le h) (later_≼ n m)
      where
        split : (n ≡ suc m) ⊎ (n < suc m) → (n ≤ m → after m ≼ after n) → after (suc m) ≼ after n
        split (inl e) rest = rw e (≼_refl _)
        split (inr l) rest = ≼_trans (step_≼ ls (choice m) (after m)) (rest (le_of_suc-le-suc l))

    -- a limit that lowers an entry now, when the sequence comes back to it: by then some entry has been lowered
    falls : (n k i : ℕ) → n ≤ i → choice i ≡ k → Lowers ls k (after n) → total (after (suc i)) < total (after n)
    unfolding after
    falls n k i h e m = total_less (later_≼ n (suc i) (omega arith)) differs
      where
        -- otherwise nothing was lowered in between, and this limit lowers an entry of what stood then
        differs : after (suc i) ≢ after n
        differs q =
            let p : after n ≼ after i = rw q at (step_≼ ls (choice i) (after i)) in
            let kept : after i ≡ after n = ≼_antisym (later_≼ n i h) p in
            m (rw (kept, e) at q)

    reaches-within : (b n : ℕ) → total (after n) < b → (i : ℕ) × Stable ls (after i)
    reaches-within zero n h = absurd (omega arith)
    reaches-within (suc b) n h = split (reaches-within b) (find_lowering ls (after n))
      where
        split : ((m : ℕ) → total (after m) < b → (i : ℕ) × Stable ls (after i))
            → ((k : ℕ) × (k < length ls) × Lowers ls k (after n)) ⊎ Stable ls (after n) → (i : ℕ) × Stable ls (after i)
        split rest (inl (k, l, m)) =
            let (i, g, e) = back k l n in
            rest (suc i) (omega (arith, falls n k i g e m))
        split rest (inr s) = (n, s)

    pub reaches : (n : ℕ) × Stable ls (steps_by ls (map choice (up_from 0 n)) start)
    reaches = let (i, s) = reaches-within (suc (total (after 0))) 0 (le_refl _) in (i, rw (after-by i) at s)
