-- How the check of a valid table ends where its buffer has room for the sizes of every table.
use Rattle.std.specs.Prelude.{ℕ, suc, ◌≤◌, ◌≡◌, List, ◌++◌, length, take, drop, Result, Ok, Err}
use Rattle.std.proofs.Common.{arith, sym, ap₂, ◌∙◌, length-append, length-take-le}
use Rattle.std.proofs.Math.Path.{refl, ap}
use Rattle.std.proofs.Math.Seq.{take-append_seam}
use Rattle.fixpoint.specs.Limits.{Verdict, unsatisfiable, fixpoint}
use Rattle.orm.specs.Sets.{set_count}
use Rattle.orm.specs.Outcome.{Outcome, refused, accepted, buffer_after, Sized, written, Handed, handed_back}
use Rattle.orm.specs.Calls.{sizes_by, settled_into}
use Rattle.reading.specs.Laws.{fits}
use Rattle.refusals.specs.Refusal.{refusal_of}
use Rattle.refusals.specs.Laws as refusals
use Rattle.refusals.specs.declared.Refusal.TheVariants.{Emptied, TooShort}
use Rattle.table.specs.Positions.{diagram_of}
use Rattle.table.specs.Valid.{Valid}
use Rattle.limits.specs.Prepared.{most_sets, ValidTotals}
use Rattle.bounds.specs.Answer.{settlement_of, Answered, unchanged, checked, Settled}
use Rattle.bounds.specs.Start.{verdict_by, Starts}
use Rattle.bounds.specs.Laws.Starts.{starts-inside}
use Rattle.bounds.specs.Laws.Sizes.{sizes-few}
use Rattle.bounds.specs.declared.Start.{Start}
use Rattle.refusals.specs.declared.Refusal.{Refusal}
use Rattle.bounds.specs.declared.Written.{Written}

-- ---- an answer is told by its numbers

abbrev settled_as : ℕ → ℕ → Written
settled_as length rounds = record { length = length; rounds = rounds }

pub told-emptied : (r : Result Written Refusal) {set n : ℕ} → settlement_of r ≡ refused 7 set n → r ≡ Err (Emptied set n)
told-emptied (Ok w) h = let z : ◌≡◌ {A = ℕ} 0 1 = cc in absurd (omega arith)
told-emptied (Err x) h = ap Err (refusals.told-emptied x h)

pub told-short : (r : Result Written Refusal) {n : ℕ} → settlement_of r ≡ refused 8 n 0 → r ≡ Err (TooShort n)
told-short (Ok w) h = let z : ◌≡◌ {A = ℕ} 0 1 = cc in absurd (omega arith)
told-short (Err x) h = ap Err (refusals.told-short x h)

pub told-accepted : (r : Result Written Refusal) {k n : ℕ} → settlement_of r ≡ accepted (record { rounds = n; result_length = k })
    → r ≡ Ok (settled_as k n)
told-accepted (Err x) h = let z : ◌≡◌ {A = ℕ} 0 1 = cc in absurd (omega arith)
told-accepted (Ok w) {k} {n} h =
    let e : ◌≡◌ {A = Handed} (record { rounds = w.rounds; result_length = w.length }) (record { rounds = n; result_length = k }) = cc in
    ap₂ (λ (l m : ℕ). Ok (settled_as l m)) (ap (λ (x : Handed). x.result_length) e) (ap (λ (x : Handed). x.rounds) e)

-- ---- what the rounds end with, in the buffer

module _ {before after : List ℕ} {r : Result Written Refusal} where
  unsatisfiable-so : (set n : ℕ) → Answered (settled_into 7 unchanged (unsatisfiable set n) (length before)) r before after
      → settlement_of r ≡ refused 7 (suc set) n
  unfolding settled_into sizes_by
  unsatisfiable-so set n a = a.handed

  module _ (n : ℕ) (c : List ℕ) (few : length c ≤ length before) (a : Answered (settled_into 7 unchanged (fixpoint n c) (length before)) r before after) where
    whole : settled_into 7 unchanged (fixpoint n c) (length before) ≡ accepted (record { rounds = n; result = c })
    unfolding settled_into sizes_by
    whole = rw (fits (length before) c few) refl

    settled-handed : settlement_of r ≡ accepted (record { rounds = n; result_length = length c })
    settled-handed = a.handed ∙ ap handed_back whole

    settled-buffer : after ≡ c ++ drop (length c) before
    unfolding written buffer_after
    settled-buffer = a.buffer ∙ ap (λ (o : Outcome Sized). buffer_after (written o) before) whole

-- ---- a set is emptied; or the sizes have settled, and stand at the front of the buffer

pub data Ends (x : Start) (t before after : List ℕ) (r : Result Written Refusal) : Type 0 where
  emptied : (set n : ℕ) → verdict_by x (diagram_of t) ≡ unsatisfiable set n → r ≡ Err (Emptied (suc set) n) → Ends x t before after r
  settled : (n : ℕ) (c : List ℕ) → Settled x t c n → after ≡ c ++ drop (length c) before → r ≡ Ok (settled_as (length c) n) → Ends x t before after r

module _ (x : Start) (t before after : List ℕ) (v : Valid t) (starts : Starts x (set_count (diagram_of t)))
    (room : length before ≡ most_sets) (r : Result Written Refusal) (h : Answered (checked x t (length before)) r before after) where
  pub ends : Ends x t before after r
  ends = go (verdict_by x (diagram_of t)) refl h
    where
      go : (o : Verdict) → verdict_by x (diagram_of t) ≡ o → Answered (settled_into 7 unchanged o (length before)) r before after → Ends x t before after r
      go (unsatisfiable set n) e a = emptied set n e (told-emptied r (unsatisfiable-so set n a))
      go (fixpoint n c) e a =
          let few : length c ≤ length before = omega (arith, sizes-few (diagram_of t) v.formed (starts-inside x (diagram_of t) starts) e) in
          settled n c (record { valid = v; starts = starts; ended = e }) (settled-buffer n c few a) (told-accepted r (settled-handed n c few a))

-- ---- the sizes at the front

module _ (x : Start) (t before : List ℕ) {after : List ℕ} {roles groups : ℕ} (r : Result Written Refusal) {v : Written} (p : r ≡ Ok v)
    (known : ValidTotals t roles groups) (starts : Starts x (set_count (diagram_of t))) (room : length before ≡ most_sets)
    (h : Answered (checked x t (length before)) r before after) where
  record Front : Type 0 where
    sizes : List ℕ
    count : v.length ≡ length sizes
    sound : Settled x t sizes v.rounds
    buffer : after ≡ sizes ++ drop (length sizes) before

  front_of : Ends x t before after r → Front
  front_of (emptied set m u e) = let z : ◌≡◌ {A = ℕ} 0 1 = cc in absurd (omega arith)
  front_of (settled m c s w e) =
      let same : v ≡ settled_as (length c) m = cc in
      let ek : v.length ≡ length c = ap (λ (w : Written). w.length) same in
      let en : v.rounds ≡ m = ap (λ (w : Written). w.rounds) same in
      record { sizes = c; count = ek; sound = rw en s; buffer = w }

  here : Front
  here = front_of (ends x t before after known.valid starts room r h)

  pub sizes-within : v.length ≤ length after
  sizes-within = omega (arith, here.count, ap length here.buffer, length-append here.sizes (drop (length here.sizes) before))

  pub sizes-count : v.length ≡ length (take v.length after)
  sizes-count = sym (length-take-le v.length after sizes-within)

  pub sizes-settled : Settled x t (take v.length after) v.rounds
  sizes-settled =
      let front : take v.length after ≡ here.sizes =
      ap (take v.length) here.buffer ∙ ap (λ (m : ℕ). take m (here.sizes ++ drop (length here.sizes) before)) here.count
      ∙ take-append_seam here.sizes (drop (length here.sizes) before) in
      rw front here.sound
