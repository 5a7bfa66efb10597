-- How populating ends: what the check hands back as an answer, and the cells in the buffer.
use Prim.Native.Nat.{ℕ, ◌≤◌, ◌<◌}
use native.Mathlib.Omega.{arith}
use mathlib.Core.Path.{◌≡◌, refl, ap, ◌∙◌}
use mathlib.Core.List.{List}
use lib.ListN.{length, take}
use Rattle.orm.specs.Text.{table_line}
use Rattle.orm.specs.Sets.{set_count}
use Rattle.orm.specs.Outcome.{Outcome, accepted, ◌>>=◌, fitted, buffer_after, Sized, written}
use Rattle.orm.specs.Calls.{diagram_in, sizes_by, settled_into, populate_call}
use Rattle.reading.specs.Laws.{fits, does_not-fit}
use Rattle.std.specs.Prelude.{Result, Ok, Err}
use Rattle.refusals.specs.declared.Refusal.{Refusal}
use Rattle.refusals.specs.declared.Refusal.TheVariants.{TooShort}
use Rattle.widening.specs.Answer.{acceptance_of, described, widened}
use Rattle.widening.specs.Laws.Accepts.{accepted-refused, accepted_as}
use Rattle.widening.specs.declared.Widened.{Widened}
use Rattle.limits.specs.Prepared.{most_sets, ValidTotals}
use Rattle.bounds.specs.Answer.{Answered, checked, Settled}
use Rattle.bounds.specs.Start.{Starts}
use Rattle.bounds.specs.declared.Start.{Start}
use Rattle.bounds.specs.declared.Start.TheVariants.{Own}
use Rattle.bounds.specs.Laws.Ends.{Ends, emptied, settled, ends, sizes-settled}
use Rattle.bounds.specs.declared.Written.{Written}
use Rattle.buffer.specs.Written.{WroteAll}
use Rattle.buffer.specs.Laws.{wrote-whole}
use Rattle.table.specs.Positions.{diagram_of}
use Rattle.tuples.specs.Steps.{Small}
use Rattle.populate.specs.Answer.{cells_of, filled, populated}
use Rattle.populate.specs.Laws.{settled-small}

-- ---- the cells in the buffer

module _ (t c o : List ℕ) (rounds : ℕ) where
  abbrev made : List ℕ
  made = cells_of (diagram_of t) c

  abbrev then : Outcome (List ℕ) → Outcome Sized
  then q = q >>= λ w. accepted (record { rounds = rounds; result = w })

  ends_so : filled t rounds c (length o) ≡ then (fitted (length o) made)
  unfolding settled_into sizes_by
  ends_so = refl

  pub fit-short : {n : ℕ} → n ≡ length made → length o < n → Answered (filled t rounds c (length o)) (Err (TooShort n)) o o
  unfolding written buffer_after
  fit-short e h = rw (ends_so ∙ ap then (does_not-fit (length o) made (rw (← e) h)), e) (record { handed = refl; buffer = refl })

  pub fit-whole : {n to : ℕ} {o' : List ℕ} → n ≡ length made → n ≤ length o → WroteAll o made o' to
      → Answered (filled t rounds c (length o)) (Ok (record { length = n; rounds = rounds })) o o'
  unfolding written buffer_after
  fit-whole e h w =
      let l : length made ≤ length o = rw (← e) h in
      rw (ends_so ∙ ap then (fits (length o) made l), e) (record { handed = refl; buffer = wrote-whole w l })

-- ---- the sizes that the check has settled on

module _ (x : Start) (t s : List ℕ) {s' : List ℕ} {roles groups : ℕ} (r : Result Written Refusal) {v : Written} (p : r ≡ Ok v) (known : ValidTotals t roles groups)
    (starts : Starts x (set_count (diagram_of t))) (room : length s ≡ most_sets) (h : Answered (checked x t (length s)) r s s') where
  ended : Settled x t (take v.length s') v.rounds
  ended = sizes-settled x t s r p known starts room h

  pub front-small : Small (take v.length s')
  front-small = settled-small ended

  pub front-filled : {o o' : List ℕ} {a : Result Written Refusal} → Answered (filled t v.rounds (take v.length s') (length o)) a o o' → Answered (populated x t (length o)) a o o'
  front-filled w = rw ended.ended w

-- ---- the check's refusals are handed on

module _ (x : Start) (t s b : List ℕ) {s' : List ℕ} {roles groups : ℕ} (r : Result Written Refusal) (known : ValidTotals t roles groups)
    (starts : Starts x (set_count (diagram_of t))) (room : length s ≡ most_sets) (h : Answered (checked x t (length s)) r s s') where
  stays : {f : Refusal} → Ends x t s s' r → r ≡ Err f → Answered (populated x t (length b)) (Err f) b b
  unfolding settled_into sizes_by written buffer_after
  stays (emptied set n e q) p = rw (← p, e, q, settled_into) (record { handed = refl; buffer = refl })
  stays (settled n c y w q) p = let z : ◌≡◌ {A = ℕ} 0 1 = cc in absurd (omega arith)

  pub refused_on : {f : Refusal} → r ≡ Err f → Answered (populated x t (length b)) (Err f) b b
  refused_on p = stays (ends x t s s' known.valid starts room r h) p

-- ---- any table

module _ (t b : List ℕ) {r : Result Widened Refusal} {f : Refusal} (p : r ≡ Err f)
    (e : acceptance_of r ≡ described (diagram_in table_line t)) where
  pub table-refused : Answered (populate_call t (length b)) (Err f) b b
  unfolding populate_call written buffer_after
  table-refused = rw (accepted-refused t p e, populate_call) (record { handed = refl; buffer = refl })

module _ (t w : List ℕ) {w' : List ℕ} {r : Result Widened Refusal} {v : Widened} (p : r ≡ Ok v)
    (e : acceptance_of r ≡ described (diagram_in table_line t)) (ew : w' ≡ buffer_after (widened t) w) where
  pub table-populated : {o o' : List ℕ} {x : Result Written Refusal} → Answered (populated Own (take v.length w') (length o)) x o o'
      → Answered (populate_call t (length o)) x o o'
  unfolding populate_call
  table-populated h = rw ((accepted_as t w p e ew).reads, populate_call) h
