-- What each branch prints is the report or the refusal.
use Prim.Native.Nat.{ℕ, suc, min, ◌≤◌, ◌<◌}
use native.Mathlib.Decide.{dec_le}
use native.Mathlib.Omega.{arith}
use mathlib.Core.Path.{◌≡◌, refl, sym, ap, ap₂, ◌∙◌, subst}
use mathlib.Core.List.{List, [], ◌∷◌, ◌++◌, append_assoc}
use lib.ListN.{length, take, drop, length-append}
use lib.Seq.{take-append_seam, take_all, length-take-le}
use Rattle.orm.specs.Diagram.{table}
use Rattle.orm.specs.Form.{type_of}
use Rattle.orm.specs.Text.{bytes, separator, decimal, values_text, line_text, table_line}
use Rattle.orm.specs.Populate.{population}
use Rattle.orm.specs.Outcome.{Outcome, refused, accepted, ◌>>=◌, fitted, length_of, buffer_after, Sized, written, handed_back}
use Rattle.orm.specs.Calls.{diagram_in, sizes_by, settled_into, read_call}
use Rattle.orm.specs.Program.{report, output, program}
use Rattle.orm.proofs.Laws.Shape.{population-shaped}
use Rattle.reading.specs.Laws.{fits, does_not-fit}
use Rattle.reading.specs.WideTable.{most_numbers}
use Rattle.reading.proofs.TableLength.{table-short}
use Rattle.std.specs.Prelude.{Result, Ok, Err}
use Rattle.refusals.specs.Refusal.{number_of, place_of, round_of, refusal_of}
use Rattle.refusals.specs.declared.Refusal.{Refusal}
use Rattle.refusals.specs.declared.Refusal.TheVariants.{Faulty, Emptied, TooShort, Cells, NoSuch, Impossible}
use Rattle.reader.specs.Answer.{conversion_of}
use Rattle.widening.specs.Answer.{acceptance_of, described, widened}
use Rattle.widening.specs.Laws.Accepts.{accepted-refused, accepted_as}
use Rattle.widening.specs.declared.Widened.{Widened}
use Rattle.limits.specs.Prepared.{most_sets, ValidTotals}
use Rattle.bounds.specs.Answer.{Answered, checked, Settled}
use Rattle.bounds.specs.Laws.Ends.{told-short, told-accepted, Ends, emptied, settled, ends}
use Rattle.bounds.specs.Laws.Starts.{starts-own}
use Rattle.bounds.specs.declared.Start.TheVariants.{Own}
use Rattle.bounds.specs.declared.Written.{Written}
use Rattle.buffer.specs.declared.output.Output.{Output}
use Rattle.buffer.specs.Written.{Wrote}
use Rattle.buffer.specs.Laws.{wrote_then, wrote_as}
use Rattle.table.specs.Positions.{type_count, diagram_of, Walkable}
use Rattle.table.specs.Laws.Valid.{valid-walkable}
use Rattle.table.specs.Laws.Walks.{each-length}
use Rattle.populate.specs.Answer.{cells_of, filled}
use Rattle.populate.specs.Demand3.{ReadMeans, TableRead}
use Rattle.populate.specs.Tied.{demand_3}
use Rattle.report.specs.Printed.{printed}
use Rattle.report.specs.Laws.Printed.{printed-report}
use Rattle.command.specs.Reports.{refusal_line, refused_as, report_of, text_report, table_report}
use Rattle.command.specs.Laws.Reports.{emptied-report, settled-report, large-report, text-report, faulty-report}
use Rattle.command.specs.Laws.Reports.{program-cut, program-whole}

-- ---- the refusal

pub refusal_is : {o o₁ o₂ o₃ o₄ : Output ℕ} (number place round : ℕ)
    → Wrote o (114 ∷ 101 ∷ 102 ∷ 117 ∷ 115 ∷ 101 ∷ 100 ∷ 61 ∷ []) o₁ → Wrote o₁ (decimal number ++ separator 2 ∷ []) o₂
    → Wrote o₂ (decimal place ++ separator 1 ∷ []) o₃ → Wrote o₃ (decimal round ++ separator 0 ∷ []) o₄
    → Wrote o (refusal_line number place round) o₄
unfolding refusal_line line_text bytes values_text separator
refusal_is number place round w₁ w₂ w₃ w₄ =
    let key : List ℕ = 114 ∷ 101 ∷ 102 ∷ 117 ∷ 115 ∷ 101 ∷ 100 ∷ 61 ∷ [] in
    let last : List ℕ = decimal round ++ 10 ∷ [] in
    let two : List ℕ = decimal place ++ 44 ∷ [] in
    wrote_as (wrote_then w₁ (wrote_then w₂ (wrote_then w₃ w₄)))
    (ap (λ (x : List ℕ). key ++ x)
    (append_assoc (decimal number) (44 ∷ []) (two ++ last) ∙ ap (λ (x : List ℕ). decimal number ++ 44 ∷ x) (append_assoc (decimal place) (44 ∷ []) last)))

-- the same refusal has the same line
refused-same : {x y : Refusal} → ◌≡◌ {A = Result Written Refusal} (Err x) (Err y) → refused_as x ≡ refused_as y
refused-same {x} {y} e = let same : x ≡ y = cc in ap refused_as same

-- ---- any table

module _ (t : List ℕ) {r : Result Widened Refusal} {f : Refusal} (p : r ≡ Err f)
    (e : acceptance_of r ≡ described (diagram_in table_line t)) where
  pub table-refused : {o o' : Output ℕ} → Wrote o (refused_as f) o' → Wrote o (table_report t) o'
  unfolding table_report output refusal_line
  table-refused w = wrote_as w (rw (accepted-refused t p e, table_report) refl)

module _ (t w : List ℕ) {w' : List ℕ} {r : Result Widened Refusal} {v : Widened} (p : r ≡ Ok v)
    (e : acceptance_of r ≡ described (diagram_in table_line t)) (ew : w' ≡ buffer_after (widened t) w) where
  pub table-printed : {o o' : Output ℕ} → Wrote o (report_of (diagram_of (take v.length w'))) o' → Wrote o (table_report t) o'
  unfolding table_report
  table-printed h = wrote_as h (rw ((accepted_as t w p e ew).reads, table_report) refl)

-- ---- after the check

module _ (t s s' : List ℕ) {roles groups : ℕ} (a : Result Written Refusal) (known : ValidTotals t roles groups) (long : length s ≡ most_sets)
    (h : Answered (checked Own t (length s)) a s s') where
  pub check-refused : {o o' : Output ℕ} {f : Refusal} → a ≡ Err f → Wrote o (refused_as f) o' → Wrote o (report_of (diagram_of t)) o'
  check-refused {o} {o'} {f} p v = wrote_as v (go (ends Own t s s' known.valid starts-own long a h))
    where
      go : Ends Own t s s' a → refused_as f ≡ report_of (diagram_of t)
      go (emptied set n e q) =
          let same : ◌≡◌ {A = Result Written Refusal} (Err f) (Err (Emptied (suc set) n)) = sym p ∙ q in
          refused-same same ∙ sym (emptied-report (diagram_of t) e)
      go (settled n c x w q) = let z : ◌≡◌ {A = ℕ} 0 1 = cc in absurd (omega arith)

-- ---- after populating

module _ {t c : List ℕ} {rounds : ℕ} (x : Settled Own t c rounds) where
  pub table-walkable : Walkable t
  table-walkable = valid-walkable x.valid

module _ (t c s s' : List ℕ) (rounds : ℕ) (x : Settled Own t c rounds) (a : Result Written Refusal) (long : length s ≡ 16000)
    (h : Answered (filled t rounds c (length s)) a s s') where
  abbrev made : List ℕ
  made = cells_of (diagram_of t) c

  abbrev then : Outcome (List ℕ) → Outcome Sized
  then o = o >>= λ w. accepted (record { rounds = rounds; result = w })

  ends_so : filled t rounds c (length s) ≡ then (fitted (length s) made)
  unfolding settled_into sizes_by
  ends_so = refl

  -- the cells do not fit; or they do, and stand at the front of the buffer
  data Filled : Type 0 where
    short : 16000 < length made → a ≡ Err (TooShort (length made)) → Filled
    whole : length made ≤ 16000 → s' ≡ made ++ drop (length made) s → a ≡ Ok (record { length = length made; rounds = rounds }) → Filled

  either : Filled
  unfolding written buffer_after
  either = go (dec_le (length made) (length s))
    where
      go : Dec (length made ≤ length s) → Filled
      go (yes l) =
          let e : filled t rounds c (length s) ≡ accepted (record { rounds = rounds; result = made }) = ends_so ∙ ap then (fits (length s) made l) in
          whole (omega arith) (h.buffer ∙ ap (λ (o : Outcome Sized). buffer_after (written o) s) e) (told-accepted a (h.handed ∙ ap handed_back e))
      go (no l) =
          let e : filled t rounds c (length s) ≡ refused 8 (length made) 0 = ends_so ∙ ap then (does_not-fit (length s) made (omega arith)) in
          short (omega arith) (told-short a (h.handed ∙ ap handed_back e))

  pub fill_refused : {o o' : Output ℕ} {f : Refusal} → a ≡ Err f → Wrote o (refused_as f) o' → Wrote o (report_of (diagram_of t)) o'
  fill_refused {o} {o'} {f} p v = wrote_as v (go either)
    where
      go : Filled → refused_as f ≡ report_of (diagram_of t)
      go (short l q) =
          let same : ◌≡◌ {A = Result Written Refusal} (Err f) (Err (TooShort (length made))) = sym p ∙ q in
          refused-same same ∙ sym (large-report (diagram_of t) x.ended l)
      go (whole l w q) = let z : ◌≡◌ {A = ℕ} 0 1 = cc in absurd (omega arith)

  module _ {u : Written} (q : a ≡ Ok u) where
    record Front : Type 0 where
      count : u.length ≡ length made
      room : length made ≤ 16000
      buffer : s' ≡ made ++ drop (length made) s

    front : Front
    front = go either
      where
        go : Filled → Front
        go (short l e) = let z : ◌≡◌ {A = ℕ} 0 1 = cc in absurd (omega arith)
        go (whole l w e) =
            let same : u ≡ record { length = length made; rounds = rounds } = cc in
            record { count = ap (λ (y : Written). y.length) same; room = l; buffer = w }

    cells-front : take u.length s' ≡ made
    cells-front = ap₂ take front.count front.buffer ∙ take-append_seam made (drop (length made) s)

    pub cells-within : u.length ≤ length s'
    cells-within = omega (arith, front.count, ap length front.buffer, length-append made (drop (length made) s))

    pub cells_count : u.length ≡ length (take u.length s')
    cells_count = sym (length-take-le u.length s' cells-within)

    pub fill_printed : {o o' : Output ℕ} → Wrote o (printed (diagram_of t) (type_count t) rounds c (take u.length s')) o'
        → Wrote o (report_of (diagram_of t)) o'
    unfolding diagram_of
    fill_printed v =
        let types : type_count t ≡ length (diagram_of t).types = sym (each-length type_of 6 (type_count t) (drop 2 t)) in
        let same : printed (diagram_of t) (type_count t) rounds c (take u.length s') ≡ report rounds c (population (diagram_of t) c) =
        ap (λ (m : ℕ). printed (diagram_of t) m rounds c (take u.length s')) types
        ∙ ap (printed (diagram_of t) (length (diagram_of t).types) rounds c) cells-front
        ∙ printed-report (diagram_of t) rounds c (population (diagram_of t) c) (population-shaped (diagram_of t) c) in
        wrote_as v (same ∙ sym (settled-report (diagram_of t) x.ended front.room))

-- ---- after reading

module _ (text s s' : List ℕ) (a : Result ℕ Refusal) (long : length s ≡ most_numbers) (e : conversion_of a ≡ length_of (read_call text (length s)))
    (w : s' ≡ buffer_after (read_call text (length s)) s) where
  told : ReadMeans text a s s'
  told = demand_3.of_text text s s' a (record { handed = e; buffer = w })

  pub read-refused : {o o' : Output ℕ} {f : Refusal} → a ≡ Err f → Wrote o (refused_as f) o' → Wrote o (text_report text) o'
  read-refused {f = f} q v = wrote_as v (go f (sym (ap conversion_of q) ∙ e) (subst (λ (x : Result ℕ Refusal). ReadMeans text x s s') q told))
    where
      go : (f : Refusal) → refusal_of f ≡ length_of (read_call text (length s)) → ReadMeans text (Err f) s s' → refused_as f ≡ text_report text
      go (Faulty f line) h m = sym (faulty-report text (length s) m.0 h)
      go (TooShort needed) h m = absurd (omega (arith, m.short, m.length_needed, long, table-short m.of.diagram m.of.well_formed))
      go (Emptied set round) h m = absurd m
      go (Cells at) h m = absurd m
      go (NoSuch number) h m = absurd m
      go (Impossible set round) h m = absurd m

  module _ {n : ℕ} (q : a ≡ Ok n) where
    z : TableRead text n s s'
    z = subst (λ (x : Result ℕ Refusal). ReadMeans text x s s') q told

    table-front : take n s' ≡ table z.of.diagram
    table-front = ap₂ take z.length_read z.front ∙ take-append_seam (table z.of.diagram) (drop n s)

    pub table-within : n ≤ length s'
    table-within = omega (arith, z.length_read, ap length z.front, length-append (table z.of.diagram) (drop n s))

    pub table-count : n ≡ length (take n s')
    table-count = sym (length-take-le n s' table-within)

    pub read-printed : {o o' : Output ℕ} → Wrote o (table_report (take n s')) o' → Wrote o (text_report text) o'
    read-printed v = wrote_as v (ap table_report table-front ∙ sym (text-report text z.of))

-- ---- the input

pub input_within : (input : List ℕ) → min (length input) 8192 ≤ length input
input_within input = omega arith

pub input-cut : (input : List ℕ) {n : ℕ} {o o' : Output ℕ} → n ≡ min (length input) 8192 → Wrote o (text_report (take n input)) o' → Wrote o (program input) o'
input-cut input {n} e v = wrote_as v (go (dec_le (length input) 8192))
  where
    go : Dec (length input ≤ 8192) → text_report (take n input) ≡ program input
    go (yes h) =
        let all : take n input ≡ input = take_all n input (omega arith) in
        ap text_report all ∙ sym (program-whole input h)
    go (no h) = let cut : n ≡ 8192 = omega arith in rw cut (sym (program-cut input))
