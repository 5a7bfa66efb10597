-- The program's output has at most 262,144 bytes: a line of rounds in 14, and at most 208 sizes and 16,000 cells, each in 12 with its key, come
-- to 194,510.
use Prim.Native.Nat.{ℕ, suc, ◌+◌, ◌*◌, ◌≤◌, ◌<◌}
use Rattle.std.proofs.Math.Decide.{dec_lt}
use native.Mathlib.Omega.{arith}
use Rattle.std.specs.Prelude.{◌≡◌, refl, take}
use Rattle.std.proofs.Common.{ap, ⊎_elim, length-take}
use mathlib.Core.List.Memᴰ
use mathlib.Core.List.Memᴰ.{tail as there}
use mathlib.Core.List.{List, [], ◌∷◌, ◌++◌, flat_map, flatten}
use Rattle.std.proofs.Math.ListN.{length, length-append}
use Rattle.counting.specs.Lists.{map_from}
use Rattle.counting.specs.Terms.{Each}
use Rattle.counting.proofs.Laws.Members.{each_nil, each-cons, in_flatten, in_flat_map}
use Rattle.counting.proofs.Laws.Index.{at_in, at-below, below_at, each2_at}
use Rattle.counting.proofs.Laws.Maps.{flat_map-single}
use Rattle.fixpoint.specs.Limits.{Verdict, unsatisfiable, fixpoint}
use Rattle.orm.specs.Diagram.{Diagram}
use Rattle.orm.specs.Text.{bytes, line_text, text_line}
use Rattle.orm.specs.Sets.{verdict}
use Rattle.orm.specs.Population.{Population, cells_of_type, cells_of_pred, cells}
use Rattle.orm.specs.Populate.{population}
use Rattle.orm.specs.Outcome.{Outcome, refused, accepted, ◌>>=◌, fitted}
use Rattle.orm.specs.Calls.{diagram_in, sizes_by, sizes_of}
use Rattle.orm.specs.Program.{pred_text, report, reported, output, program}
use Rattle.orm.specs.Meaning.{Between, Rows, Shaped}
use Rattle.orm.specs.WellFormed.{WellFormed}
use Rattle.orm.proofs.Laws.Shape.{population-shaped}
use Rattle.reading.specs.Laws.{text-accepted-iff, accepted_or_fault, fits, does_not-fit}
use Rattle.sound.proofs.Laws.{valid-small}
use Rattle.sound.proofs.Positions.{preds-length}
use Rattle.complete.proofs.Laws.{population-laws, fixpoint-solved}
use Rattle.orm.proofs.Laws.Rounds.{own-bounds}
use Rattle.extent.specs.Cells.{cells-at-most}
use Rattle.extent.specs.Bounds.{settled-rounds, settled-few, settled-small, emptied-rounds, emptied-set}
use Rattle.extent.specs.Places.{line-at-most}
use Rattle.extent.specs.Lines.{flat_map_self, flat_map-at-most, map_from-at-most, line-length}

abbrev Small : List ℕ → Type 0
Small vs = Each (◌≤ 999999) vs

small_one : (v : ℕ) → v ≤ 999999 → Small (v ∷ [])
small_one v h = each-cons _ h (each_nil _)

-- ---- what is printed of a population whose cells are small, against its cells

sizes-printed : (c : List ℕ) → Small c → length (flat_map (λ (s : ℕ). line_text "size" (s ∷ [])) c) ≤ 12 * length c
unfolding bytes
sizes-printed c h = omega (
  arith,
  flat_map-at-most 12 (λ (s : ℕ). line_text "size" (s ∷ [])) (λ (s : ℕ). s ∷ []) c
      (λ s m. omega (arith, line-length "size" (s ∷ []) (small_one s (h s m)))),
  ap length (flat_map-single c),
)

types-printed : (os : List (List ℕ)) → Small (flat_map cells_of_type os)
    → length (flat_map (line_text "type") os) ≤ 12 * length (flat_map cells_of_type os)
unfolding bytes cells_of_type
types-printed os h =
    flat_map-at-most 12 (line_text "type") cells_of_type os
    (λ vs m. omega (arith, line-length "type" vs (λ v l. h v (in_flat_map cells_of_type m (there l)))))

rows-printed : (rows : List (List ℕ)) → Each (λ row. 1 ≤ length row) rows → Small (flatten rows)
    → length (flat_map (line_text "row") rows) ≤ 12 * length (flatten rows)
unfolding bytes
rows-printed rows some h = omega (
  arith,
  flat_map-at-most 12 (line_text "row") (λ (row : List ℕ). row) rows
      (λ row m. omega (arith, some row m, line-length "row" row (λ v l. h v (in_flatten m l)))),
  ap length (flat_map_self rows),
)

pred-printed : (number : ℕ) (rows : List (List ℕ)) → number ≤ 999999 → Each (λ row. 1 ≤ length row) rows → Small (flatten rows)
    → length (pred_text number rows) ≤ 12 * length (cells_of_pred rows)
unfolding pred_text bytes cells_of_pred
pred-printed number rows l some h = omega (
  arith,
  length-append (line_text "pred" (number ∷ [])) (flat_map (line_text "row") rows),
  line-length "pred" (number ∷ []) (small_one number l),
  rows-printed rows some h,
)

module _ (d : Diagram) (o : Population) (form : WellFormed d) (shaped : Shaped d o) (small : Small (cells o)) where
  small-types : Small (flat_map cells_of_type o.types)
  unfolding cells
  small-types v m = small v (Memᴰ.append_left _ m)

  small-preds : Small (flat_map cells_of_pred o.preds)
  unfolding cells
  small-preds v m = small v (Memᴰ.append_right (flat_map cells_of_type o.types) m)

  preds-printed : length (flatten (map_from pred_text 1 o.preds)) ≤ 12 * length (flat_map cells_of_pred o.preds)
  unfolding cells_of_pred
  preds-printed = map_from-at-most 12 pred_text cells_of_pred 1 o.preds (λ i rows at.
      let as_many = preds-length d o shaped in
      let (p, at_p) = below_at d.preds i (omega (arith, at-below at, as_many)) in
      pred-printed (1 + i) rows (omega (arith, at-below at_p, form.pred_count.1))
      (λ row m. omega (arith, each2_at Rows shaped.preds at_p at row m, (form.preds p (at_in at_p)).arity.0))
      (λ v m. small-preds v (in_flat_map cells_of_pred (at_in at) (there m))))

  report-printed : (rounds : ℕ) (c : List ℕ) → rounds ≤ 999999 → Small c
      → length (report rounds c o) ≤ 14 + 12 * length c + 12 * length (cells o)
  unfolding report bytes cells
  report-printed rounds c l h =
      let a : List ℕ = line_text "rounds" (rounds ∷ []) in
      let b : List ℕ = flat_map (λ (s : ℕ). line_text "size" (s ∷ [])) c in
      let t : List ℕ = flat_map (line_text "type") o.types in
      let p : List ℕ = flatten (map_from pred_text 1 o.preds) in
      omega (
        arith,
        length-append (a ++ b ++ t) p,
        length-append (a ++ b) t,
        length-append a b,
        line-length "rounds" (rounds ∷ []) (small_one rounds l),
        sizes-printed c h,
        types-printed o.types small-types,
        preds-printed,
        length-append (flat_map cells_of_type o.types) (flat_map cells_of_pred o.preds),
      )

-- ---- what is printed of a diagram and of a text

refusal-printed : (c place round : ℕ) → c ≤ 999999 → place ≤ 999999 → round ≤ 999999
    → length (line_text "refused" (c ∷ place ∷ round ∷ [])) ≤ 29
unfolding bytes
refusal-printed c place round h k l =
    omega (arith, line-length "refused" (c ∷ place ∷ round ∷ []) (each-cons _ h (each-cons _ k (small_one round l))))

module _ (d : Diagram) (form : WellFormed d) where
  -- 'gives 16,000 cells'
  settled-printed : {n : ℕ} {c : List ℕ} → verdict d ≡ fixpoint n c
      → length (output (fitted 16000 (cells (population d c)) >>= λ w. accepted (report n c (population d c)))) ≤ 194510
  unfolding output
  settled-printed {n} {c} e = go (dec_lt 16000 (length (cells (population d c))))
    where
      ended : Outcome (List ℕ) → ℕ
      ended o = length (output (o >>= λ w. accepted (report n c (population d c))))

      go : Dec (16000 < length (cells (population d c))) → ended (fitted 16000 (cells (population d c))) ≤ 194510
      go (yes large) =
          let needed : length (cells (population d c)) ≤ 999999 = omega (arith, cells-at-most d form e) in
          omega (
            arith,
            ap ended (does_not-fit 16000 (cells (population d c)) large),
            refusal-printed 8 (length (cells (population d c))) 0 (omega arith) needed (omega arith),
          )
      go (no fit) =
          let v = (population-laws d c (fixpoint-solved form (own-bounds d) e)).valid in
          let few : length (cells (population d c)) ≤ 16000 = omega arith in
          let rounds-small : n ≤ 999999 = omega (arith, settled-rounds d form e) in
          omega (
            arith,
            ap ended (fits 16000 (cells (population d c)) few),
            report-printed d (population d c) form (population-shaped d c) (valid-small d form (cells (population d c)) v) n c rounds-small
                (λ s m. omega (arith, settled-small d form e s m)),
            settled-few d form e,
          )

printed : (input : List ℕ) → length (program input) ≤ 194510
unfolding program reported sizes_of sizes_by output
printed input = ⊎_elim (λ (d, e). of-diagram d e (verdict d) refl) of-fault (accepted_or_fault text_line (take 8192 input))
  where
    of-diagram : (d : Diagram) → diagram_in text_line (take 8192 input) ≡ accepted d → (v : Verdict) → verdict d ≡ v
        → length (program input) ≤ 194510
    of-diagram d e (unsatisfiable s n) q =
        let form : WellFormed d = ((text-accepted-iff (take 8192 input) d).0 e).1 in
        let set-small : suc s ≤ 999999 = omega (arith, emptied-set d form q) in
        let round-small : n ≤ 999999 = omega (arith, emptied-rounds d form q) in
        rw (e, reported, q, sizes_of, sizes_by) (omega (arith, refusal-printed 7 (suc s) n (omega arith) set-small round-small))
    of-diagram d e (fixpoint n c) q = rw (e, reported, q, sizes_of, sizes_by) (settled-printed d ((text-accepted-iff (take 8192 input) d).0 e).1 q)

    of-fault : (c : ℕ) × (place : ℕ) × Between 1 c 6 × (diagram_in text_line (take 8192 input) ≡ refused c place 0)
        → length (program input) ≤ 194510
    of-fault (c, place, h, e) =
        let number_small : c ≤ 999999 = omega arith in
        let place-small : place ≤ 999999 = omega (arith, line-at-most (take 8192 input) e, length-take 8192 input) in
        rw (e, reported) (omega (arith, refusal-printed c place 0 number_small place-small (omega arith)))

-- 'the program reads up to 8,192 bytes' (document 02, S-8), 'gives 16,000 cells, and prints rounds, sizes in set order, each type's values, each
-- predicate's number and rows; or `refused=NUMBER,PLACE,ROUND`': so much at most, whatever the input
pub program-at-most : (input : List ℕ) → length (program input) ≤ 262144
program-at-most input = omega (arith, printed input)
