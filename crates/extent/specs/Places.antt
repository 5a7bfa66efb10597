-- The line at which a text is refused: every line before it has a byte at least, so its number is at most one more than the text's length.
use Prim.Native.Nat.{ℕ, zero, suc, ◌+◌, ◌≤◌, ◌<◌}
use native.Mathlib.Omega.{arith}
use Rattle.std.specs.Prelude.{◌≡◌, get_or}
use Rattle.std.proofs.Math.Path.{refl}
use Rattle.std.proofs.Common.{ap, subst, length-append}
use Rattle.std.proofs.Math.Option.{Option, none, some}
use mathlib.Core.List.{List, [], ◌∷◌, ◌++◌}
use Rattle.std.proofs.Math.ListN.{length}
use Rattle.orm.specs.Diagram.{Diagram, Totals, LineKind}
use Rattle.orm.specs.Reader.{Reading, rejected, read, Cut, broken, cut}
use Rattle.orm.specs.Form.{Test, ◌unless◌, first_of, ranges, in_ranges, reading}
use Rattle.orm.specs.Text.{bytes, key, values_text, line_text, text_line}
use Rattle.orm.specs.Outcome.{refused, outcome_of}
use Rattle.orm.specs.Calls.{diagram_in}
use Rattle.reading.specs.Cutting.{text_form, text_cuts}
use Rattle.reading.specs.Walk.{Summary, Walk, plus, no_roles, line_then, lines_then, nothing_left, from_end, groups_then, roles_then}
use Rattle.reading.specs.Walk.{from_preds, from_preds_line, from_types, from_types_line, from_start}
use Rattle.reading.specs.Walks.Diagrams.{told, walk-reads}

-- A refusal's place is at most `b`
abbrev PlaceAtMost : {A : Type 0} → ℕ → Reading A → Type 0
PlaceAtMost b (rejected c at) = at ≤ b
PlaceAtMost b (read a n rest) = Unit {0}

at-most-more : {A : Type 0} {a b : ℕ} → a ≤ b → (r : Reading A) → PlaceAtMost a r → PlaceAtMost b r
at-most-more l (rejected c at) h = omega arith
at-most-more l (read a n rest) h = tt

-- From any place on, a refusal is at most as many lines further as there are bytes left
abbrev Near : Walk → Type 0
Near w = (acc : List ℕ) (n : ℕ) (s : List ℕ) → PlaceAtMost (n + length s) (w acc n s)

module _ (next : LineKind → List ℕ → Cut)
    (shorter : (k : LineKind) (s v rest : List ℕ) → next k s ≡ cut v rest → length rest < length s) where
  line-near : (k : LineKind) (tests : List ℕ → List Test) (then : List ℕ → Walk) → ((v : List ℕ) → Near (then v))
      → Near (line_then next k tests then)
  unfolding line_then
  line-near k tests then h acc n s = go (next k s) refl
    where
      tested : (v rest : List ℕ) → length rest < length s → (o : Option ℕ)
          → PlaceAtMost {A = Summary} (n + length s) (elim o [ some c ↦ rejected c n | none ↦ then v (acc ++ v) (suc n) rest ])
      tested v rest l (some c) = omega arith
      tested v rest l none = at-most-more (omega arith) (then v (acc ++ v) (suc n) rest) (h v (acc ++ v) (suc n) rest)

      go : (c : Cut) → next k s ≡ c
          → PlaceAtMost {A = Summary} (n + length s) (elim c [
            | broken ↦ rejected 1 n
            | cut v rest ↦
                elim (first_of (2 unless in_ranges (ranges k) v ∷ tests v)) [
                  | some c ↦ rejected c n
                  | none ↦ then v (acc ++ v) (suc n) rest
                ]
          ])
      go broken e = omega arith
      go (cut v rest) e = tested v rest (shorter k s v rest e) (first_of (2 unless in_ranges (ranges k) v ∷ tests v))

  lines-near : (k : LineKind) (tests : ℕ → List ℕ → List ℕ → List Test) (own left : ℕ) (then : Walk) → Near then
      → Near (lines_then next k tests own left then)
  unfolding lines_then
  lines-near k tests own zero then h acc = h acc
  lines-near k tests own (suc left) then h acc = line-near k (tests own acc) _ (λ v. lines-near k tests (suc own) left then h) acc

  end-near : (t : Totals) → Near (from_end next t)
  unfolding from_end nothing_left
  end-near t acc = line-near _ _ _ (λ v. left) acc
    where
      left : Near (nothing_left next t)
      left acc n [] = tt
      left acc n (x ∷ s) = omega arith

  preds-near : (kind : ℕ) (t : Totals) (left : ℕ) → Near (from_preds next kind t left)
  unfolding from_preds roles_then groups_then
  preds-near kind t zero acc = end-near t acc
  preds-near kind t (suc left) acc =
      line-near _ _ _
      (λ v. lines-near _ _ 1 (get_or v 2 0) _ (lines-near _ _ 1 (get_or v 3 0) _ (preds-near kind (plus t (get_or v 2 0) (get_or v 3 0)) left))) acc

  start-near : Near (from_start next)
  unfolding from_start from_types_line from_types from_preds_line
  start-near acc =
      line-near _ _ _
      (λ u. λ acc. line-near _ _ _
      (λ v. lines-near _ _ 1 (get_or v 0 0) _ (λ acc. line-near _ _ _ (λ v. preds-near (get_or u 0 0) (no_roles _ (get_or v 0 0)) (get_or v 0 0)) acc)) acc) acc

text-shorter : (k : LineKind) (s v rest : List ℕ) → text_line k s ≡ cut v rest → length rest < length s
unfolding line_text
text-shorter k s v rest e = omega (
  arith,
  ap length (text_cuts.only k s v rest e).1,
  length-append (text_form k v) rest,
  length-append (bytes (key k)) (61 ∷ values_text v),
)

-- 'line, from 1'
pub line-at-most : (text : List ℕ) {c place round : ℕ} → diagram_in text_line text ≡ refused c place round → place ≤ 1 + length text
unfolding diagram_in outcome_of
line-at-most text {c} {place} {round} e =
    go (reading text_line text)
    (subst (PlaceAtMost (1 + length text)) (walk-reads text_line text_cuts text) (start-near text_line text-shorter [] 1 text)) e
  where
    go : (r : Reading Diagram) → PlaceAtMost (1 + length text) (told r) → outcome_of r ≡ refused c place round → place ≤ 1 + length text
    go (rejected c' at) h q = let z : at ≡ place = cc in omega arith
    go (read d n rest) h q = let z : ◌≡◌ {A = ℕ} 0 1 = cc in absurd (omega arith)
