-- The types: their first values and their cells.
use Rattle.std.specs.Prelude.{ℕ, ◌+◌, ◌≤◌, ◌≡◌, refl, length, get_or, drop}
use Rattle.std.proofs.Common.{arith, ap, ◌∙◌, sym}
use mathlib.Core.List.{List, [], ◌∷◌, ◌++◌, map, map-append, flat_map, append-nil}
use Rattle.counting.specs.Lists.{up_from}
use Rattle.counting.proofs.Laws.Range.{length-up_from}
use Rattle.counting.proofs.Laws.Maps.{flat_map_append}
use Rattle.orm.specs.Diagram.{Diagram}
use Rattle.orm.specs.Form.{type_of}
use Rattle.orm.specs.Population.{cells_of_type}
use Rattle.orm.specs.Supertypes.{root, first_value}
use Rattle.orm.specs.Populate.{type_values}
use Rattle.supertypes.specs.Laws.{entry-small, first-value-entry}
use Rattle.table.specs.Positions.{types_in, type_count, diagram_of, Walkable}
use Rattle.table.specs.Laws.Walks.{each-length}
use Rattle.selection.specs.Laws.Upto.{up_from_more}

-- ---- the first value

pub first-is : (t : List ℕ) (a : ℕ) {n r : ℕ} → n ≡ type_count t → r ≡ first_value (types_in n (drop 2 t)) a → r ≡ first_value (diagram_of t).types a
unfolding diagram_of
first-is t a en er = er ∙ ap (λ (k : ℕ). first_value (types_in k (drop 2 t)) a) en

pub first_under : (t : List ℕ) (a n : ℕ) {r : ℕ} → Walkable t → r ≡ first_value (types_in n (drop 2 t)) a → r ≤ 999999
first_under t a n w e = rw (e, first-value-entry t n a) (entry-small t n (root (types_in n (drop 2 t)) a) 2 w.small)

pub first_small : (t : List ℕ) (a : ℕ) → Walkable t → first_value (diagram_of t).types a ≤ 999999
unfolding diagram_of
first_small t a w = first_under t a (type_count t) w refl

-- ---- cells

module _ (d : Diagram) (c : List ℕ) where
  pub type-is : (a : ℕ) {n v : ℕ} → n ≡ get_or c a 0 → v ≡ first_value d.types a → cells_of_type (type_values d c a) ≡ (n ∷ []) ++ up_from v n
  unfolding cells_of_type type_values
  type-is a en ev = rw (en, ev, length-up_from (first_value d.types a) (get_or c a 0))

  -- of the first `n` types
  abbrev pub type_cells : ℕ → List ℕ
  type_cells n = flat_map cells_of_type (map (type_values d c) (up_from 0 n))

  pub types_none : type_cells 0 ≡ []
  unfolding up_from flat_map
  types_none = refl

  pub types_more : (n : ℕ) → type_cells (n + 1) ≡ type_cells n ++ cells_of_type (type_values d c n)
  unfolding flat_map
  types_more n =
      ap (λ l. flat_map cells_of_type (map (type_values d c) l)) (up_from_more 0 n)
      ∙ ap (flat_map cells_of_type) (map-append (type_values d c) (up_from 0 n) ((0 + n) ∷ []))
      ∙ flat_map_append cells_of_type (map (type_values d c) (up_from 0 n)) (type_values d c (0 + n) ∷ [])
      ∙ ap (λ l. type_cells n ++ l) (append-nil (cells_of_type (type_values d c (0 + n))))
      ∙ (let e : 0 + n ≡ n = omega arith in ap (λ k. type_cells n ++ cells_of_type (type_values d c k)) e)

pub types-long : (t : List ℕ) → length (diagram_of t).types ≡ type_count t
unfolding diagram_of
types-long t = each-length type_of 6 (type_count t) (drop 2 t)

pub types_all : (t c : List ℕ) {n : ℕ} → n ≡ type_count t
    → type_cells (diagram_of t) c (length (diagram_of t).types) ≡ type_cells (diagram_of t) c n
types_all t c e = ap (type_cells (diagram_of t) c) (types-long t ∙ sym e)
