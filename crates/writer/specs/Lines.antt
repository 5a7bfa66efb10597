-- Words for what single functions write, and for what they are told of a table.
use Rattle.std.specs.Prelude.{ℕ, ◌≡◌, length}
use mathlib.Core.List.{List, [], ◌∷◌, map, flat_map}
use Rattle.orm.specs.Diagram.{Predicate, Diagram, Line, diagram_line, types_line, line_of_count, line_of_type, line_of_role, lines_of_pred, all_roles}
use Rattle.reading.specs.Exact.{written}
use Rattle.reading.specs.Cutting.{text_form}
use Rattle.table.specs.Positions.{wide_role, diagram_of}
use Rattle.table.specs.Valid.{Valid}

-- The text of some lines
abbrev pub lines_text : List Line → List ℕ
lines_text ls = written text_form ls

-- The line of the role that stands here, in a diagram of this kind
abbrev pub role_text : ℕ → List ℕ → List ℕ
role_text kind s = lines_text (line_of_role kind (wide_role s) ∷ [])

-- The lines up to the last type's
unfoldable pub lines_to_types : Diagram → List Line
lines_to_types d = line_of_count diagram_line d.kind ∷ line_of_count types_line (length d.types) ∷ map line_of_type d.types

abbrev pub pred_lines : ℕ → List Predicate → List ℕ
pred_lines kind ps = lines_text (flat_map (lines_of_pred kind) ps)

-- A valid table, whose diagram has so many types, predicates and roles
pub record Counted (t : List ℕ) (m n r : ℕ) : Type 0 where
  pub valid : Valid t
  pub types : m ≡ length (diagram_of t).types
  pub preds : n ≡ length (diagram_of t).preds
  pub roles : r ≡ length (all_roles (diagram_of t))
