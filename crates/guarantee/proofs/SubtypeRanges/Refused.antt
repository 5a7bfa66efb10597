-- A type line that is refused after types that have no fault refuses the diagram at its line, in whatever form the lines stand.
use Prim.Native.Nat.{ℕ, zero, suc, ◌+◌, ◌≤◌, ◌<◌}
use native.Mathlib.Omega.{arith}
use Rattle.std.specs.Prelude.{◌≡◌, true}
use Rattle.std.proofs.Math.Path.{refl, sym, ap}
use Rattle.std.proofs.Common.{◌∙◌, lit≤}
use Rattle.std.proofs.Math.Option.{some}
use mathlib.Core.List.{List, [], ◌∷◌, ◌++◌, map, append_assoc, append-nil}
use Rattle.std.proofs.Math.ListN.{length, length-append}
use Rattle.orm.specs.Diagram.{ObjectType, Line, LineKind, diagram_line, types_line, type_line, line_of_count, line_of_type}
use Rattle.orm.specs.Reader.{rejected, Cut}
use Rattle.orm.specs.Form.{first_of, ranges, in_ranges, type_of, type_tests, line, count, types_after, diagram_lines, whole_diagram, reading}
use Rattle.orm.specs.Outcome.{refused, outcome_of}
use Rattle.orm.specs.Calls.{diagram_in}
use Rattle.orm.proofs.Laws.Readers.{bind_read, bind_rejected}
use Rattle.orm.specs.Meaning.{Between}
use Rattle.reading.specs.Exact.{written, written_append}
use Rattle.reading.specs.Lines.{Cuts}
use Rattle.reading.specs.Kinds.{type-refused, type-exact, count-exact}
use Rattle.reading.specs.Types.{NextTypes}

module _ (form : LineKind → List ℕ → List ℕ) (next : LineKind → List ℕ → Cut) (cuts : Cuts form next) where
  -- one line before others
  first-line : (l : Line) (ls : List Line) (rest : List ℕ) → written form (l ∷ ls) ++ rest ≡ written form (l ∷ []) ++ (written form ls ++ rest)
  first-line l ls rest =
      ap (λ (x : List ℕ). x ++ rest) (written_append form (l ∷ []) ls) ∙ append_assoc (written form (l ∷ [])) (written form ls) rest

  module _ (all : List ObjectType) (t : ObjectType) (ranged : in_ranges (ranges type_line) (line_of_type t).values ≡ true) {c : ℕ}
      (fails : first_of (type_tests (suc (length all)) all t) ≡ some c) where
    types-refused : (before ts : List ObjectType) (left : ℕ) → before ++ ts ≡ all → NextTypes before (length ts) ts
        → length before + length ts ≤ 32 → length ts < left → (n : ℕ) (rest : List ℕ)
        → types_after next before left n (written form (map line_of_type ts ++ line_of_type t ∷ []) ++ rest) ≡ rejected c (n + length ts)
    unfolding types_after
    types-refused before ts zero e w b l n rest = absurd (omega arith)
    types-refused before [] (suc left) e w b l n rest =
        let own : before ≡ all = sym (append-nil before) ∙ e in
        let place : n ≡ n + 0 = omega arith in
        bind_rejected (line next type_line type_of (type_tests (suc (length before)) before)) _
        (rw own (type-refused form next cuts (suc (length all)) all t ranged fails n rest) ∙ ap (rejected c) place)
    types-refused before (u ∷ ts) (suc left) e w b l n rest =
        let more : length (before ++ u ∷ []) ≡ length before + 1 = length-append before (u ∷ []) in
        let place : n + 1 + length ts ≡ n + suc (length ts) = omega arith in
        rw (first-line (line_of_type u) (map line_of_type ts ++ line_of_type t ∷ []) rest)
        (bind_read (line next type_line type_of (type_tests (suc (length before)) before)) _ n _ u (n + 1) _
        ((type-exact form next cuts (suc (length before)) before (omega arith)).every u w.0 n _)
        ∙ bind_rejected (types_after next (before ++ u ∷ []) left) _
        (types-refused (before ++ u ∷ []) ts left (append_assoc before (u ∷ []) ts ∙ e) w.1 (omega arith) (omega arith) (n + 1) rest)
        ∙ ap (rejected c) place)

    pub diagram-refused : (kind : ℕ) → Between 1 kind 2 → (n : ℕ) → Between 1 n 32 → NextTypes [] (length all) all → length all < n → (rest : List ℕ)
        → diagram_in next (written form (line_of_count diagram_line kind ∷ line_of_count types_line n ∷ map line_of_type all ++ line_of_type t ∷ []) ++ rest)
        ≡ refused c (3 + length all) 0
    unfolding diagram_in reading whole_diagram diagram_lines outcome_of
    diagram-refused kind kinds n few w room rest =
        ap outcome_of (bind_rejected (diagram_lines next) _ lines-refused)
      where
        after-count : List Line
        after-count = map line_of_type all ++ line_of_type t ∷ []

        lines-refused : diagram_lines next 1 (written form (line_of_count diagram_line kind ∷ line_of_count types_line n ∷ after-count) ++ rest)
            ≡ rejected c (3 + length all)
        lines-refused =
            rw (
              first-line (line_of_count diagram_line kind) (line_of_count types_line n ∷ after-count) rest,
              first-line (line_of_count types_line n) after-count rest,
            )
            (bind_read (count next diagram_line) _ 1 _ kind 2 _
            ((count-exact form next cuts diagram_line 1 2 (unfold ranges in refl) (lit≤ tt)).every kind kinds 1 _)
            ∙ bind_read (count next types_line) _ 2 _ n 3 _
            ((count-exact form next cuts types_line 1 32 (unfold ranges in refl) (lit≤ tt)).every n few 2 _)
            ∙ bind_rejected (types_after next [] n) _ (types-refused [] all n refl w (omega arith) room 3 rest))
