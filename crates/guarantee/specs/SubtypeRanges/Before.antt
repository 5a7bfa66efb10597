-- What document 01 says of FIRST and LAST without S-5 of document 02, written down once: the reading, the starting upper bounds and K3, with what holds
-- them. All else is what `orm` defines. `CallsBefore` has the calls and the program made of them.
use Rattle.std.specs.Prelude.{ℕ, ◌+◌, ◌-◌, min, ◌≡◌, Bool, true, false, ◌&&◌, List, [], ◌∷◌, ◌++◌, map, leb, ltb, eqb, length}
use Rattle.counting.specs.Lists.{up_from}
use Rattle.counting.specs.Distinct.{all}
use Rattle.counting.specs.Terms.{Each}
use Rattle.fixpoint.specs.Limits.{Verdict, run}
use Rattle.orm.specs.Diagram.{ObjectType, Frequency, Predicate, Diagram, LineKind, diagram_line, types_line, type_line, preds_line, end_line, is_root, all_roles, all_groups}
use Rattle.orm.specs.Reader.{Reading, Reader, ◌>>=◌, pure, for_each, at_end, Cut}
use Rattle.orm.specs.Form.{Test, ◌unless◌, ◌to◌, in_range, count_of, type_of, end_tests, line, count, predicates}
use Rattle.orm.specs.Sets.{lower, upper_of_role, limits}
use Rattle.orm.specs.Population.{Population}
use Rattle.orm.specs.Constraints.{Answer, each_type, each_pred, K1, K2, K4, K5, K6, K7, K8, K9, K10, K11, first_broken}
use Rattle.orm.specs.Outcome.{Outcome, outcome_of}

-- 'A subtype writes 0,0 there'
abbrev pub WritesNone : ObjectType → Type 0
WritesNone t = ¬ (t.super ≡ 0) → (t.first ≡ 0) × (t.last ≡ 0)

abbrev pub WithoutRanges : Diagram → Type 0
WithoutRanges d = Each WritesNone d.types

-- ---- reading

-- 'A type with SUPER 0 is a root; its values are whole numbers FIRST..LAST. A subtype writes 0,0 there'
unfoldable pub values_in_order_in01 : ObjectType → Bool
values_in_order_in01 t = elim (is_root t) [ true ↦ leb t.first t.last | false ↦ eqb t.first 0 && eqb t.last 0 ]

-- 3 'SUPER not below own number', 4 'MIN above MAX', 'root with FIRST above LAST, subtype not 0,0'
unfoldable pub type_tests_in01 : ℕ → ObjectType → List Test
type_tests_in01 own t = 3 unless ltb t.super own ∷ 4 unless leb t.min t.max ∷ 4 unless values_in_order_in01 t ∷ []

module _ (next : LineKind → List ℕ → Cut) where
  unfoldable pub types_in01 : List ℕ → Reader (List ObjectType)
  types_in01 numbers = for_each (λ (i : ℕ). line next type_line type_of (type_tests_in01 i)) numbers

  unfoldable pub diagram_lines_in01 : Reader Diagram
  diagram_lines_in01 = do
    kind ← count next diagram_line
    t ← count next types_line
    ts ← types_in01 (up_from 1 t)
    p ← count next preds_line
    ps ← predicates next kind t 0 0 p
    let d : Diagram = record { kind = kind; types = ts; preds = ps }
    n ← line next end_line count_of (end_tests (length (all_roles d)))
    pure d

  unfoldable pub whole_diagram_in01 : Reader Diagram
  whole_diagram_in01 = do
    d ← diagram_lines_in01
    end ← at_end 1
    pure d

  unfoldable pub reading_in01 : List ℕ → Reading Diagram
  reading_in01 s = whole_diagram_in01 1 s

unfoldable pub diagram_in01 : (LineKind → List ℕ → Cut) → List ℕ → Outcome Diagram
diagram_in01 next s = outcome_of (reading_in01 next s)

-- ---- the rounds and the constraints

-- 'root, the smaller of MAX and LAST - FIRST + 1; subtype and predicate, MAX'
unfoldable pub upper_of_type_in01 : ObjectType → ℕ
upper_of_type_in01 t = elim (is_root t) [ true ↦ min t.max (t.last - t.first + 1) | false ↦ t.max ]

unfoldable pub upper_in01 : Diagram → List ℕ
upper_in01 d =
    map upper_of_type_in01 d.types
    ++ map (λ (p : Predicate). p.max) d.preds
    ++ map upper_of_role (all_roles d)
    ++ map (λ (f : Frequency). 4096) (all_groups d)

abbrev pub verdict_in01 : Diagram → Verdict
verdict_in01 d = run (limits d) (lower d) (upper_in01 d)

-- 'root values in FIRST..LAST'
unfoldable pub K3In01 : ObjectType → List ℕ → Bool
K3In01 t vs = elim (is_root t) [ true ↦ all (in_range (t.first to t.last)) vs | false ↦ true ]

unfoldable pub constraints_in01 : Diagram → Population → List (List Bool)
constraints_in01 d o =
    let of_types : (ℕ → ObjectType → List ℕ → Bool) → List Bool = λ k. each_type k 1 d.types o.types in
    let of_preds : (Predicate → List (List ℕ) → Bool) → List Bool = λ k. each_pred k d.preds o.preds in
    of_types (λ n. K1) ∷ of_types (λ n. K2) ∷ of_types (λ n. K3In01) ∷ of_types (λ n. K4 o)
    ∷ of_preds K5 ∷ of_preds K6 ∷ of_preds (K7 o) ∷ of_preds (K8 o) ∷ of_preds K9
    ∷ of_types (K10 d o) ∷ of_preds K11 ∷ []

abbrev pub answer_in01 : Diagram → Population → Answer
answer_in01 d o = first_broken 1 (constraints_in01 d o)
