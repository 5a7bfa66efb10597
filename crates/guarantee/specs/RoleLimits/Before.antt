-- What the documents say of roles without S-8 of document 02, written down once: the first line, the role lines, the bounds of roles, and the
-- constraints without K11, with what holds them. All else is what `orm` defines. A role has RMIN and RMAX 1 and 4096 there, a diagram the kind 1.
-- `CallsBefore` has the calls and the program made of them.
use Rattle.std.specs.Prelude.{ℕ, zero, suc, ◌+◌, Bool, List, [], ◌∷◌, ◌++◌, map, leb, eqb, length, get_or}
use Rattle.counting.specs.Lists.{up_from}
use Rattle.fixpoint.specs.Limits.{Verdict, run}
use Rattle.orm.specs.Diagram.{ObjectType, Role, Frequency, Predicate, Diagram, LineKind, diagram_line, types_line, preds_line, pred_line, role_line, freq_line, end_line}
use Rattle.orm.specs.Diagram.{all_roles, all_groups}
use Rattle.orm.specs.Reader.{Reading, Reader, ◌>>=◌, pure, for_each, at_end, Cut}
use Rattle.orm.specs.Form.{Test, ◌unless◌, count_of, head_of, group_of, pred_tests, group_tests, end_tests, line, count, types_after}
use Rattle.orm.specs.Sets.{upper_of_type, limits}
use Rattle.orm.specs.Population.{Population}
use Rattle.orm.specs.Constraints.{Answer, each_type, each_pred, K1, K2, K3, K4, K5, K6, K7, K8, K9, K10, first_broken}
use Rattle.orm.specs.Outcome.{Outcome, outcome_of}

-- ---- reading

-- `role=TYPE,MAND,GROUP`
abbrev pub role_before : List ℕ → Role
role_before v = record { type = get_or v 0 0; mand = get_or v 1 0; group = get_or v 2 0; rmin = 1; rmax = 4096 }

-- 3 'TYPE above T; GROUP above GROUPS'
unfoldable pub role_tests_before : ℕ → ℕ → Role → List Test
role_tests_before types groups r = 3 unless leb r.type types ∷ 3 unless leb r.group groups ∷ []

module _ (next : LineKind → List ℕ → Cut) where
  -- 'Ranges: the first line 1': of the two that are in range now
  unfoldable pub first_line_before : Reader ℕ
  first_line_before = line next diagram_line count_of (λ n. 2 unless eqb n 1 ∷ [])

  unfoldable pub predicate_before : ℕ → ℕ → ℕ → Reader Predicate
  predicate_before types roles groups = do
    p ← line next pred_line head_of (pred_tests roles groups)
    rs ← for_each (λ (i : ℕ). line next role_line role_before (role_tests_before types p.groups)) (up_from 1 p.roles)
    gs ← for_each (λ (g : ℕ). line next freq_line group_of (group_tests rs g)) (up_from 1 p.groups)
    pure (record { min = p.min; max = p.max; roles = rs; groups = gs })

  unfoldable pub predicates_before : ℕ → ℕ → ℕ → ℕ → Reader (List Predicate)
  predicates_before types roles groups zero = pure []
  predicates_before types roles groups (suc k) = do
    p ← predicate_before types roles groups
    ps ← predicates_before types (roles + length p.roles) (groups + length p.groups) k
    pure (p ∷ ps)

  unfoldable pub diagram_lines_before : Reader Diagram
  diagram_lines_before = do
    one ← first_line_before
    t ← count next types_line
    ts ← types_after next [] t
    p ← count next preds_line
    ps ← predicates_before t 0 0 p
    let d : Diagram = record { kind = 1; types = ts; preds = ps }
    n ← line next end_line count_of (end_tests (length (all_roles d)))
    pure d

  unfoldable pub whole_diagram_before : Reader Diagram
  whole_diagram_before = do
    d ← diagram_lines_before
    end ← at_end 1
    pure d

  unfoldable pub reading_before : List ℕ → Reading Diagram
  reading_before s = whole_diagram_before 1 s

unfoldable pub diagram_in_before : (LineKind → List ℕ → Cut) → List ℕ → Outcome Diagram
diagram_in_before next s = outcome_of (reading_before next s)

-- ---- the rounds and the constraints

-- 'MIN for types and predicates, else 1'
unfoldable pub lower_before : Diagram → List ℕ
lower_before d =
    map (λ (t : ObjectType). t.min) d.types
    ++ map (λ (p : Predicate). p.min) d.preds
    ++ map (λ (r : Role). 1) (all_roles d)
    ++ map (λ (f : Frequency). 1) (all_groups d)

-- 'role and group, 4096'
unfoldable pub upper_before : Diagram → List ℕ
upper_before d =
    map upper_of_type d.types
    ++ map (λ (p : Predicate). p.max) d.preds
    ++ map (λ (r : Role). 4096) (all_roles d)
    ++ map (λ (f : Frequency). 4096) (all_groups d)

abbrev pub verdict_before : Diagram → Verdict
verdict_before d = run (limits d) (lower_before d) (upper_before d)

-- K1 to K10
unfoldable pub constraints_before : Diagram → Population → List (List Bool)
constraints_before d o =
    let of_types : (ℕ → ObjectType → List ℕ → Bool) → List Bool = λ k. each_type k 1 d.types o.types in
    let of_preds : (Predicate → List (List ℕ) → Bool) → List Bool = λ k. each_pred k d.preds o.preds in
    of_types (λ n. K1) ∷ of_types (λ n. K2) ∷ of_types (λ n. K3) ∷ of_types (λ n. K4 o)
    ∷ of_preds K5 ∷ of_preds K6 ∷ of_preds (K7 o) ∷ of_preds (K8 o) ∷ of_preds K9
    ∷ of_types (K10 d o) ∷ []

abbrev pub answer_before : Diagram → Population → Answer
answer_before d o = first_broken 1 (constraints_before d o)
