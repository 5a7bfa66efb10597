-- Reading before S-8 and now: the same of every text and table but those that begin with 2; and bounds and answers of a diagram of the first kind are
-- those of before.
use Prim.Native.Nat.{ℕ, zero, suc, ◌+◌, min}
use Rattle.std.proofs.Common.{arith, sym, ◌∙◌}
use Rattle.std.specs.Prelude.{◌≡◌, Bool, leb, get_or}
use Rattle.std.proofs.Math.Path.{refl, ap, ap₂, fun_ext}
use Rattle.std.proofs.Math.Bool.{true, false}
use Rattle.std.proofs.Math.Option.{Option, none, some}
use mathlib.Core.List.{List, [], ◌∷◌, ◌++◌, map}
use borrow.Author.Tests.{eqb-true, eqb-false}
use Rattle.std.proofs.Math.Dec.{eqb}
use Rattle.std.proofs.Math.ListN.{length}
use Rattle.counting.specs.Lists.{up_from}
use Rattle.counting.proofs.Laws.Maps.{map_congr}
use Rattle.fixpoint.specs.Limits.{run}
use Rattle.orm.specs.Diagram.{ObjectType, Role, Frequency, Predicate, Diagram, LineKind, diagram_line, types_line, preds_line, pred_line, role_line, freq_line, end_line}
use Rattle.orm.specs.Diagram.{limits_roles, role_line_of, all_roles, all_groups}
use Rattle.orm.specs.Reader.{Reading, rejected, read, Reader, ◌>>=◌, pure, for_each, at_end, Cut, broken, cut}
use Rattle.orm.specs.Form.{◌unless◌, first_of, in_ranges, ranges, fields, count_of, head_of, role_of, group_of, pred_tests, role_tests, group_tests, end_tests}
use Rattle.orm.specs.Form.{line, count, types_after, predicate, predicates, diagram_lines, whole_diagram, reading}
use Rattle.orm.specs.Outcome.{accepted, outcome_of}
use Rattle.orm.specs.Calls.{diagram_in}
use Rattle.orm.specs.Sets.{lower, upper_of_type, upper_of_role, upper, limits, verdict, verdict_from}
use Rattle.orm.specs.Population.{Population}
use Rattle.orm.specs.Constraints.{constraints, answer}
use Rattle.orm.proofs.Laws.Readers.{bind_cases}
use Rattle.orm.specs.Meaning.{Between}
use Rattle.orm.specs.WellFormed.{WellFormed}
use Rattle.reading.specs.Lines.{Cuts, tested_decides}
use Rattle.sound.proofs.Unlimited.{unlimited-answer}
use Rattle.guarantee.specs.RoleLimits.Before.{role_before, role_tests_before, first_line_before, predicate_before, predicates_before, diagram_lines_before}
use Rattle.guarantee.specs.RoleLimits.Before.{whole_diagram_before, reading_before, diagram_in_before, lower_before, upper_before, verdict_before}
use Rattle.guarantee.specs.RoleLimits.Before.{constraints_before, answer_before}
use Rattle.guarantee.specs.RoleLimits.{NotSecond}

-- ---- a role line

-- RMIN 1 is not above RMAX 4096
same-fault : (a b c : Bool) → first_of (2 unless a ∷ 3 unless b ∷ 3 unless c ∷ 4 unless true ∷ []) ≡ first_of (2 unless a ∷ 3 unless b ∷ 3 unless c ∷ [])
unfolding first_of
same-fault false b c = refl
same-fault true false c = refl
same-fault true true false = refl
same-fault true true true = refl

module _ (next : LineKind → List ℕ → Cut) where
  same-role : (types groups : ℕ)
      → line next (role_line_of 1) (role_of 1) (role_tests types groups) ≡ line next role_line role_before (role_tests_before types groups)
  unfolding line role_line_of limits_roles role_tests role_tests_before
  same-role types groups = fun_ext λ n. fun_ext λ s. go n (next role_line s)
    where
      ended : ℕ → List ℕ → List ℕ → Option ℕ → Reading Role
      ended n v rest o = elim o [ some c ↦ rejected c n | none ↦ read (role_before v) (suc n) rest ]

      go : (n : ℕ) (c : Cut) → ◌≡◌ {A = Reading Role}
          (elim c [
            | broken ↦ rejected 1 n
            | cut v rest ↦
                ended n v rest
                (first_of (2 unless in_ranges (ranges role_line) v ∷ 3 unless leb (get_or v 0 0) types ∷ 3 unless leb (get_or v 2 0) groups ∷ 4 unless true ∷ []))
          ])
          (elim c [
            | broken ↦ rejected 1 n
            | cut v rest ↦
                ended n v rest
                (first_of (2 unless in_ranges (ranges role_line) v ∷ 3 unless leb (get_or v 0 0) types ∷ 3 unless leb (get_or v 2 0) groups ∷ []))
          ])
      go n broken = refl
      go n (cut v rest) = ap (ended n v rest) (same-fault (in_ranges (ranges role_line) v) _ _)

  -- ---- predicates

  -- A predicate whose role lines are read so, under so many groups
  predicate_by : (ℕ → Reader Role) → ℕ → ℕ → Reader Predicate
  predicate_by role roles groups = do
    p ← line next pred_line head_of (pred_tests roles groups)
    rs ← for_each (λ (i : ℕ). role p.groups) (up_from 1 p.roles)
    gs ← for_each (λ (g : ℕ). line next freq_line group_of (group_tests rs g)) (up_from 1 p.groups)
    pure (record { min = p.min; max = p.max; roles = rs; groups = gs })

  same_predicate : (types roles groups : ℕ) → predicate next 1 types roles groups ≡ predicate_before next types roles groups
  unfolding predicate predicate_before predicate_by
  same_predicate types roles groups = ap (λ (role : ℕ → Reader Role). predicate_by role roles groups) (fun_ext (same-role types))

  same-predicates : (types roles groups k : ℕ) → predicates next 1 types roles groups k ≡ predicates_before next types roles groups k
  unfolding predicates predicates_before
  same-predicates types roles groups zero = refl
  same-predicates types roles groups (suc k) =
      ap₂ (λ (one : Reader Predicate) (others : Predicate → Reader (List Predicate)). one >>= λ p. others p >>= λ ps. pure (p ∷ ps))
      (same_predicate types roles groups)
      (fun_ext λ (p : Predicate). same-predicates types (roles + length p.roles) (groups + length p.groups) k)

  -- ---- the whole

  -- What follows the first line, in a diagram of this kind whose predicates are read so
  rest_by : ℕ → (ℕ → ℕ → Reader (List Predicate)) → Reader Diagram
  rest_by kind preds = do
    t ← count next types_line
    ts ← types_after next [] t
    p ← count next preds_line
    ps ← preds t p
    let d : Diagram = record { kind = kind; types = ts; preds = ps }
    n ← line next end_line count_of (end_tests (length (all_roles d)))
    pure d

  abbrev rest_now : ℕ → Reader Diagram
  rest_now kind = rest_by kind (λ t p. predicates next kind t 0 0 p)

  abbrev rest_before : Reader Diagram
  rest_before = rest_by 1 (λ t p. predicates_before next t 0 0 p)

  same_rest : rest_now 1 ≡ rest_before
  same_rest = ap (rest_by 1) (fun_ext λ t. fun_ext λ p. same-predicates t 0 0 p)

  module _ (n : ℕ) where
    -- what is read of a first line that is cut off, by its first fault, and what follows it
    ended : List ℕ → List ℕ → Option ℕ → Reading ℕ
    ended v rest o = elim o [ some c ↦ rejected c n | none ↦ read (count_of v) (suc n) rest ]

    followed : (ℕ → Reader Diagram) → Reading ℕ → Reading Diagram
    followed f r = elim r [ rejected c at ↦ rejected c at | read a i t ↦ f a i t ]

    tested : (x : ℕ) (rest : List ℕ) (a b : Bool) → in_ranges (ranges diagram_line) (x ∷ []) ≡ a → eqb x 1 ≡ b → ¬ (x ≡ 2)
        → followed rest_now (ended (x ∷ []) rest (first_of (2 unless a ∷ [])))
        ≡ followed (λ one. rest_before) (ended (x ∷ []) rest (first_of (2 unless a ∷ 2 unless b ∷ [])))
    unfolding ended followed first_of count_of
    tested x rest false b in_range_lem is_one not-two = refl
    tested x rest true true in_range_lem is_one not-two =
        ap (λ (k : ℕ). rest_now k (suc n) rest) (eqb-true x 1 is_one) ∙ ap (λ (r : Reader Diagram). r (suc n) rest) same_rest
    tested x rest true false in_range_lem is_one not-two =
        let both : Between 1 x 2 = unfold ranges in ((tested_decides diagram_line (x ∷ []) []).0 (rw in_range_lem)).0.0 in
        let not-one : ¬ (x ≡ 1) = eqb-false x 1 is_one in
        absurd (omega arith)

    same_lines : (s : List ℕ) → ((v rest : List ℕ) → next diagram_line s ≡ cut v rest → length v ≡ 1) → NotSecond next s
        → diagram_lines next n s ≡ diagram_lines_before next n s
    unfolding diagram_lines diagram_lines_before count first_line_before line rest_by ended followed
    same_lines s counted other = go (next diagram_line s) refl
      where
        go : (c : Cut) → next diagram_line s ≡ c
            → followed rest_now (elim c [ broken ↦ rejected 1 n | cut v rest ↦ ended v rest (first_of (2 unless in_ranges (ranges diagram_line) v ∷ [])) ])
            ≡ followed (λ one. rest_before)
            (elim c [
              | broken ↦ rejected 1 n
              | cut v rest ↦ ended v rest (first_of (2 unless in_ranges (ranges diagram_line) v ∷ 2 unless eqb (count_of v) 1 ∷ []))
            ])
        go broken e = unfold followed in refl
        go (cut [] rest) e = absurd (omega (arith, counted [] rest e))
        go (cut (x ∷ []) rest) e =
            unfold count_of in
            tested x rest (in_ranges (ranges diagram_line) (x ∷ [])) (eqb x 1) refl refl (unfold count_of in other (x ∷ []) rest e)
        go (cut (x ∷ y ∷ v) rest) e = absurd (omega (arith, counted (x ∷ y ∷ v) rest e))

-- Of a text and of a table
pub same_outcome : {form : LineKind → List ℕ → List ℕ} {next : LineKind → List ℕ → Cut} → Cuts form next → (s : List ℕ) → NotSecond next s
    → diagram_in next s ≡ diagram_in_before next s
unfolding diagram_in diagram_in_before reading reading_before whole_diagram whole_diagram_before fields ranges
same_outcome {next = next} cuts s other =
    ap (λ (r : Reading Diagram). outcome_of (elim r as (λ _. Reading Diagram) [
      | rejected c at ↦ rejected c at
      | read d i t ↦ (at_end 1 >>= λ end. pure d) i t
    ])) (same_lines next 1 s (λ v rest e. (cuts.only diagram_line s v rest e).0) other)

-- ---- the rounds and the constraints

module _ {d : Diagram} (w : WellFormed d) (one : d.kind ≡ 1) where
  pub same-lowers : lower d ≡ lower_before d
  unfolding lower lower_before
  same-lowers =
      ap (λ (l : List ℕ).
      map (λ (t : ObjectType). t.min) d.types ++ map (λ (p : Predicate). p.min) d.preds ++ l ++ map (λ (f : Frequency). 1) (all_groups d))
      (map_congr (λ (r : Role). r.rmin) (λ r. 1) (all_roles d) (λ r m. (w.limits r m one).0))

  pub same-uppers : upper d ≡ upper_before d
  unfolding upper upper_before upper_of_role
  same-uppers =
      ap (λ (l : List ℕ).
      map upper_of_type d.types ++ map (λ (p : Predicate). p.max) d.preds ++ l ++ map (λ (f : Frequency). 4096) (all_groups d))
      (map_congr upper_of_role (λ r. 4096) (all_roles d) (λ r m. ap (min 4096) (w.limits r m one).1))

  pub same_verdict : verdict d ≡ verdict_before d
  unfolding verdict_from
  same_verdict = ap₂ (run (limits d)) same-lowers same-uppers

  pub same_answer : (o : Population) → answer d o ≡ answer_before d o
  unfolding constraints_before constraints
  same_answer o = unlimited-answer d o w one

-- Before, every diagram was of the first kind
pub kind-before : (next : LineKind → List ℕ → Cut) (s : List ℕ) {d : Diagram} → diagram_in_before next s ≡ accepted d → d.kind ≡ 1
unfolding diagram_in_before reading_before whole_diagram_before diagram_lines_before outcome_of
kind-before next s {d} e = go (reading_before next s) refl e
  where
    go : (r : Reading Diagram) → reading_before next s ≡ r → outcome_of r ≡ accepted d → d.kind ≡ 1
    go (rejected c at) q z = let y : ◌≡◌ {A = ℕ} 0 1 = cc in absurd (omega arith)
    go (read b i t) q z =
        unfold reading_before whole_diagram_before diagram_lines_before in
        bind_cases (diagram_lines_before next) _ 1 s q λ d₁ i₁ s₁ h₁ e₁.
        bind_cases (at_end 1) _ i₁ s₁ e₁ λ end i₂ s₂ h₂ e₂.
        bind_cases (first_line_before next) _ 1 s h₁ λ one i₃ s₃ h₃ e₃.
        bind_cases (count next types_line) _ i₃ s₃ e₃ λ n i₄ s₄ h₄ e₄.
        bind_cases (types_after next [] n) _ i₄ s₄ e₄ λ ts i₅ s₅ h₅ e₅.
        bind_cases (count next preds_line) _ i₅ s₅ e₅ λ p i₆ s₆ h₆ e₆.
        bind_cases (predicates_before next n 0 0 p) _ i₆ s₆ e₆ λ ps i₇ s₇ h₇ e₇.
        bind_cases (line next end_line count_of (end_tests (length (all_roles (record { kind = 1; types = ts; preds = ps }))))) _ i₇ s₇ e₇ λ m i₈ s₈ h₈ e₈.
        let read_one : d₁ ≡ record { kind = 1; types = ts; preds = ps } = cc in
        let same-one : b ≡ d₁ = cc in
        let told : b ≡ d = cc in
        ap (λ (x : Diagram). x.kind) (sym told ∙ same-one ∙ read_one)
