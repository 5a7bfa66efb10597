-- The reading of predicates: it reads just those with no fault of form, each from its lines.
use Prim.Native.Nat.{ℕ, zero, suc, ◌+◌, ◌≤◌}
use Rattle.std.proofs.Math.Path.{◌≡◌, ap}
use Rattle.std.specs.Prelude.{refl, ◌↔◌}
use mathlib.Core.List.Memᴰ
use mathlib.Core.List.{List, [], ◌∷◌, map, flat_map, append-nil}
use Rattle.std.proofs.Common.{arith, length-append}
use Rattle.std.proofs.Math.ListN.{length}
use Rattle.counting.specs.Lists.{up_from}
use Rattle.counting.specs.Terms.{Each, Each2}
use Rattle.counting.proofs.Laws.Members.{each_nil, each-cons, each_append, each-head, each_tail}
use Rattle.counting.proofs.Laws.Range.{each2_numbered, each-from-each, numbered-length}
use Rattle.orm.specs.Diagram.{Role, Predicate, LineKind, freq_line, role_line_of, line_of_role, line_of_group, line_of_pred, lines_of_pred}
use Rattle.orm.specs.Reader.{for_each, Cut}
use Rattle.orm.specs.Form.{PredHead, role_of, group_of, role_tests, group_tests, line, predicate, predicates}
use Rattle.orm.specs.WellFormed.{RoleForm, OfKind, GroupForm, PredForm}
use Rattle.orm.specs.Meaning.{Between}
use Rattle.reading.specs.Exact.{Exact, exact_as, pure-exact, bind_exact, ConsForm, ConsLines, cons-exact, for_each-exact}
use Rattle.reading.specs.Lines.{Cuts}
use Rattle.reading.specs.Spelling.{line_of_head}
use Rattle.reading.specs.Kinds.{HeadForm, role-exact, group-exact, head-exact}

-- The numbers on a predicate's `pred` line
abbrev head_of_pred : Predicate → PredHead
head_of_pred p = record { min = p.min; max = p.max; roles = length p.roles; groups = length p.groups }

-- A predicate after so many roles and groups
pub record NextPred (kind types roles groups : ℕ) (p : Predicate) : Type 0 where
  pub form : PredForm types p
  pub limits : Each (OfKind kind) p.roles
  pub role_total : roles + length p.roles ≤ 96
  pub group_total : groups + length p.groups ≤ 48

-- So many predicates, one after another
abbrev pub NextPreds : ℕ → ℕ → ℕ → ℕ → ℕ → List Predicate → Type 0
NextPreds kind types roles groups zero [] = Unit {0}
NextPreds kind types roles groups zero (p ∷ ps) = ⊥
NextPreds kind types roles groups (suc k) [] = ⊥
NextPreds kind types roles groups (suc k) (p ∷ ps) =
    NextPred kind types roles groups p × NextPreds kind types (roles + length p.roles) (groups + length p.groups) k ps

-- So many predicates that keep to their form, and their roles and groups to the totals
pub record PredsForm (kind types roles groups k : ℕ) (ps : List Predicate) : Type 0 where
  pub counted : length ps ≡ k
  pub each : Each (PredForm types) ps
  pub limits : Each (OfKind kind) (flat_map (λ (p : Predicate). p.roles) ps)
  pub role_total : roles + length (flat_map (λ (p : Predicate). p.roles) ps) ≤ 96
  pub group_total : groups + length (flat_map (λ (p : Predicate). p.groups) ps) ≤ 48

cons-preds-iff : (kind types roles groups k : ℕ) (p : Predicate) (ps : List Predicate)
    → (roles + length p.roles ≤ 96 → groups + length p.groups ≤ 48
    → NextPreds kind types (roles + length p.roles) (groups + length p.groups) k ps ↔ PredsForm kind types (roles + length p.roles)
    (groups + length p.groups) k ps)
    → NextPreds kind types roles groups (suc k) (p ∷ ps) ↔ PredsForm kind types roles groups (suc k) (p ∷ ps)
unfolding flat_map
cons-preds-iff kind types roles groups k p ps later = (
  λ (one, others).
      let h = (later one.role_total one.group_total).0 others in
      record {
        counted = ap suc h.counted;
        each = each-cons _ one.form h.each;
        limits = each_append _ p.roles _ one.limits h.limits;
        role_total = rw length-append (omega (arith, h.role_total));
        group_total = rw length-append (omega (arith, h.group_total));
      },
  λ w.
      let rs : roles + (length p.roles + length (flat_map (λ (p : Predicate). p.roles) ps)) ≤ 96 = rw length-append at w.role_total in
      let gs : groups + (length p.groups + length (flat_map (λ (p : Predicate). p.groups) ps)) ≤ 48 = rw length-append at w.group_total in
      let one : NextPred kind types roles groups p = record {
        form = each-head _ w.each;
        limits = λ r m. w.limits r (Memᴰ.append_left _ m);
        role_total = omega arith;
        group_total = omega arith;
      } in (
        one,
        (later one.role_total one.group_total).1
            (record {
              counted = omega (arith, w.counted);
              each = each_tail _ w.each;
              limits = λ r m. w.limits r (Memᴰ.append_right p.roles m);
              role_total = omega arith;
              group_total = omega arith;
            }),
      ),
)

pub next-preds-iff : (kind types roles groups k : ℕ) (ps : List Predicate) → roles ≤ 96 → groups ≤ 48
    → NextPreds kind types roles groups k ps ↔ PredsForm kind types roles groups k ps
unfolding flat_map
next-preds-iff kind types roles groups zero [] r g =
    (λ w. record { counted = refl; each = each_nil _; limits = each_nil _; role_total = omega arith; group_total = omega arith }, λ w. tt)
next-preds-iff kind types roles groups zero (p ∷ ps) r g = (λ w. absurd w, λ w. absurd (omega (arith, w.counted)))
next-preds-iff kind types roles groups (suc k) [] r g = (λ w. absurd w, λ w. absurd (omega (arith, w.counted)))
next-preds-iff kind types roles groups (suc k) (p ∷ ps) r g =
    cons-preds-iff kind types roles groups k p ps (next-preds-iff kind types (roles + length p.roles) (groups + length p.groups) k ps)

-- ---- what each step of the reading adds

abbrev GroupsForm : PredHead → List Role → Predicate → Type 0
GroupsForm h rs p =
    Each2 (GroupForm rs) (up_from 1 h.groups) p.groups × (p ≡ record { min = h.min; max = h.max; roles = rs; groups = p.groups })

-- A role, in a diagram of this kind
abbrev RoleOf : ℕ → ℕ → ℕ → Role → Type 0
RoleOf kind types groups r = RoleForm types groups r × OfKind kind r

abbrev RolesForm : ℕ → ℕ → PredHead → Predicate → Type 0
RolesForm kind types h p = Each2 (λ i. RoleOf kind types h.groups) (up_from 1 h.roles) p.roles × GroupsForm h p.roles p

known-head : (kind types : ℕ) (h : PredHead) (p : Predicate) → RolesForm kind types h p → head_of_pred p ≡ h
known-head kind types h p (rs, (gs, e)) =
    let r : length p.roles ≡ h.roles = numbered-length _ 1 h.roles p.roles rs in
    let g : length p.groups ≡ h.groups = numbered-length _ 1 h.groups p.groups gs in
    let a : p.min ≡ h.min = ap (λ (x : Predicate). x.min) e in
    let b : p.max ≡ h.max = ap (λ (x : Predicate). x.max) e in
    rw (r, g, a, b)

pred-forms : (kind types roles groups : ℕ) (p : Predicate)
    → (HeadForm roles groups (head_of_pred p) × RolesForm kind types (head_of_pred p) p) ↔ NextPred kind types roles groups p
pred-forms kind types roles groups p = (
  λ (h, (rs, (gs, _))). let each = (each-from-each _ 1 p.roles).0 ((each2_numbered _ 1 p.roles).0 rs) in record {
    form = record {
      some = h.some;
      sizes = h.sizes;
      most = h.most;
      arity = h.arity;
      few = h.few;
      roles = λ r m. (each r m).0;
      groups = (each2_numbered _ 1 p.groups).0 gs;
    };
    limits = λ r m. (each r m).1;
    role_total = h.role_total;
    group_total = h.group_total;
  },
  λ w. let f = w.form in (
    record { some = f.some; sizes = f.sizes; most = f.most; arity = f.arity; few = f.few; role_total = w.role_total; group_total = w.group_total },
    (
      (each2_numbered _ 1 p.roles).1 ((each-from-each _ 1 p.roles).1 (λ r m. (f.roles r m, w.limits r m))),
      ((each2_numbered _ 1 p.groups).1 f.groups, refl),
    ),
  ),
)

module _ (form : LineKind → List ℕ → List ℕ) (next : LineKind → List ℕ → Cut) (cuts : Cuts form next) where
  pub predicate-exact : (kind types roles groups : ℕ) → Between 1 kind 2 → types ≤ 32
      → Exact form (predicate next kind types roles groups) (NextPred kind types roles groups) (lines_of_pred kind)
  unfolding predicate lines_of_pred line_of_pred line_of_head
  predicate-exact kind types roles groups between bound = exact_as form (pred-forms kind types roles groups) (λ p w. rw append-nil)
      (bind_exact form _ _ head_of_pred (λ h p w e. known-head kind types h p e) (head-exact form next cuts roles groups)
      (λ h w. bind_exact form _ _ (λ p. p.roles) (λ rs p w e. ap (λ (x : Predicate). x.roles) e.1) (role-lines h w.few)
      (λ rs w'. bind_exact form _ _ (λ p. p.groups) (λ gs p w e. ap (λ (x : Predicate). x.groups) e) (group_lines h rs)
      (λ gs w''. pure-exact form (record { min = h.min; max = h.max; roles = rs; groups = gs })))))
    where
      role-lines : (h : PredHead) → h.groups ≤ 6
          → Exact form (for_each (λ (i : ℕ). line next (role_line_of kind) (role_of kind) (role_tests types h.groups)) (up_from 1 h.roles))
          (Each2 (λ i. RoleOf kind types h.groups) (up_from 1 h.roles)) (map (line_of_role kind))
      role-lines h few =
          for_each-exact form _ (λ i. RoleOf kind types h.groups) (line_of_role kind) (up_from 1 h.roles)
          (λ i m. role-exact form next cuts kind types h.groups between bound few)

      group_lines : (h : PredHead) (rs : List Role)
          → Exact form (for_each (λ (g : ℕ). line next freq_line group_of (group_tests rs g)) (up_from 1 h.groups))
          (Each2 (GroupForm rs) (up_from 1 h.groups)) (map line_of_group)
      group_lines h rs = for_each-exact form _ (GroupForm rs) line_of_group (up_from 1 h.groups) (λ g m. group-exact form next cuts rs g)

  pub predicates-exact : (kind types roles groups k : ℕ) → Between 1 kind 2 → types ≤ 32
      → Exact form (predicates next kind types roles groups k) (NextPreds kind types roles groups k) (flat_map (lines_of_pred kind))
  unfolding predicates flat_map
  predicates-exact kind types roles groups zero between bound = exact_as form none-form (λ ps e. rw e) (pure-exact form [])
    where
      none-form : (ps : List Predicate) → (ps ≡ []) ↔ NextPreds kind types roles groups zero ps
      none-form [] = (λ e. tt, λ h. refl)
      none-form (p ∷ ps) = (λ e. let z : ◌≡◌ {A = ℕ} 0 1 = cc in absurd (omega arith), λ h. absurd h)
  predicates-exact kind types roles groups (suc k) between bound =
      exact_as form cons-form cons-lines
      (cons-exact form One Others (lines_of_pred kind) (flat_map (lines_of_pred kind)) (predicate next kind types roles groups) _
      (predicate-exact kind types roles groups between bound)
      (λ p w. predicates-exact kind types (roles + length p.roles) (groups + length p.groups) k between bound))
    where
      One : Predicate → Type 0
      One p = NextPred kind types roles groups p

      Others : Predicate → List Predicate → Type 0
      Others p = NextPreds kind types (roles + length p.roles) (groups + length p.groups) k

      cons-form : (ps : List Predicate) → ConsForm form One Others ps ↔ NextPreds kind types roles groups (suc k) ps
      cons-form [] = (λ h. h, λ h. h)
      cons-form (p ∷ ps) = (λ h. h, λ h. h)

      cons-lines : (ps : List Predicate) → ConsForm form One Others ps
          → ConsLines form One Others (lines_of_pred kind) (flat_map (lines_of_pred kind)) ps ≡ flat_map (lines_of_pred kind) ps
      cons-lines [] w = absurd w
      cons-lines (p ∷ ps) w = refl
