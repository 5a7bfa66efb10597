-- What a line of each kind must hold, as facts: type, predicate, role, freq lines and lines with a count.
use Rattle.std.specs.Prelude.{ℕ, ◌+◌, ◌≤◌, ◌≡◌, ◌↔◌, Bool, true, ◌||◌, List, [], ◌∷◌, ◌++◌, eqb}
use Rattle.std.proofs.Math.Path.{refl, sym, ap, ap₂}
use Rattle.std.proofs.Math.Logic.Iff
use Rattle.std.proofs.Math.Bool.{false, and-eq-true_iff}
use Rattle.std.proofs.lemmas.Bool.{false≢true}
use Rattle.std.proofs.Math.Option.{some}
use mathlib.Core.List.Memᴰ
use mathlib.Core.List.Memᴰ.{head as here}
use mathlib.Core.List.Memᴰ.{tail as there}
use Rattle.std.proofs.Common.{le_trans}
use native.Mathlib.Omega.{arith}
use borrow.Author.Tests.{leb-true, le-leb, ltb-true, lt-ltb, eqb-true, eqb-false, eq-eqb}
use Rattle.std.proofs.Math.ListN.{length}
use Rattle.counting.specs.Distinct.{all}
use Rattle.counting.proofs.Laws.Distinct.{all_decides}
use Rattle.counting.specs.Terms.{◌∈◌}
use Rattle.counting.proofs.Laws.Members.{each_nil, each-cons}
use Rattle.counting.proofs.Laws.Instances.{eqb_decides}
use Rattle.orm.specs.Diagram.{ObjectType, Role, Frequency, LineKind, type_line, pred_line, limited_role_line, freq_line, end_line, limits_roles, role_line_of, line_of_type, line_of_role, line_of_group, line_of_count, is_root, index}
use Rattle.orm.specs.Supertypes.{first_value, has_range, last_value}
use Rattle.orm.specs.Reader.{rejected, read, Cut}
use Rattle.orm.specs.Form.{◌to◌, ranges, fields, in_ranges, first_of, count_of, type_of, role_of, group_of, PredHead, head_of, within_super, values_in_order, type_tests, pred_tests, role_tests, named, group_tests, end_tests, most_roles, most_groups, line, count}
use Rattle.orm.specs.Meaning.{Between, HasRange}
use Rattle.orm.proofs.Laws.Decided.{leb_decides, if_decides, has_range_decides}
use Rattle.orm.specs.WellFormed.{TypeForm, RoleForm, OfKind, GroupForm}
use Rattle.reading.specs.Exact.{written, Exact, exact_as}
use Rattle.reading.specs.TextLength.{first_small}
use Rattle.reading.specs.Spelling.{line_of_head, role_line_by, role_by, role_values_by, type-spelling, role-spelling, group-spelling, head-spelling, count-spelling}
use Rattle.reading.specs.Lines.{InRanges, Passed, Small, is_small, in_ranges-small, Cuts, Spelling, LineForm, tested_decides, line-only, line_refused, line-exact}

-- Every kind of line but `end` has no range above 6 digits
small-ranges : (k : LineKind) (vs : List ℕ) → all is_small (ranges k) ≡ true → length vs ≡ fields k
    → InRanges (ranges k) vs → Small vs
unfolding fields
small-ranges k vs e l h =
    in_ranges-small (ranges k) vs l ((all_decides is_small (λ r. (λ q. q, λ q. q)) (ranges k)).0 e) h

-- one test holds, or another one
or_unless : (a b : Bool) {A B : Type 0} → a ≡ true ↔ A → b ≡ true ↔ B → (a || b) ≡ true ↔ (¬ A → B)
or_unless true b p q = (λ h n. absurd (n (p.0 refl)), λ f. refl)
or_unless false b p q = (λ h n. q.0 h, λ f. q.1 (f (λ x. false≢true (p.1 x))))

-- What 4 asks of FIRST and LAST
abbrev pub Values : List ObjectType → ObjectType → Type 0
Values before t =
    HasRange t → (t.first ≤ t.last)
    × (¬ (t.super ≡ 0) → (t.first ≡ first_value before (index t.super)) × (t.last ≤ last_value before (index t.super)))

pub values_decides : (before : List ObjectType) (t : ObjectType) → values_in_order before t ≡ true ↔ Values before t
unfolding values_in_order within_super is_root
values_decides before t =
    if_decides (has_range t) _ (has_range_decides t)
    (Iff.trans (and-eq-true_iff _ _)
    (Iff.and (leb_decides t.first t.last)
    (or_unless _ _ (eqb_decides.iff t.super 0)
    (Iff.trans (and-eq-true_iff _ _) (Iff.and (eqb_decides.iff t.first _) (leb_decides t.last _))))))

named_decides : (g : ℕ) (rs : List Role) → named g rs ≡ true ↔ ((r : Role) × (r ∈ rs) × (r.group ≡ g))
unfolding named
named_decides g [] = (λ e. absurd (false≢true e), λ h. absurd (Memᴰ.not-nil h.1))
named_decides g (r ∷ rs) = go (eqb r.group g) refl (named_decides g rs)
  where
    go : (b : Bool) → eqb r.group g ≡ b → named g rs ≡ true ↔ ((x : Role) × (x ∈ rs) × (x.group ≡ g))
        → (b || named g rs) ≡ true ↔ ((x : Role) × (x ∈ r ∷ rs) × (x.group ≡ g))
    go true e ih = (λ _. (r, here refl, eqb-true r.group g e), λ _. refl)
    go false e ih = (λ h. let x = ih.0 h in (x.0, there x.1, x.2), back)
      where
        back : (x : Role) × (x ∈ r ∷ rs) × (x.group ≡ g) → named g rs ≡ true
        back (x, here q, n) = absurd (eqb-false r.group g e (rw q at n))
        back (x, there m, n) = ih.1 (x, m, n)

-- A `pred` line, after so many roles and groups
pub record HeadForm (roles groups : ℕ) (h : PredHead) : Type 0 where
  pub some : 1 ≤ h.min
  pub sizes : h.min ≤ h.max
  pub most : h.max ≤ 4096
  pub arity : Between 1 h.roles 6
  pub few : h.groups ≤ 6
  pub role_total : roles + h.roles ≤ 96
  pub group_total : groups + h.groups ≤ 48

module _ (form : LineKind → List ℕ → List ℕ) (next : LineKind → List ℕ → Cut) (cuts : Cuts form next) where
  -- A type whose numbers are in their ranges and that fails a test
  pub type-refused : (own : ℕ) (before : List ObjectType) (t : ObjectType) → in_ranges (ranges type_line) (line_of_type t).values ≡ true → {c : ℕ}
      → first_of (type_tests own before t) ≡ some c → (n : ℕ) (rest : List ℕ)
      → line next type_line type_of (type_tests own before) n (written form (line_of_type t ∷ []) ++ rest) ≡ rejected c n
  unfolding first_of
  type-refused own before t ranged =
      line_refused form next cuts type_line type_of (type_tests own before) line_of_type type-spelling t (unfold line_of_type in refl)
      (small-ranges type_line _ (unfold all is_small ranges in refl) (type-spelling.counted t)
      ((tested_decides type_line (line_of_type t).values []).0 (rw ranged)).0)
      ranged

  -- The type with this number, after these
  pub type-exact : (own : ℕ) (before : List ObjectType) → own ≤ 33
      → Exact form (line next type_line type_of (type_tests own before)) (TypeForm before own) (λ (t : ObjectType). line_of_type t ∷ [])
  unfolding type_tests ranges line_of_type
  type-exact own before bound =
      exact_as form forms (λ t w. refl)
      (line-exact form next cuts type_line type_of (type_tests own before) line_of_type type-spelling
      (λ t w. small-ranges type_line _ (unfold all is_small in refl) (type-spelling.counted t) w.0))
    where
      forms : (t : ObjectType) → LineForm type_line type_of (type_tests own before) line_of_type t ↔ TypeForm before own t
      forms t = (
        λ ((min, (max, (first, (last, (super, (indep, _)))))), ((above, (sizes, (values, _))), _)). let v = (values_decides before t).0 values in record {
          some = min.0;
          sizes = leb-true t.min t.max sizes;
          most = max.1;
          above = ltb-true t.super own above;
          values = λ r. (v r).0;
          within = λ r. (v r).1;
          largest = last.1;
          indep = indep.1;
        },
        λ f. let first : t.first ≤ 999999 = first_small before own t f in (
          (omega arith, (omega arith, (omega arith, (omega arith, (omega arith, (omega arith, tt)))))),
          (
            (lt-ltb t.super own f.above, (le-leb t.min t.max f.sizes, ((values_decides before t).1 (λ r. (f.values r, f.within r)), tt))),
            refl,
          ),
        ),
      )

  -- A role with RMIN and RMAX whose numbers are in their ranges and that fails a test
  pub role-refused : (types groups : ℕ) (r : Role) → in_ranges (ranges limited_role_line) (line_of_role 2 r).values ≡ true → {c : ℕ}
      → first_of (role_tests types groups r) ≡ some c → (n : ℕ) (rest : List ℕ)
      → line next (role_line_of 2) (role_of 2) (role_tests types groups) n (written form (line_of_role 2 r ∷ []) ++ rest) ≡ rejected c n
  unfolding first_of role_line_of limits_roles
  role-refused types groups r ranged =
      line_refused form next cuts (role_line_of 2) (role_of 2) (role_tests types groups) (line_of_role 2) (role-spelling 2) r (unfold line_of_role in refl)
      (small-ranges limited_role_line _ (unfold all is_small ranges in refl) ((role-spelling 2).counted r)
      ((tested_decides limited_role_line (line_of_role 2 r).values []).0 (rw ranged)).0)
      ranged

  -- A role, in a diagram of this kind, under so many types and groups
  pub role-exact : (kind types groups : ℕ) → Between 1 kind 2 → types ≤ 32 → groups ≤ 6
      → Exact form (line next (role_line_of kind) (role_of kind) (role_tests types groups)) (λ (r : Role). RoleForm types groups r × OfKind kind r)
      (λ (r : Role). line_of_role kind r ∷ [])
  unfolding role_tests ranges line_of_role role_line_of
  role-exact kind types groups between t g =
      exact_as form (λ r. forms r (limits_roles kind) refl) (λ r w. refl)
      (line-exact form next cuts (role_line_of kind) (role_of kind) (role_tests types groups) (line_of_role kind) (role-spelling kind)
      (λ r w. small-ranges (role_line_of kind) _ (small (limits_roles kind)) ((role-spelling kind).counted r) w.0))
    where
      passed : (r : Role) → RoleForm types groups r → Passed (role_tests types groups r)
      passed r f =
          (le-leb r.type types f.player.1, (le-leb r.group groups f.group, (le-leb r.rmin r.rmax f.limits, tt)))

      small : (b : Bool) → all is_small (ranges (role_line_by b)) ≡ true
      small true = unfold all is_small in refl
      small false = unfold all is_small in refl

      forms : (r : Role) (b : Bool) → limits_roles kind ≡ b
          → (InRanges (ranges (role_line_by b)) (role_values_by b r) × (Passed (role_tests types groups r) × (role_by b (role_values_by b r) ≡ r)))
          ↔ (RoleForm types groups r × OfKind kind r)
      forms r true e =
          let two : kind ≡ 2 = unfold limits_roles in eqb-true kind 2 e in (
            λ ((type, (mand, (group, (rmin, (rmax, _))))), ((below, (within, (order, _))), _)). (
              record {
                player = (type.0, leb-true r.type types below);
                mand = mand.1;
                group = leb-true r.group groups within;
                some = rmin.0;
                limits = leb-true r.rmin r.rmax order;
                most = rmax.1;
              },
              λ one. absurd (omega arith),
            ),
            λ (f, _). ((omega arith, (omega arith, (omega arith, (omega arith, (omega arith, tt))))), (passed r f, refl)),
          )
      forms r false e =
          let not-two : ¬ (kind ≡ 2) = unfold limits_roles in eqb-false kind 2 e in
          let one : kind ≡ 1 = omega arith in (
            λ ((type, (mand, (group, _))), ((below, (within, (order, _))), whole)).
                let fewest : 1 ≡ r.rmin = ap (λ (x : Role). x.rmin) whole in
                let most : 4096 ≡ r.rmax = ap (λ (x : Role). x.rmax) whole in (
                  record {
                    player = (type.0, leb-true r.type types below);
                    mand = mand.1;
                    group = leb-true r.group groups within;
                    some = omega arith;
                    limits = leb-true r.rmin r.rmax order;
                    most = omega arith;
                  },
                  λ _. (sym fewest, sym most),
                ),
            λ (f, k).
                let (fewest, most) = k one in (
                  (omega arith, (omega arith, (omega arith, tt))),
                  (
                    passed r f,
                    ap₂ (λ (x y : ℕ). record { type = r.type; mand = r.mand; group = r.group; rmin = x; rmax = y }) (sym fewest) (sym most),
                  ),
                ),
          )

  -- The frequency group with this number, among these roles
  pub group-exact : (roles : List Role) (number : ℕ)
      → Exact form (line next freq_line group_of (group_tests roles number)) (GroupForm roles number) (λ (f : Frequency). line_of_group f ∷ [])
  unfolding group_tests ranges line_of_group
  group-exact roles number =
      exact_as form forms (λ f w. refl)
      (line-exact form next cuts freq_line group_of (group_tests roles number) line_of_group group-spelling
      (λ f w. small-ranges freq_line _ (unfold all is_small in refl) (group-spelling.counted f) w.0))
    where
      forms : (f : Frequency)
          → LineForm freq_line group_of (group_tests roles number) line_of_group f ↔ GroupForm roles number f
      forms f = (
        λ ((fmin, (fmax, _)), ((counts, (names, _)), _)). record {
          some = fmin.0;
          counts = leb-true f.fmin f.fmax counts;
          most = fmax.1;
          named = (named_decides number roles).0 names;
        },
        λ g. ((omega arith, (omega arith, tt)), ((le-leb f.fmin f.fmax g.counts, ((named_decides number roles).1 g.named, tt)), refl)),
      )

  -- A `pred` line, after so many roles and groups
  pub head-exact : (roles groups : ℕ)
      → Exact form (line next pred_line head_of (pred_tests roles groups)) (HeadForm roles groups) (λ (h : PredHead). line_of_head h ∷ [])
  unfolding pred_tests most_roles most_groups ranges line_of_head
  head-exact roles groups =
      exact_as form forms (λ h w. refl)
      (line-exact form next cuts pred_line head_of (pred_tests roles groups) line_of_head head-spelling
      (λ h w. small-ranges pred_line _ (unfold all is_small in refl) (head-spelling.counted h) w.0))
    where
      forms : (h : PredHead)
          → LineForm pred_line head_of (pred_tests roles groups) line_of_head h ↔ HeadForm roles groups h
      forms h = (
        λ ((min, (max, (arity, (few, _)))), ((role_total, (group_total, (sizes, _))), _)). record {
          some = min.0;
          sizes = leb-true h.min h.max sizes;
          most = max.1;
          arity = arity;
          few = few.1;
          role_total = leb-true (roles + h.roles) 96 role_total;
          group_total = leb-true (groups + h.groups) 48 group_total;
        },
        λ f. (
          (omega arith, (omega arith, (omega arith, (omega arith, tt)))),
          (
            (le-leb (roles + h.roles) 96 f.role_total, (le-leb (groups + h.groups) 48 f.group_total, (le-leb h.min h.max f.sizes, tt))),
            refl,
          ),
        ),
      )

  -- A line with one number that has no test but its range
  pub count-exact : (k : LineKind) (low high : ℕ) → ranges k ≡ low to high ∷ [] → high ≤ 999999
      → Exact form (count next k) (λ (n : ℕ). Between low n high) (λ (n : ℕ). line_of_count k n ∷ [])
  unfolding count count_of fields line_of_count
  count-exact k low high e bound =
      exact_as form forms (λ n w. refl)
      (line-exact form next cuts k count_of (λ n. []) (line_of_count k) spelling
      (λ n w. each-cons _ (le_trans ((forms n).0 w).1 bound) (each_nil _)))
    where
      spelling : Spelling k count_of (line_of_count k)
      spelling = count-spelling k (ap length e)

      forms : (n : ℕ) → LineForm k count_of (λ n. []) (line_of_count k) n ↔ Between low n high
      forms n = rw e (λ h. h.0.0, λ h. ((h, tt), (tt, refl)))

  -- The `end` line, after so many roles
  pub end-exact : (roles : ℕ) → roles ≤ 96
      → Exact form (line next end_line count_of (end_tests roles)) (λ (n : ℕ). n ≡ roles) (λ (n : ℕ). line_of_count end_line n ∷ [])
  unfolding end_tests count_of ranges fields line_of_count
  end-exact roles bound =
      exact_as form forms (λ n w. refl)
      (line-exact form next cuts end_line count_of (end_tests roles) (line_of_count end_line) spelling
      (λ n w. let e : n ≡ roles = (forms n).0 w in each-cons _ (omega arith) (each_nil _)))
    where
      spelling : Spelling end_line count_of (line_of_count end_line)
      spelling = count-spelling end_line refl

      forms : (n : ℕ) → LineForm end_line count_of (end_tests roles) (line_of_count end_line) n ↔ (n ≡ roles)
      forms n = (λ h. eqb-true n roles h.1.0.0, λ e. ((omega arith, tt), ((eq-eqb n roles e, tt), refl)))

-- The number of an `end` line that was read is that of the roles, however many
pub end-only : {form : LineKind → List ℕ → List ℕ} (next : LineKind → List ℕ → Cut) (cuts : Cuts form next) (roles n : ℕ) (s : List ℕ)
    {a n' : ℕ} {rest : List ℕ} → line next end_line count_of (end_tests roles) n s ≡ read a n' rest → a ≡ roles
unfolding end_tests ranges fields
end-only {form} next cuts roles n s {a} {n'} {rest} e =
    let h = line-only form next cuts end_line count_of (end_tests roles) (line_of_count end_line) (count-spelling end_line refl) n s a n' rest e in
    eqb-true a roles h.valid.1.0.0
