-- A table with no fault of form. Its numbers are small, so that it can be walked.
use Rattle.std.specs.Prelude.{ℕ, zero, suc, ◌+◌, ◌*◌, ◌≤◌, ◌≡◌, refl, get_or, drop}
use Rattle.std.proofs.Common.{arith, ap, ◌∙◌, get_or-drop}
use Rattle.std.proofs.Math.Path.{subst⁻¹}
use mathlib.Core.List.Memᴰ.{head as here}
use mathlib.Core.List.Memᴰ.{tail as there}
use mathlib.Core.List.{List, [], ◌∷◌, ◌++◌, map, flat_map}
use Rattle.std.proofs.Math.ListN.{length}
use Rattle.orm.specs.Diagram.{ObjectType, Role, Frequency, Predicate, Diagram, Line, line_of_type, line_of_role, line_of_group, line_of_pred}
use Rattle.orm.specs.Diagram.{lines_of_pred, line_of_count, limits_roles, all_roles, lines, table}
use Rattle.orm.specs.Form.{type_of}
use Rattle.orm.specs.Sets.{upper}
use Rattle.counting.specs.Terms.{Each, EachFrom}
use Rattle.orm.specs.WellFormed.{TypeForm, RoleForm, GroupForm, PredForm, WellFormed}
use Rattle.reading.specs.TextLength.{first_small}
use Rattle.reading.specs.WideTable.{wide_table}
use Rattle.reading.specs.WideLines.{limited, wide_as_limited}
use Rattle.reading.proofs.TableLength.{wide-length}
use Rattle.orm.proofs.Laws.Bounds.{length-upper}
use Rattle.table.specs.Valid.{Valid, Under}
use Rattle.table.specs.Positions.{preds_length, type_count, pred_count, first_pred_at, diagram_of, Walkable}
use Rattle.table.specs.Laws.Walks.{each-length, preds-length}
use Rattle.table.specs.Laws.WideTable.{values, values_append, wide_back, wide-inside}

pub under_nil : (b : ℕ) → Under b []
under_nil b = record { at = λ k. omega arith }

pub under-cons : {b x : ℕ} {xs : List ℕ} → x ≤ b → Under b xs → Under b (x ∷ xs)
under-cons {b} {x} {xs} h u = record { at = go }
  where
    go : (k : ℕ) → get_or (x ∷ xs) k 0 ≤ b
    go zero = h
    go (suc k) = u.at k

pub under_append : {b : ℕ} (xs ys : List ℕ) → Under b xs → Under b ys → Under b (xs ++ ys)
under_append [] ys u v = v
under_append (x ∷ xs) ys u v = under-cons (u.at 0) (under_append xs ys (record { at = λ k. u.at (suc k) }) v)

under_tail : {b : ℕ} (xs : List ℕ) → Under b xs → Under b (drop 1 xs)
under_tail xs u = record { at = λ k. rw (get_or-drop 1 xs k 0) (u.at (1 + k)) }

-- ---- the numbers of lines

abbrev Small : List Line → Type 0
Small ls = Under 999999 (values ls)

small_nil : Small []
unfolding values flat_map
small_nil = under_nil 999999

small-cons : (l : Line) (ls : List Line) → Under 999999 l.values → Small ls → Small (l ∷ ls)
unfolding values flat_map
small-cons l ls u v = under_append l.values (values ls) u v

small_append : (ls ks : List Line) → Small ls → Small ks → Small (ls ++ ks)
small_append ls ks u v = rw values_append (under_append (values ls) (values ks) u v)

module _ {A : Type 0} where
  small-each : (line_of : A → Line) (xs : List A) → Each (λ (a : A). Under 999999 (line_of a).values) xs → Small (map line_of xs)
  small-each line_of [] h = small_nil
  small-each line_of (x ∷ xs) h = small-cons (line_of x) (map line_of xs) (h x (here refl)) (small-each line_of xs (λ a m. h a (there m)))

  small-flat : (lines_of : A → List Line) (xs : List A) → Each (λ (a : A). Small (lines_of a)) xs → Small (flat_map lines_of xs)
  unfolding flat_map
  small-flat lines_of [] h = small_nil
  small-flat lines_of (x ∷ xs) h =
      small_append (lines_of x) (flat_map lines_of xs) (h x (here refl)) (small-flat lines_of xs (λ a m. h a (there m)))

-- a numbered statement gives one of each element
pub each_of : {A : Type 0} (P : ℕ → A → Type 0) (Q : A → Type 0) → ((n : ℕ) (a : A) → P n a → Q a) → (n : ℕ) (xs : List A)
    → EachFrom P n xs → Each Q xs
each_of {A = A} P Q f n [] h a x'' = elim x'' [ ]
each_of P Q f n (x ∷ xs) h a (here e) = subst⁻¹ Q e (f n x h.0)
each_of P Q f n (x ∷ xs) h a (there m) = each_of P Q f (suc n) xs h.1 a m

-- ---- the lines of a well-formed diagram, as `diagram=2`

type-small : (us : List ObjectType) (n : ℕ) (t : ObjectType) → n ≤ 999999 → TypeForm us n t → Under 999999 (line_of_type t).values
unfolding line_of_type
type-small us n t h f =
    under-cons (omega (arith, f.sizes, f.most))
    (under-cons (omega (arith, f.most))
    (under-cons (first_small us n t f)
    (under-cons f.largest
    (under-cons (omega (arith, f.above))
    (under-cons (omega (arith, f.indep)) (under_nil 999999))))))

types-small : (us : List ObjectType) (n : ℕ) (ts : List ObjectType) → n + length ts ≤ 999999 → EachFrom (TypeForm us) n ts → Small (map line_of_type ts)
types-small us n [] h f = small_nil
types-small us n (t ∷ ts) h f =
    small-cons (line_of_type t) (map line_of_type ts) (type-small us n t (omega arith) f.0) (types-small us (suc n) ts (omega arith) f.1)

role-small : (types groups : ℕ) (r : Role) → types ≤ 999999 → groups ≤ 999999 → RoleForm types groups r
    → Under 999999 (line_of_role 2 r).values
unfolding line_of_role limits_roles
role-small types groups r h k f =
    under-cons (omega (arith, f.player.1))
    (under-cons (omega (arith, f.mand))
    (under-cons (omega (arith, f.group))
    (under-cons (omega (arith, f.limits, f.most)) (under-cons (omega (arith, f.most)) (under_nil 999999)))))

group-small : (rs : List Role) (n : ℕ) (g : Frequency) → GroupForm rs n g → Under 999999 (line_of_group g).values
unfolding line_of_group
group-small rs n g f = under-cons (omega (arith, f.counts, f.most)) (under-cons (omega (arith, f.most)) (under_nil 999999))

pred-small : (types : ℕ) (p : Predicate) → types ≤ 999999 → PredForm types p → Small (lines_of_pred 2 p)
unfolding lines_of_pred line_of_pred
pred-small types p h f =
    let few : length p.groups ≤ 999999 = omega (arith, f.few) in
    small_append (line_of_pred p ∷ map (line_of_role 2) p.roles) (map line_of_group p.groups)
    (small-cons (line_of_pred p) (map (line_of_role 2) p.roles)
    (under-cons (omega (arith, f.sizes, f.most))
    (under-cons (omega (arith, f.most)) (under-cons (omega (arith, f.arity.1)) (under-cons few (under_nil 999999)))))
    (small-each (line_of_role 2) p.roles (λ r m. role-small types (length p.groups) r h few (f.roles r m))))
    (small-each line_of_group p.groups (each_of (GroupForm p.roles) _ (group-small p.roles) 1 p.groups f.groups))

count_small : (n : ℕ) → n ≤ 999999 → Under 999999 (n ∷ [])
count_small n h = under-cons h (under_nil 999999)

module _ (d : Diagram) (w : WellFormed d) where
  limited-small : Under 999999 (table (limited d))
  unfolding table lines line_of_count values all_roles
  limited-small =
      let few : length d.types ≤ 999999 = omega (arith, w.type_count.1) in
      small_append _ _
      (small_append _ _
      (small-cons _ _ (count_small 2 (omega arith))
      (small-cons _ _ (count_small (length d.types) few) (types-small d.types 1 d.types (omega (arith, w.type_count.1)) w.types)))
      (small-cons _ _ (count_small (length d.preds) (omega (arith, w.pred_count.1)))
      (small-flat (lines_of_pred 2) d.preds (λ p m. pred-small (length d.types) p few (w.preds p m)))))
      (small-cons _ _ (count_small (length (all_roles d)) (omega (arith, w.role_count))) small_nil)

  wide-small : Under 999999 (wide_table d)
  wide-small = rw (wide_as_limited d w) (under-cons (omega (arith, w.kinds.1)) (under_tail (table (limited d)) limited-small))

-- The table of a well-formed diagram is valid
pub wide-valid : {t : List ℕ} {d : Diagram} → t ≡ wide_table d → WellFormed d → Valid t
wide-valid {t} {d} e w =
    let same-d : diagram_of t ≡ d = ap diagram_of e ∙ wide_back d w in
    record { is = rw same-d e; formed = rw same-d w }

abbrev Inside : List ℕ → Type 0
Inside t = first_pred_at t + preds_length (pred_count t) (drop (first_pred_at t) t) ≤ length t

pub valid-walkable : {t : List ℕ} → Valid t → Walkable t
unfolding diagram_of
valid-walkable {t} v =
    let types : length (diagram_of t).types ≡ type_count t = each-length type_of 6 (type_count t) (drop 2 t) in
    let preds : length (diagram_of t).preds ≡ pred_count t = preds-length (pred_count t) (drop (first_pred_at t) t) in
    record {
      small = (subst⁻¹ (Under 999999) v.is (wide-small (diagram_of t) v.formed)).at;
      few_types = omega (arith, types, v.formed.type_count.1);
      few_preds = omega (arith, preds, v.formed.pred_count.1);
      few_roles = v.formed.role_count;
      few_groups = v.formed.group_count;
      whole = subst⁻¹ Inside v.is (wide-inside (diagram_of t) v.formed);
    }

-- A valid table has more than twice as many numbers as its diagram has sets: types, predicates, roles and groups
pub sets-few : (t : List ℕ) → Valid t → 2 * length (upper (diagram_of t)) + 4 ≤ length t
sets-few t v = omega (arith, ap length v.is, wide-length (diagram_of t), length-upper (diagram_of t))
