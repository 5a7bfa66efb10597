-- The text of a well-formed diagram has at most 3593 bytes, or 4553 where its role lines have RMIN and RMAX.
use Rattle.std.specs.Prelude.{ℕ, zero, suc, ◌+◌, ◌-◌, ◌*◌, min, ◌≤◌, ◌<◌, ◌≡◌, refl, Bool, true, false, length}
use Rattle.std.proofs.Math.Decide.{dec_le}
use Rattle.std.proofs.Common.{mul-add, mul-suc, arith, ap, subst, inr, length-append}
use mathlib.Core.List.Memᴰ.{head as here}
use mathlib.Core.List.Memᴰ.{tail as there}
use mathlib.Core.List.{List, [], ◌∷◌, ◌++◌, map, flat_map}
use Rattle.counting.specs.Terms.{Each, EachFrom}
use Rattle.orm.specs.Diagram.{ObjectType, Role, Frequency, Predicate, Diagram, Line, limits_roles, role_line_of, line_of_type, line_of_role, line_of_group, line_of_pred, lines_of_pred, line_of_count, diagram_line, types_line, preds_line, end_line, all_roles, all_groups, lines}
use Rattle.orm.specs.Text.{bytes, key, separator, decimal, values_text, line_text, render}
use Rattle.orm.specs.WellFormed.{TypeForm, RoleForm, GroupForm, PredForm, WellFormed}
use Rattle.reading.specs.Decimal.{bound, decimal-length}
use Rattle.reading.specs.Exact.{written, written_append}
use Rattle.reading.specs.Cutting.{text_form}
use Rattle.reading.specs.Spelling.{role_line_by, role_values_by}

-- The numbers of a line, with what follows each, take at most `b` bytes
record Wide (b : ℕ) (vs : List ℕ) : Type 0 where
  is : length (values_text vs) ≤ b

wide_nil : Wide 0 []
unfolding values_text
wide_nil = record { is = omega arith }

-- a number of at most `suc k` digits more
wide-cons : (k : ℕ) {b v : ℕ} {vs : List ℕ} → v < bound (suc k) → Wide b vs → Wide (2 + k + b) (v ∷ vs)
unfolding values_text
wide-cons k {b} {v} {vs} h w = record {
  is = omega (arith, length-append (decimal v) (separator (length vs) ∷ values_text vs), decimal-length k v h, w.is);
}

-- ---- the numbers of each line

-- FIRST is 0, or at most LAST
pub first_small : (ts : List ObjectType) (n : ℕ) (t : ObjectType) → TypeForm ts n t → t.first ≤ 999999
first_small ts n t f = go t.first refl
  where
    go : (s : ℕ) → t.first ≡ s → t.first ≤ 999999
    go zero e = omega arith
    go (suc s) e = omega (arith, f.values (inr (λ z. omega arith)), f.largest)

-- SUPER has one digit up to type 10
type-wide : (ts : List ObjectType) (n : ℕ) (t : ObjectType) → n ≤ 32 → TypeForm ts n t
    → Wide 29 (line_of_type t).values × (n ≤ 10 → Wide 28 (line_of_type t).values)
unfolding line_of_type bound
type-wide ts n t h f =
    (numbers (wide-cons 1 (omega (arith, f.above)) last), λ k. numbers (wide-cons 0 (omega (arith, f.above)) last))
  where
    last : Wide 2 (t.indep ∷ [])
    last = unfold bound in wide-cons 0 (omega (arith, f.indep)) wide_nil

    numbers : {b : ℕ} {vs : List ℕ} → Wide b vs → Wide (2 + 3 + (2 + 3 + (2 + 5 + (2 + 5 + b)))) (t.min ∷ t.max ∷ t.first ∷ t.last ∷ vs)
    numbers w =
        unfold bound in
        wide-cons 3 (omega (arith, f.sizes, f.most))
        (wide-cons 3 (omega (arith, f.most))
        (wide-cons 5 (omega (arith, first_small ts n t f)) (wide-cons 5 (omega (arith, f.largest)) w)))

-- TYPE, MAND and GROUP before other numbers, and RMIN and RMAX
role-wide : (types groups : ℕ) (r : Role) → types ≤ 32 → groups ≤ 6 → RoleForm types groups r → {b : ℕ} {vs : List ℕ} → Wide b vs
    → Wide (7 + b) (r.type ∷ r.mand ∷ r.group ∷ vs)
unfolding bound
role-wide types groups r h k f {b} {vs} w =
    let e : 2 + 1 + (2 + 0 + (2 + 0 + b)) ≡ 7 + b = omega arith in
    subst (λ (n : ℕ). Wide n (r.type ∷ r.mand ∷ r.group ∷ vs)) e (wide-cons 1 (omega (arith, f.player.1))
    (wide-cons 0 (omega (arith, f.mand)) (wide-cons 0 (omega (arith, f.group)) w)))

limits-wide : (types groups : ℕ) (r : Role) → RoleForm types groups r → Wide 10 (r.rmin ∷ r.rmax ∷ [])
unfolding bound
limits-wide types groups r f = wide-cons 3 (omega (arith, f.limits, f.most)) (wide-cons 3 (omega (arith, f.most)) wide_nil)

group-wide : (rs : List Role) (n : ℕ) (g : Frequency) → GroupForm rs n g → Wide 10 (line_of_group g).values
unfolding line_of_group bound
group-wide rs n g f = wide-cons 3 (omega (arith, f.counts, f.most)) (wide-cons 3 (omega (arith, f.most)) wide_nil)

head-wide : (types : ℕ) (p : Predicate) → PredForm types p → Wide 14 (line_of_pred p).values
unfolding line_of_pred bound
head-wide types p f =
    wide-cons 3 (omega (arith, f.sizes, f.most))
    (wide-cons 3 (omega (arith, f.most))
    (wide-cons 0 (omega (arith, f.arity.1))
    (wide-cons 0 (omega (arith, f.few)) wide_nil)))

count-wide : (n : ℕ) → n ≤ 99 → Wide 3 (n ∷ [])
unfolding bound
count-wide n h = wide-cons 1 (omega arith) wide_nil

-- ---- some lines

abbrev pub size : List Line → ℕ
size ls = length (written text_form ls)

size_append : (ls ks : List Line) → size (ls ++ ks) ≡ size ls + size ks
size_append ls ks = rw (written_append text_form ls ks, length-append (written text_form ls) (written text_form ks)) refl

size_none : size [] ≡ 0
unfolding written flat_map
size_none = refl

size-cons : (l : Line) (ls : List Line) {b : ℕ} → Wide b l.values → size (l ∷ ls) ≤ length (bytes (key l.kind)) + 1 + b + size ls
unfolding written flat_map line_text
size-cons l ls {b} w = omega (
  arith,
  length-append (bytes (key l.kind) ++ 61 ∷ values_text l.values) (written text_form ls),
  length-append (bytes (key l.kind)) (61 ∷ values_text l.values),
  w.is,
)

pub types-size : (us : List ObjectType) (n : ℕ) (ts : List ObjectType) → n + length ts ≤ 33 → EachFrom (TypeForm us) n ts
    → size (map line_of_type ts) + min (11 - n) (length ts) ≤ 34 * length ts
unfolding line_of_type bytes key
types-size us n [] h f = omega (arith, size_none)
types-size us n (t ∷ ts) h f = go (dec_le n 10) (types-size us (suc n) ts (omega arith) f.1)
  where
    go : Dec (n ≤ 10) → size (map line_of_type ts) + min (11 - suc n) (length ts) ≤ 34 * length ts
        → size (map line_of_type (t ∷ ts)) + min (11 - n) (suc (length ts)) ≤ 34 * suc (length ts)
    go (yes l) others =
        unfold line_of_type bytes key in
        omega (arith, size-cons (line_of_type t) (map line_of_type ts) ((type-wide us n t (omega arith) f.0).1 l))
    go (no l) others =
        unfold line_of_type bytes key in
        omega (arith, size-cons (line_of_type t) (map line_of_type ts) (type-wide us n t (omega arith) f.0).0)

-- A role line, in a diagram of this kind
unfoldable pub role_bytes : ℕ → ℕ
role_bytes kind = elim (limits_roles kind) [ true ↦ 22 | false ↦ 12 ]

role-size : (kind types groups : ℕ) (r : Role) (ls : List Line) → types ≤ 32 → groups ≤ 6 → RoleForm types groups r
    → size (line_of_role kind r ∷ ls) ≤ role_bytes kind + size ls
unfolding line_of_role role_line_of role_bytes bytes key
role-size kind types groups r ls h k f = go (limits_roles kind)
  where
    line_by : Bool → Line
    line_by b = record { kind = role_line_by b; values = role_values_by b r }

    go : (b : Bool) → size (line_by b ∷ ls) ≤ elim b [ true ↦ 22 | false ↦ 12 ] + size ls
    go true = omega (arith, size-cons (line_by true) ls (role-wide types groups r h k f (limits-wide types groups r f)))
    go false = omega (arith, size-cons (line_by false) ls (role-wide types groups r h k f wide_nil))

roles-size : (kind types groups : ℕ) (rs : List Role) → types ≤ 32 → groups ≤ 6 → Each (RoleForm types groups) rs
    → size (map (line_of_role kind) rs) ≤ role_bytes kind * length rs
roles-size kind types groups [] h k f = omega (arith, size_none)
roles-size kind types groups (r ∷ rs) h k f = omega (
  arith,
  role-size kind types groups r (map (line_of_role kind) rs) h k (f r (here refl)),
  roles-size kind types groups rs h k (λ a m. f a (there m)),
  mul-suc (role_bytes kind) (length rs),
)

groups-size : (rs : List Role) (n : ℕ) (gs : List Frequency) → EachFrom (GroupForm rs) n gs → size (map line_of_group gs) ≤ 15 * length gs
unfolding line_of_group bytes key
groups-size rs n [] f = omega (arith, size_none)
groups-size rs n (g ∷ gs) f = omega (
  arith,
  size-cons (line_of_group g) (map line_of_group gs) (group-wide rs n g f.0),
  groups-size rs (suc n) gs f.1,
)

pub pred-size : (kind types : ℕ) (p : Predicate) → types ≤ 32 → PredForm types p
    → size (lines_of_pred kind p) ≤ 19 + role_bytes kind * length p.roles + 15 * length p.groups
unfolding lines_of_pred line_of_pred bytes key
pred-size kind types p h f = omega (
  arith,
  size-cons (line_of_pred p) (map (line_of_role kind) p.roles ++ map line_of_group p.groups) (head-wide types p f),
  size_append (map (line_of_role kind) p.roles) (map line_of_group p.groups),
  roles-size kind types (length p.groups) p.roles h f.few f.roles,
  groups-size p.roles 1 p.groups f.groups,
)

pub preds-size : (kind types : ℕ) (ps : List Predicate) → types ≤ 32 → Each (PredForm types) ps
    → size (flat_map (lines_of_pred kind) ps) ≤ 19 * length ps + role_bytes kind * length (flat_map (λ (p : Predicate). p.roles) ps) + 15 * length
    (flat_map (λ (p : Predicate). p.groups) ps)
unfolding flat_map
preds-size kind types [] h f = omega (arith, size_none)
preds-size kind types (p ∷ ps) h f = omega (
  arith,
  size_append (lines_of_pred kind p) (flat_map (lines_of_pred kind) ps),
  pred-size kind types p h (f p (here refl)),
  preds-size kind types ps h (λ a m. f a (there m)),
  ap (role_bytes kind *◌) (length-append p.roles (flat_map (λ (q : Predicate). q.roles) ps)),
  mul-add (role_bytes kind) (length p.roles) (length (flat_map (λ (q : Predicate). q.roles) ps)),
  length-append p.groups (flat_map (λ (q : Predicate). q.groups) ps),
)

-- ---- the whole text

pub rendered : (d : Diagram) → render d ≡ written text_form (lines d)
unfolding render written
rendered d = refl

kind-wide : (n : ℕ) → n ≤ 2 → Wide 2 (n ∷ [])
unfolding bound
kind-wide n h = wide-cons 0 (omega arith) wide_nil

by-roles : (d : Diagram) → WellFormed d → length (render d) ≤ 2441 + role_bytes d.kind * length (all_roles d)
unfolding lines line_of_count bytes key all_roles all_groups
by-roles d w =
    let ts : List Line = map line_of_type d.types in
    let ps : List Line = flat_map (lines_of_pred d.kind) d.preds in
    let last : List Line = line_of_count end_line (length (all_roles d)) ∷ [] in
    let after-types : List Line = ts ++ line_of_count preds_line (length d.preds) ∷ ps ++ last in
    omega (
      arith,
      ap length (rendered d),
      size-cons (line_of_count diagram_line d.kind) (line_of_count types_line (length d.types) ∷ after-types) (kind-wide d.kind w.kinds.1),
      size-cons (line_of_count types_line (length d.types)) after-types (count-wide (length d.types) (omega (arith, w.type_count.1))),
      size_append (ts ++ line_of_count preds_line (length d.preds) ∷ ps) last,
      size_append ts (line_of_count preds_line (length d.preds) ∷ ps),
      types-size d.types 1 d.types (omega (arith, w.type_count.1)) w.types,
      size-cons (line_of_count preds_line (length d.preds)) ps (count-wide (length d.preds) (omega (arith, w.pred_count.1))),
      preds-size d.kind (length d.types) d.preds w.type_count.1 w.preds,
      size-cons (line_of_count end_line (length (all_roles d))) [] (count-wide (length (all_roles d)) (omega (arith, w.role_count))),
      size_none,
      w.type_count.1,
      w.pred_count.1,
      w.group_count,
    )

-- Of each kind
unfoldable pub text_bytes : ℕ → ℕ
text_bytes kind = elim (limits_roles kind) [ true ↦ 4553 | false ↦ 3593 ]

pub text-length-by : (d : Diagram) → WellFormed d → length (render d) ≤ text_bytes d.kind
unfolding role_bytes text_bytes
text-length-by d w = go (limits_roles d.kind) (by-roles d w)
  where
    go : (b : Bool) → length (render d) ≤ 2441 + elim b [ true ↦ 22 | false ↦ 12 ] * length (all_roles d)
        → length (render d) ≤ elim b [ true ↦ 4553 | false ↦ 3593 ]
    go true h = omega (arith, w.role_count)
    go false h = omega (arith, w.role_count)

pub text-length : (d : Diagram) → WellFormed d → length (render d) ≤ 4553
unfolding text_bytes
text-length d w = go (limits_roles d.kind) (text-length-by d w)
  where
    go : (b : Bool) → length (render d) ≤ elim b [ true ↦ 4553 | false ↦ 3593 ] → length (render d) ≤ 4553
    go true h = h
    go false h = omega arith
