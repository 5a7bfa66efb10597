-- The limits of a role, a group, a predicate's rows and a type, put together from those that their functions write.
use Rattle.std.specs.Prelude.{ℕ, zero, suc, ◌+◌, ◌-◌, ◌≡◌, refl, min, Bool, true, false, not, eqb, slice_index, fold, drop, if◌then◌else◌}
use Rattle.std.proofs.Common.{arith, sym, ap, ap₂, subst, ◌∙◌, length-append, get_or, add-one, ne_eqb}
use mathlib.Core.List.{List, [], ◌∷◌, ◌++◌, map, append-nil, map-append}
use Rattle.std.proofs.Math.ListN.{length}
use Rattle.std.proofs.lemmas.List.Sums.{fold-append}
use Rattle.orm.specs.Diagram.{is_grouped, is_mandatory, is_root, must_play, index, all_roles}
use Rattle.orm.specs.Form.{group_of, type_of}
use Rattle.counting.specs.Lists.{up_from}
use Rattle.fixpoint.specs.Limits.{Limit}
use Rattle.orm.specs.Sets.{Part, group_set, group_roles, group_part, role_part, parts, at_most, only_if, limits_of_role, limits_of_group, limit_of_rows, roles_of_type, first_role, limits_of_type}
use Rattle.counting.proofs.Laws.Range.{length-up_from}
use Rattle.buffer.specs.Written.{Place, place, place_of, put, puts, Wrote, WroteAll}
use Rattle.buffer.specs.Laws.{wrote-whole}
use Rattle.buffer.specs.declared.output.Output.{Output}
use Rattle.lowering.specs.Sizes.{largest}
use Rattle.lowering.specs.declared.Most.{Most}
use Rattle.lowering.specs.declared.Most.TheVariants.{Size, Product, Sum}
use Rattle.table.specs.Laws.Walks.{group-count}
use Rattle.table.specs.Positions.{wide_role, diagram_of}
use Rattle.table.specs.Cursors.{placed_at}
use Rattle.table.specs.declared.Cursor.{Cursor}
use Rattle.selection.specs.Selected.{positions}
use Rattle.selection.specs.Laws.Selects.{positions-select}
use Rattle.limits.specs.Encoded.{both, both_of, with_code, with_operands, with_limit, size_limit, size_if, times_limit, quotient_limit, product_limit, sum_limit, Encoded}
use Rattle.limits.specs.Single.{parts_in, Played}
use Rattle.limits.specs.Laws.Read.{one_is}
use Rattle.limits.specs.declared.writer.Writer.{Writer}

pub encoded_then : {o m n : Writer} {xs ys : List Limit} → Encoded o xs m → Encoded m ys n → Encoded o (xs ++ ys) n
encoded_then {o} {xs = xs} {ys = ys} v w = record {
  same_limits = w.same_limits ∙ v.same_limits;
  same_operands = w.same_operands ∙ v.same_operands;
  is = w.is ∙ ap (λ b. fold with_limit b ys) v.is ∙ sym (fold-append with_limit (both_of o) xs ys);
}

pub encoded_as : {o n : Writer} {xs ys : List Limit} → Encoded o xs n → xs ≡ ys → Encoded o ys n
encoded_as {o} {n} w e = subst (λ ls. Encoded o ls n) e w

-- ---- products and sums

pub parts_count : (a g : ℕ) (rs : List ℕ) → length (up_from a g ++ rs) ≡ g + length rs
parts_count a g rs = length-append (up_from a g) rs ∙ ap (λ n. n + length rs) (length-up_from a g)

-- one
pub only_is : {only p : Output ℕ} {ss : List ℕ} → place_of only ≡ place (0 ∷ []) 0 → Wrote only ss p → length ss ≡ 1
    → slice_index p.buffer.now 0 ≡ slice_index ss 0
only_is {only} {p} {ss} start w one =
    let all : WroteAll (0 ∷ []) ss p.buffer.now p.at = record { is = w.is ∙ ap (λ (s : Place ℕ). puts s ss) start } in
    ap (λ xs. slice_index xs 0) (wrote-whole all (omega arith)) ∙ front ss
  where
    front : (xs : List ℕ) → slice_index (xs ++ drop (length ss) (0 ∷ [])) 0 ≡ slice_index xs 0
    front [] = rw one
    front (x ∷ xs) = refl

pub single_is : {o n : Writer} (target : ℕ) (ss : List ℕ) {s : ℕ} → length ss ≡ 1 → s ≡ slice_index ss 0 → Encoded o (size_limit target s ∷ []) n
    → Encoded o (product_limit target ss ∷ []) n
single_is {o} {n} target ss {s} one e v =
    let is : s ∷ [] ≡ ss = ap (λ x. x ∷ []) e ∙ sym (one_is ss one) in
    subst (λ xs. Encoded o (product_limit target xs ∷ []) n) is v

placed_there : (o : Writer) (p : Output ℕ) (target : ℕ) (ss : List ℕ) {from to : ℕ} → from ≡ min largest o.operands.at → to ≡ min largest p.at
    → Wrote o.operands ss p → (most : ℕ → ℕ → Most)
    → with_code (both (place_of o.limits) (place_of p)) target (most from to) ≡ with_operands most (both_of o) target ss
placed_there o p target ss ef et w most =
    ap₂ (λ a b. with_code (both (place_of o.limits) (place_of p)) target (most a b)) ef et
    ∙ ap (λ (q : Place ℕ). both (put (place_of o.limits) (record { target = target; most = most (min largest o.operands.at) (min largest q.at) })) q) w.is

-- not one
module _ {o n : Writer} {p : Output ℕ} (target : ℕ) (ss : List ℕ) {from to : ℕ} (ef : from ≡ min largest o.operands.at) (et : to ≡ min largest p.at)
    (w : Wrote o.operands ss p) (nl : n.limits.buffer.ghost_name ≡ o.limits.buffer.ghost_name) (no : n.operands.buffer.ghost_name ≡ p.buffer.ghost_name) where
  pub many_is : (length ss ≡ 1 → ⊥) → both_of n ≡ with_code (both (place_of o.limits) (place_of p)) target (Product from to)
      → Encoded o (product_limit target ss ∷ []) n
  many_is d e = record {
    same_limits = nl;
    same_operands = no ∙ w.same;
    is = e ∙ placed_there o p target ss ef et w Product
        ∙ sym (ap (λ b. if b then with_code (both_of o) target (Size (slice_index ss 0)) else with_operands Product (both_of o) target ss) (ne_eqb (length ss) 1 d));
  }

  pub sum_is : both_of n ≡ with_code (both (place_of o.limits) (place_of p)) target (Sum from to) → Encoded o (sum_limit target ss ∷ []) n
  sum_is e = record {
    same_limits = nl;
    same_operands = no ∙ w.same;
    is = e ∙ placed_there o p target ss ef et w Sum;
  }

-- ---- a predicate

module _ (t : List ℕ) (x : Cursor) where
  -- a role: the numbers of the code are its line's, its type's set and its group's, and two tests
  pub role_is : {o o₁ o₂ o₃ o₄ : Writer} (p q : ℕ) {type mand group set own : ℕ} {grouped mandatory : Bool}
      → type ≡ get_or (drop q t) 0 0 → own ≡ type - 1 → group ≡ get_or (drop q t) 2 0 → grouped ≡ not (eqb group 0)
      → set ≡ x.groups + (group - 1) → mand ≡ get_or (drop q t) 1 0 → mandatory ≡ eqb mand 1 → Encoded o (size_limit p own ∷ []) o₁
      → Encoded o₁ (size_limit p x.own ∷ []) o₂ → Encoded o₂ (size_if grouped p set) o₃ → Encoded o₃ (size_if mandatory own p) o₄
      → Encoded o (limits_of_role (placed_at t x) p (wide_role (drop q t))) o₄
  unfolding limits_of_role is_grouped is_mandatory group_set placed_at at_most only_if
  role_is p q et ei eg eb es em ec w₁ w₂ w₃ w₄ =
      encoded_as (encoded_then w₁ (encoded_then w₂ (encoded_then w₃ w₄))) (rw (eb, ec, es, em, eg, ei, et))

  pub group_is : {o o₁ o₂ o₃ : Writer} (number q : ℕ) {fmin fmax set : ℕ} → set ≡ x.groups + (number - 1)
      → fmax ≡ get_or (drop q t) 1 0 → fmin ≡ get_or (drop q t) 0 0 → Encoded o (times_limit x.own fmax set ∷ []) o₁
      → Encoded o₁ (quotient_limit set x.own fmin ∷ []) o₂ → Encoded o₂ (product_limit set (parts_in (placed_at t x) 0 number) ∷ []) o₃
      → Encoded o (limits_of_group (placed_at t x) number (group_of (drop q t))) o₃
  unfolding limits_of_group group_set placed_at up_from
  group_is number q es e_m em w₁ w₂ w₃ = encoded_as (encoded_then w₁ (encoded_then w₂ w₃)) (rw (es, e_m, em))

  -- the sets of the groups are consecutive
  group-sets : (k n : ℕ) → map (λ (b : Part). b.own) (map (group_part (placed_at t x)) (up_from (suc k) n)) ≡ up_from (x.groups + k) n
  unfolding group_part group_set up_from placed_at
  group-sets k zero = refl
  group-sets k (suc n) =
      let here : x.groups + (suc k - 1) ≡ x.groups + k = omega arith in
      let next : x.groups + suc k ≡ suc (x.groups + k) = omega arith in
      ap₂ {C = List ℕ} (λ a l. a ∷ l) here (group-sets (suc k) n ∙ ap (λ (m : ℕ). up_from m n) next)

  role-sets : (ss : List ℕ) → map (λ (b : Part). b.own) (map role_part ss) ≡ ss
  unfolding role_part
  role-sets [] = refl
  role-sets (s ∷ ss) = ap {B = List ℕ} (λ l. s ∷ l) (role-sets ss)

  part-sets : {g : ℕ} → g ≡ get_or (drop x.at t) 3 0
      → up_from x.groups g ++ group_roles (placed_at t x) 0 ≡ map (λ (b : Part). b.own) (parts (placed_at t x))
  unfolding parts placed_at
  part-sets {g} eg =
      let long : length (placed_at t x).predicate.groups ≡ g = group-count (drop x.at t) ∙ sym eg in
      let zero-first : x.groups + 0 ≡ x.groups = omega arith in
      sym (map-append (λ (b : Part). b.own) (map (group_part (placed_at t x)) (up_from 1 (length (placed_at t x).predicate.groups)))
      (map role_part (group_roles (placed_at t x) 0))
      ∙ ap₂ {C = List ℕ} (λ k l. k ++ l) (ap (λ (m : ℕ). map (λ (b : Part). b.own) (map (group_part (placed_at t x)) (up_from 1 m))) long
      ∙ group-sets 0 g ∙ ap (λ (m : ℕ). up_from m g) zero-first) (role-sets (group_roles (placed_at t x) 0)))

  pub rows_is : {o n : Writer} {g : ℕ} → g ≡ get_or (drop x.at t) 3 0 → Encoded o (product_limit x.own (parts_in (placed_at t x) g 0) ∷ []) n
      → Encoded o (limit_of_rows (placed_at t x) ∷ []) n
  unfolding limit_of_rows placed_at
  rows_is eg w = encoded_as w (ap (λ ss. product_limit x.own ss ∷ []) (part-sets eg))

-- ---- a type

played-is : (t types : List ℕ) (first a : ℕ) → Played t types first → positions (suc a) first types ≡ roles_of_type (diagram_of t) (suc a)
unfolding roles_of_type
played-is t types first a w =
    rw (w.known.are, w.starts) (positions-select (suc a) (first_role (diagram_of t)) (all_roles (diagram_of t)))

-- the limits of a type whose supertype's limit is written: `held` says whether it must play
module _ (t s : List ℕ) (a : ℕ) {super set : ℕ} {subtype held : Bool} {o o₁ : Writer} (es : super ≡ get_or s 4 0) (eset : set ≡ super - 1)
    (eb : subtype ≡ not (eqb super 0)) (eh : held ≡ must_play (diagram_of t) (a + 1) (type_of s))
    (w : Encoded o (size_if subtype a set) o₁) where
  below-super : size_if subtype a set ≡ only_if (not (is_root (type_of s))) (at_most a (index (type_of s).super))
  unfolding is_root at_most only_if
  below-super = rw (eb, eset, es)

  must : must_play (diagram_of t) (suc a) (type_of s) ≡ held
  must = rw add-one at (sym eh)

  pub type-held : (types : List ℕ) (first : ℕ) {o₂ : Writer} → Played t types first → held ≡ true
      → Encoded o₁ (sum_limit a (positions (a + 1) first types) ∷ []) o₂ → Encoded o (limits_of_type (diagram_of t) a (type_of s)) o₂
  unfolding limits_of_type only_if
  type-held types first p e v =
      encoded_as (encoded_then w v) (rw (add-one, below-super, played-is t types first a p, must, e))

  pub type-free : held ≡ false → Encoded o (limits_of_type (diagram_of t) a (type_of s)) o₁
  unfolding limits_of_type only_if
  type-free e = encoded_as w (rw (below-super, must, e, append-nil))
