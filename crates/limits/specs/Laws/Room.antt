-- How much room the limits of a well-formed diagram take: how many there are, how many operands of products and sums, and how many operands in all.
use Rattle.std.specs.Prelude.{ℕ, suc, ◌+◌, ◌*◌, ◌≤◌, ◌≡◌, refl, Bool, true, false, not, nat_eq, if◌then◌else◌}
use Rattle.std.proofs.Common.{mul-suc}
use native.Mathlib.Omega.{arith}
use mathlib.Core.List.Memᴰ.{head as here}
use mathlib.Core.List.Memᴰ.{tail as there}
use mathlib.Core.List.{List, [], ◌∷◌, ◌++◌, map, flat_map, flatten}
use Rattle.std.proofs.Math.ListN.{length, length-append, length-map}
use Rattle.orm.specs.Diagram.{ObjectType, Role, Frequency, Predicate, Diagram, is_root, must_play, is_mandatory, is_grouped, index}
use Rattle.orm.specs.Diagram.{all_roles, all_groups}
use Rattle.counting.specs.Lists.{up_from, map_from}
use Rattle.fixpoint.specs.Limits.{Limit, product, sum, times, quotient}
use Rattle.counting.specs.Terms.{Each}
use Rattle.counting.proofs.Laws.Range.{length-up_from}
use Rattle.orm.specs.WellFormed.{PredForm, WellFormed}
use Rattle.orm.proofs.Laws.Select.{played_from, played-few, played-split}
use Rattle.orm.specs.Sets.{first_pred, first_role, first_group, select, roles_of_type, roles_in_group, Placed}
use Rattle.orm.specs.Sets.{placed_from, placed, group_set, group_roles, Part, group_part, role_part, parts, at_most, only_if, limits_of_role}
use Rattle.orm.specs.Sets.{limits_of_group, limit_of_rows, limits_of_pred, limits_of_type, limits}
use Rattle.dependents.specs.Dependents.{operand_count}
use Rattle.lowering.specs.Closed.{operands_of}
use Rattle.reading.specs.WideTable.{wide_table}
use Rattle.reading.proofs.TableLength.{wide-length}
use Rattle.limits.specs.Encoded.{written_of, written_count}
use Rattle.limits.specs.Prepared.{most_limits, most_operands, most_uses}

-- So many limits, operands of products and sums, and operands at most
record Takes (ls : List Limit) (limits written operands : ℕ) : Type 0 where
  limits_are : length ls ≤ limits
  written_are : written_count ls ≤ written
  operands_are : operand_count ls ≤ operands

takes_none : Takes [] 0 0 0
takes_none = record { limits_are = omega arith; written_are = omega arith; operands_are = omega arith }

takes_append : {ls ks : List Limit} {a b c x y z : ℕ} → Takes ls a b c → Takes ks x y z → Takes (ls ++ ks) (a + x) (b + y) (c + z)
takes_append {ls} {ks} v w = record {
  limits_are = omega (arith, length-append ls ks, v.limits_are, w.limits_are);
  written_are = omega (arith, written ls, v.written_are, w.written_are);
  operands_are = omega (arith, operands ls, v.operands_are, w.operands_are);
}
  where
    written : (ls : List Limit) → written_count (ls ++ ks) ≡ written_count ls + written_count ks
    written [] = omega arith
    written (l ∷ ls) =
        let all : written_count ((l ∷ ls) ++ ks) ≡ length (written_of l.most) + written_count (ls ++ ks) = length-append (written_of l.most) _ in
        let front : written_count (l ∷ ls) ≡ length (written_of l.most) + written_count ls = length-append (written_of l.most) _ in
        omega (arith, written ls)

    operands : (ls : List Limit) → operand_count (ls ++ ks) ≡ operand_count ls + operand_count ks
    operands [] = omega arith
    operands (l ∷ ls) =
        let all : operand_count ((l ∷ ls) ++ ks) ≡ length (operands_of l.most) + operand_count (ls ++ ks) = length-append (operands_of l.most) _ in
        let front : operand_count (l ∷ ls) ≡ length (operands_of l.most) + operand_count ls = length-append (operands_of l.most) _ in
        omega (arith, operands ls)

takes-few : {ls : List Limit} {a b c x y z : ℕ} → Takes ls a b c → a ≤ x → b ≤ y → c ≤ z → Takes ls x y z
takes-few w p q r = record { limits_are = omega (arith, w.limits_are); written_are = omega (arith, w.written_are); operands_are = omega (arith, w.operands_are) }

-- one limit
takes-at-most : (s m : ℕ) → Takes (at_most s m ∷ []) 1 0 1
unfolding at_most
takes-at-most s m = record { limits_are = omega arith; written_are = omega arith; operands_are = omega arith }

takes-times : (t k s : ℕ) → Takes (record { target = t; most = times k s } ∷ []) 1 0 1
takes-times t k s = record { limits_are = omega arith; written_are = omega arith; operands_are = omega arith }

takes-quotient : (t s k : ℕ) → Takes (record { target = t; most = quotient s k } ∷ []) 1 0 1
takes-quotient t s k = record { limits_are = omega arith; written_are = omega arith; operands_are = omega arith }

takes-product : (t : ℕ) (ss : List ℕ) → Takes (record { target = t; most = product ss } ∷ []) 1 (length ss) (length ss)
takes-product t ss = record {
  limits_are = omega arith;
  written_are = go (nat_eq (length ss) 1);
  operands_are = omega (arith, length-append ss []);
}
  where
    go : (b : Bool) → length ((if b then [] else ss) ++ []) ≤ length ss
    go true = omega arith
    go false = omega (arith, length-append ss [])

takes-sum : (t : ℕ) (ss : List ℕ) → Takes (record { target = t; most = sum ss } ∷ []) 1 (length ss) (length ss)
takes-sum t ss = record { limits_are = omega arith; written_are = omega (arith, length-append ss []); operands_are = omega (arith, length-append ss []) }

takes-only_if : (b : Bool) {l : Limit} {x y z : ℕ} → Takes (l ∷ []) x y z → Takes (only_if b l) x y z
unfolding only_if
takes-only_if true w = w
takes-only_if false w = takes-few takes_none (omega arith) (omega arith) (omega arith)

select_le : (test : Role → Bool) (i : ℕ) (rs : List Role) → length (select test i rs) ≤ length rs
unfolding select
select_le test i [] = omega arith
select_le test i (r ∷ rs) = go (test r) (select_le test (suc i) rs)
  where
    go : (b : Bool) → length (select test (suc i) rs) ≤ length rs
        → length {A = ℕ} (elim b as (λ _. List ℕ) [ true ↦ i ∷ select test (suc i) rs | false ↦ select test (suc i) rs ]) ≤ suc (length rs)
    go true h = omega arith
    go false h = omega arith

in_group_le : (x : Placed) (number : ℕ) → length (group_roles x number) ≤ length x.predicate.roles
unfolding group_roles roles_in_group
in_group_le x number = select_le _ x.roles x.predicate.roles

takes-items : {A : Type 0} (a b c : ℕ) (g : ℕ → A → List Limit) → ((i : ℕ) (x : A) → Takes (g i x) a b c) → (i : ℕ) (xs : List A)
    → Takes (flatten (map_from g i xs)) (a * length xs) (b * length xs) (c * length xs)
unfolding flatten map_from
takes-items a b c g h i [] = takes-few takes_none (omega arith) (omega arith) (omega arith)
takes-items a b c g h i (x ∷ xs) =
    takes-few (takes_append (h i x) (takes-items a b c g h (suc i) xs))
    (omega (arith, mul-suc a (length xs))) (omega (arith, mul-suc b (length xs))) (omega (arith, mul-suc c (length xs)))

takes-role : (x : Placed) (p : ℕ) (r : Role) → Takes (limits_of_role x p r) 4 0 4
unfolding limits_of_role
takes-role x p r =
    takes_append (takes-at-most p (index r.type))
    (takes_append (takes-at-most p x.own)
    (takes_append (takes-only_if (is_grouped r) (takes-at-most p (group_set x r.group))) (takes-only_if (is_mandatory r) (takes-at-most (index r.type) p))))

module _ (x : Placed) (few_roles : length x.predicate.roles ≤ 6) (few_groups : length x.predicate.groups ≤ 6) where
  takes-group : (number : ℕ) (f : Frequency) → Takes (limits_of_group x number f) 3 6 8
  unfolding limits_of_group
  takes-group number f =
      let few = in_group_le x number in
      takes-few
      (takes_append (takes-times x.own f.fmax (group_set x number))
      (takes_append (takes-quotient (group_set x number) x.own f.fmin) (takes-product (group_set x number) (group_roles x number))))
      (omega arith) (omega arith) (omega arith)

  takes-rows : Takes (limit_of_rows x ∷ []) 1 12 12
  unfolding limit_of_rows parts
  takes-rows =
      let gs : List Part = map (group_part x) (up_from 1 (length x.predicate.groups)) in
      let rs : List Part = map role_part (group_roles x 0) in
      let few : length (map (λ (b : Part). b.own) (gs ++ rs)) ≤ 12 =
      omega (
        arith,
        length-map (gs ++ rs) (λ (b : Part). b.own),
        length-append gs rs,
        length-map (up_from 1 (length x.predicate.groups)) (group_part x),
        length-up_from 1 (length x.predicate.groups),
        length-map (group_roles x 0) role_part,
        in_group_le x 0,
      ) in
      takes-few (takes-product x.own (map (λ (b : Part). b.own) (gs ++ rs))) (omega arith) few few

  takes-pred : Takes (limits_of_pred x) (4 * length x.predicate.roles + 3 * length x.predicate.groups + 1) (6 * length x.predicate.groups + 12)
      (4 * length x.predicate.roles + 8 * length x.predicate.groups + 12)
  unfolding limits_of_pred
  takes-pred =
      takes-few
      (takes_append (takes_append (takes-items 4 0 4 (limits_of_role x) (takes-role x) x.roles x.predicate.roles)
      (takes-items 3 6 8 (limits_of_group x) takes-group 1 x.predicate.groups)) takes-rows)
      (omega arith) (omega arith) (omega arith)

abbrev roles_in : List Predicate → ℕ
roles_in ps = length (flat_map (λ (a : Predicate). a.roles) ps)

abbrev groups_in : List Predicate → ℕ
groups_in ps = length (flat_map (λ (a : Predicate). a.groups) ps)

takes-preds : (types r p q : ℕ) (ps : List Predicate) → Each (PredForm types) ps
    → Takes (flat_map limits_of_pred (placed_from r p q ps)) (4 * roles_in ps + 3 * groups_in ps + length ps) (6 * groups_in ps + 12 * length ps)
    (4 * roles_in ps + 8 * groups_in ps + 12 * length ps)
unfolding flat_map placed_from
takes-preds types r p q [] h = takes-few takes_none (omega arith) (omega arith) (omega arith)
takes-preds types r p q (a ∷ ps) h =
    let x : Placed = record { predicate = a; own = r; roles = p; groups = q } in
    let f = h a (here refl) in
    let rs = length-append a.roles (flat_map (λ (b : Predicate). b.roles) ps) in
    let gs = length-append a.groups (flat_map (λ (b : Predicate). b.groups) ps) in
    takes-few
    (takes_append (takes-pred x f.arity.1 f.few) (takes-preds types (suc r) (p + length a.roles) (q + length a.groups) ps (λ b m. h b (there m))))
    (omega arith) (omega arith) (omega arith)

module _ (d : Diagram) (w : WellFormed d) where
  takes_type : (a : ℕ) (t : ObjectType)
      → Takes (limits_of_type d a t) 2 (length (roles_of_type d (suc a))) (1 + length (roles_of_type d (suc a)))
  unfolding limits_of_type
  takes_type a t =
      takes-few
      (takes_append (takes-only_if (not (is_root t)) (takes-at-most a (index t.super)))
      (takes-only_if (must_play d (suc a) t) (takes-sum a (roles_of_type d (suc a)))))
      (omega arith) (omega arith) (omega arith)

  -- a role is played by one type
  takes-types : (a : ℕ) (ts : List ObjectType)
      → Takes (flatten (map_from (limits_of_type d) a ts)) (2 * length ts) (played_from (suc a) (all_roles d)) (length ts + played_from (suc a) (all_roles d))
  unfolding flatten map_from roles_of_type
  takes-types a [] = takes-few takes_none (omega arith) (omega arith) (omega arith)
  takes-types a (t ∷ ts) =
      let split = played-split (suc a) (first_role d) (all_roles d) in
      takes-few (takes_append (takes_type a t) (takes-types (suc a) ts)) (omega arith) (omega arith) (omega arith)

  limits-take : Takes (limits d) (4 * length (all_roles d) + 3 * length (all_groups d) + length d.preds + 2 * length d.types)
      (6 * length (all_groups d) + 12 * length d.preds + length (all_roles d))
      (5 * length (all_roles d) + 8 * length (all_groups d) + 12 * length d.preds + length d.types)
  unfolding limits placed all_roles all_groups
  limits-take =
      let few = played-few 1 (all_roles d) in
      takes-few
      (takes_append (takes-preds (length d.types) (first_pred d) (first_role d) (first_group d) d.preds w.preds) (takes-types 0 d.types))
      (omega arith) (omega arith) (omega arith)

  -- of every diagram
  pub limits-fit : length (limits d) ≤ most_limits
  limits-fit = omega (arith, limits-take.limits_are, w.type_count.1, w.pred_count.1, w.role_count, w.group_count)

  pub operands-fit : written_count (limits d) ≤ most_operands
  operands-fit = omega (arith, limits-take.written_are, w.type_count.1, w.pred_count.1, w.role_count, w.group_count)

  pub uses-fit : operand_count (limits d) ≤ most_uses
  uses-fit = omega (arith, limits-take.operands_are, w.type_count.1, w.pred_count.1, w.role_count, w.group_count)

  -- of one with a table of at most 64 numbers
  module _ (short : length (wide_table d) ≤ 64) where
    pub few-limits-fit : length (limits d) ≤ 96
    few-limits-fit = omega (arith, limits-take.limits_are, wide-length d)

    pub few-operands-fit : written_count (limits d) ≤ 192
    few-operands-fit = omega (arith, limits-take.written_are, wide-length d)

    pub few-uses-fit : operand_count (limits d) ≤ 256
    few-uses-fit = omega (arith, limits-take.operands_are, wide-length d)
