-- The numbers of a diagram fit: what is known at a place, and at the place that a line leads to.
use Rattle.std.specs.Prelude.{ℕ, zero, suc, ◌+◌, ◌*◌, ◌≤◌, ◌≡◌, Bool, true, List, [], ◌∷◌, length, get_or}
use Rattle.std.proofs.Common.{arith, leb-true}
use Rattle.std.proofs.Math.Path.{refl}
use Rattle.std.proofs.Math.Bool.{false}
use Rattle.std.proofs.Math.Option.{none}
use Rattle.orm.specs.Diagram.{types_line, preds_line, pred_line, limits_roles, role_line_of}
use Rattle.orm.specs.Form.{◌to◌, ranges, fields, role_fields, limited_role_fields, most_roles, most_groups, head_of, pred_tests}
use Rattle.orm.specs.Meaning.{Between}
use Rattle.reading.specs.Lines.{InRanges, tested_decides}
use Rattle.reading.specs.Spelling.{role_line_by}
use Rattle.reading.specs.WideTable.{role_width, most_numbers}
use Rattle.grammar.specs.declared.Counts.{Counts}
use Rattle.grammar.specs.declared.Block.{Block}
use Rattle.grammar.specs.declared.Awaited.{Awaited}
use Rattle.grammar.specs.declared.Awaited.TheVariants.{AtDiagram, AtTypes, AtType, AtPreds, AtPred, AtRole, AtFreq, AtEnd, Over}
use Rattle.grammar.specs.Awaited.{role_fields_of, types_from, preds_left, groups_from, roles_from, block_of, counts_of, kind_at, is_going, fields_at}
use Rattle.grammar.specs.Step.{fault_in, tests_at, next_at}
use Rattle.grammar.specs.Room.{Within, Own, RoomAt, Room}

-- of a role line
pub role-fields : (kind : ℕ) → fields (role_line_of kind) ≡ role_fields_of kind
unfolding fields ranges role_line_of
role-fields kind = go (limits_roles kind)
  where
    go : (b : Bool) → length (ranges (role_line_by b)) ≡ elim b [ true ↦ limited_role_fields | false ↦ role_fields ]
    go true = unfold ranges in refl
    go false = unfold ranges in refl

pub role-few : (kind : ℕ) → Between 3 (role_fields_of kind) 5
role-few kind = go (limits_roles kind)
  where
    go : (b : Bool) → Between 3 (elim b [ true ↦ limited_role_fields | false ↦ role_fields ]) 5
    go true = (omega arith, omega arith)
    go false = (omega arith, omega arith)

pub fields-at : (p : Awaited) → fields (kind_at p) ≡ fields_at p
unfolding fields ranges
fields-at AtDiagram = refl
fields-at (AtTypes k) = refl
fields-at (AtType k t o l) = refl
fields-at (AtPreds k t) = refl
fields-at (AtPred c) = refl
fields-at (AtRole b l) = role-fields b.counts.kind
fields-at (AtFreq b o l) = refl
fields-at (AtEnd c) = refl
fields-at (Over c) = refl

-- There is room for a line
pub line-room : (p : Awaited) (end : ℕ) → is_going p ≡ true → RoomAt p end → end + fields_at p ≤ most_numbers
line-room AtDiagram end g k = omega arith
line-room (AtTypes kind) end g k = omega arith
line-room (AtType kind t o l) end g k = omega arith
line-room (AtPreds kind t) end g k = omega arith
line-room (AtPred c) end g k = omega (arith, k.numbers, k.roles, k.groups)
line-room (AtRole b l) end g k = omega (arith, k.0.numbers, k.0.roles, k.0.groups, (role-few b.counts.kind).1)
line-room (AtFreq b o l) end g k = omega (arith, k.0.numbers, k.0.roles, k.0.groups)
line-room (AtEnd c) end g k = omega arith
line-room (Over c) end g k = let z : ◌≡◌ {A = ℕ} 0 1 = cc in absurd (omega arith)

pub some-fields : (p : Awaited) → 1 ≤ fields_at p
some-fields AtDiagram = omega arith
some-fields (AtTypes kind) = omega arith
some-fields (AtType kind t o l) = omega arith
some-fields (AtPreds kind t) = omega arith
some-fields (AtPred c) = omega arith
some-fields (AtRole b l) = omega (arith, (role-few b.counts.kind).0)
some-fields (AtFreq b o l) = omega arith
some-fields (AtEnd c) = omega arith
some-fields (Over c) = omega arith

pub room_most : (p : Awaited) (end : ℕ) → Room p end → end ≤ most_numbers
room_most p end w = go p w.known
  where
    go : (p : Awaited) → RoomAt p end → end ≤ most_numbers
    go AtDiagram k = omega arith
    go (AtTypes kind) k = omega arith
    go (AtType kind t o l) k = omega arith
    go (AtPreds kind t) k = omega arith
    go (AtPred c) k = omega (arith, k.numbers, k.roles, k.groups)
    go (AtRole b l) k = omega (arith, k.0.numbers, k.0.roles, k.0.groups)
    go (AtFreq b o l) k = omega (arith, k.0.numbers, k.0.roles, k.0.groups)
    go (AtEnd c) k = omega arith
    go (Over c) k = omega arith

-- ---- what the ranges of a line bound

one-within : (low high : ℕ) (v : List ℕ) → length v ≡ 1 → InRanges (low to high ∷ []) v → Between low (get_or v 0 0) high
one-within low high [] l h = absurd (omega arith)
one-within low high (x ∷ v) l h = h.0

pred-within : (v : List ℕ) → length v ≡ 4 → InRanges (ranges pred_line) v → (get_or v 2 0 ≤ 6) × (get_or v 3 0 ≤ 6)
unfolding ranges
pred-within [] l h = absurd (omega arith)
pred-within (a ∷ []) l h = absurd (omega arith)
pred-within (a ∷ b ∷ []) l h = absurd (omega arith)
pred-within (a ∷ b ∷ c ∷ []) l h = absurd (omega arith)
pred-within (a ∷ b ∷ c ∷ d ∷ v) l h = (h.1.1.0.1, h.1.1.1.0.1)

-- ---- where a line leads

types-known : (kind t own left done : ℕ) → done + 6 * left ≤ 194 → own + left ≤ 33 → RoomAt (types_from kind t own left) done
types-known kind t own zero done h k = omega arith
types-known kind t own (suc left) done h k = (omega arith, omega arith)

preds-known : (c : Counts) (left done : ℕ) → c.left ≡ left → Within c done 0 → RoomAt (preds_left c left) done
preds-known c zero done e w = omega (arith, w.numbers, w.roles, w.groups)
preds-known c (suc left) done e w = record { numbers = omega (arith, w.numbers); roles = w.roles; groups = w.groups }

groups-known : (b : Block) (own left done : ℕ) → Within b.counts done (2 * left) → Own b → own + left ≤ 7
    → RoomAt (groups_from b own left) done
groups-known b own zero done w o h =
    preds-known b.counts b.counts.left done refl
    (record { numbers = omega (arith, w.numbers); roles = w.roles; groups = w.groups })
groups-known b own (suc left) done w o h = (w, o, omega arith)

roles-known : (b : Block) (left done : ℕ) → Within b.counts done (role_width * left + 2 * b.groups) → Own b → RoomAt (roles_from b left) done
roles-known b zero done w o =
    groups-known b 1 b.groups done (record { numbers = omega (arith, w.numbers); roles = w.roles; groups = w.groups }) o
    (omega (arith, o.groups))
roles-known b (suc left) done w o = (w, o)

pub next_known : (p : Awaited) (s v : List ℕ) → is_going p ≡ true → RoomAt p (length s) → length v ≡ fields_at p
    → fault_in (kind_at p) v (tests_at p s v) ≡ none → RoomAt (next_at p s v) (length s + length v)
unfolding ranges pred_tests most_roles most_groups
next_known AtDiagram s v g k l f = omega arith
next_known (AtTypes kind) s v g k l f =
    let h = one-within 1 32 v l ((tested_decides types_line v []).0 f).0 in
    types-known kind (get_or v 0 0) 1 (get_or v 0 0) (length s + length v) (omega arith) (omega arith)
next_known (AtType kind t own left) s v g k l f = types-known kind t (own + 1) left (length s + length v) (omega arith) (omega arith)
next_known (AtPreds kind t) s v g k l f =
    let h = one-within 1 32 v l ((tested_decides preds_line v []).0 f).0 in
    preds-known (counts_of kind t (get_or v 0 0)) (get_or v 0 0) (length s + length v) refl
    (record { numbers = omega arith; roles = omega arith; groups = omega arith })
next_known (AtPred c) s v g k l f =
    let passed = (tested_decides pred_line v (pred_tests c.roles c.groups (head_of v))).0 f in
    let few : (get_or v 2 0 ≤ 6) × (get_or v 3 0 ≤ 6) = pred-within v l passed.0 in
    let roles : c.roles + get_or v 2 0 ≤ 96 = leb-true (c.roles + get_or v 2 0) 96 passed.1.0 in
    let groups : c.groups + get_or v 3 0 ≤ 48 = leb-true (c.groups + get_or v 3 0) 48 passed.1.1.0 in
    roles-known (block_of c (length s + length v) v) (get_or v 2 0) (length s + length v)
    (record { numbers = omega (arith, k.numbers); roles = roles; groups = groups })
    (record { first = omega (arith, k.numbers, k.roles, k.groups); roles = few.0; groups = few.1 })
next_known (AtRole b left) s v g k l f =
    roles-known b left (length s + length v)
    (record { numbers = omega (arith, k.0.numbers, (role-few b.counts.kind).1); roles = k.0.roles; groups = k.0.groups }) k.1
next_known (AtFreq b own left) s v g k l f =
    groups-known b (own + 1) left (length s + length v)
    (record { numbers = omega (arith, k.0.numbers); roles = k.0.roles; groups = k.0.groups }) k.1 (omega (arith, k.2))
next_known (AtEnd c) s v g k l f = omega arith
next_known (Over c) s v g k l f = let z : ◌≡◌ {A = ℕ} 0 1 = cc in absurd (omega arith)
