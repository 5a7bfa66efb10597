-- The roles of a type, or in a group: what a turn of a loop over them writes or counts, and what it leaves.
use Prim.Native.Nat.{ℕ, zero, suc, ◌+◌, ◌-◌, ◌≤◌, ◌<◌}
use Rattle.std.proofs.Math.Numerals.{add-one}
use native.Mathlib.Omega.{arith}
use Rattle.std.specs.Prelude.{◌≡◌, Bool, get_or, drop}
use Rattle.std.proofs.Math.Path.{refl, ap}
use Rattle.std.proofs.Common.{◌∙◌}
use Rattle.std.proofs.Math.Bool.{true, false}
use mathlib.Core.List.{List, [], ◌∷◌, ◌++◌}
use Rattle.std.proofs.Math.Dec.{eqb}
use Rattle.std.proofs.Math.ListN.{length, length-append}
use Rattle.orm.specs.Diagram.{Role}
use Rattle.counting.specs.Lists.{when, up_from}
use Rattle.orm.specs.Sets.{select, roles_in_group, group_roles}
use Rattle.table.specs.Positions.{roles_in, roles_start}
use Rattle.table.specs.Laws.Walks.{roles-here}
use Rattle.table.specs.Cursors.{placed_at}
use Rattle.table.specs.declared.Cursor.{Cursor}
use Rattle.selection.specs.Selected.{types_of, positions}

-- ---- consecutive numbers

pub up_more : (x n : ℕ) → 0 < n → up_from x n ≡ (x ∷ []) ++ up_from (x + 1) (n - 1)
unfolding up_from
up_more x zero h = absurd (omega arith)
up_more x (suc n) h = let e : n ≡ suc n - 1 = omega arith in rw (add-one, ← e)

pub up_none : (x n : ℕ) → n ≤ 0 → up_from x n ≡ []
unfolding up_from
up_none x zero h = refl
up_none x (suc n) h = absurd (omega arith)

-- ---- the roles of a type

module _ (number : ℕ) where
  pub positions-select : (i : ℕ) (rs : List Role) → positions number i (types_of rs) ≡ select (λ (r : Role). eqb r.type number) i rs
  unfolding positions select
  positions-select i [] = refl
  positions-select i (r ∷ rs) = go (eqb r.type number) (positions-select (suc i) rs)
    where
      go : (b : Bool) → positions number (suc i) (types_of rs) ≡ select (λ (a : Role). eqb a.type number) (suc i) rs
          → when b i ++ positions number (suc i) (types_of rs)
          ≡ elim b as (λ _. List ℕ) [
            | true ↦ i ∷ select (λ (a : Role). eqb a.type number) (suc i) rs
            | false ↦ select (λ (a : Role). eqb a.type number) (suc i) rs
          ]
      go true e = ap {B = List ℕ} (λ l. i ∷ l) e
      go false e = e

  pub positions-length : (i j : ℕ) (xs : List ℕ) → length (positions number i xs) ≡ length (positions number j xs)
  unfolding positions
  positions-length i j [] = refl
  positions-length i j (x ∷ xs) = go (eqb x number) (positions-length (suc i) (suc j) xs)
    where
      go : (b : Bool) → length (positions number (suc i) xs) ≡ length (positions number (suc j) xs)
          → length (when b i ++ positions number (suc i) xs) ≡ length (when b j ++ positions number (suc j) xs)
      go true e = ap suc e
      go false e = e

-- ---- the roles of a group

module _ (test : Role → Bool) where
  select-cons : (i : ℕ) (r : Role) (rs : List Role) → select test i (r ∷ rs) ≡ when (test r) i ++ select test (suc i) rs
  unfolding select
  select-cons i r rs = go (test r)
    where
      go : (b : Bool) → elim b [ true ↦ i ∷ select test (suc i) rs | false ↦ select test (suc i) rs ] ≡ when b i ++ select test (suc i) rs
      go true = refl
      go false = refl

  -- the count does not depend on where the numbers start
  select-length : (i j : ℕ) (rs : List Role) → length (select test i rs) ≡ length (select test j rs)
  select-length i j [] = unfold select in refl
  select-length i j (r ∷ rs) =
      rw (select-cons i r rs, select-cons j r rs) (simp length-append (go (test r) (select-length (suc i) (suc j) rs)))
    where
      go : (b : Bool) {x y : ℕ} → x ≡ y → length (when b i) + x ≡ length (when b j) + y
      go true e = omega arith
      go false e = omega arith

-- of the predicate at the cursor
module _ (t : List ℕ) (x : Cursor) (number : ℕ) {n roles : ℕ} (en : n ≡ get_or (drop x.at t) 2 0)
    (er : roles ≡ x.at + roles_start) where
  in_group : (set : ℕ) → roles_in_group number set (roles_in n (drop roles t)) ≡ roles_in_group number set (placed_at t x).predicate.roles
  unfolding placed_at
  in_group set = ap (roles_in_group number set) (roles-here t x.at en er)

  pub in_group-is : roles_in_group number x.roles (roles_in n (drop roles t)) ≡ group_roles (placed_at t x) number
  unfolding group_roles placed_at
  in_group-is = in_group x.roles

  pub in_group-count : {r : ℕ} → r ≡ length (roles_in_group number 0 (roles_in n (drop roles t)))
      → r ≡ length (group_roles (placed_at t x) number)
  unfolding group_roles roles_in_group placed_at
  in_group-count e =
      e ∙ ap length (in_group 0) ∙ select-length (λ (r : Role). eqb r.group number) 0 x.roles (placed_at t x).predicate.roles
