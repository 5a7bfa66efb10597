-- The table of a file with role lines of one width, by positions, for every list of numbers: what is not there reads as 0. In `diagram=1` RMIN and
-- RMAX come behind each role line, in `diagram=2` the table stays.
-- Laws/Tables.antt shows that of the table of a diagram this is the one with role lines of one width.
use Rattle.std.specs.Prelude.{ℕ, zero, suc, ◌+◌, ◌*◌, ◌-◌, ◌≤◌, ◌<◌, ◌≡◌, true, false, length, get_or, take, drop}
use mathlib.Core.List.{List, [], ◌∷◌, ◌++◌, flat_map}
use Rattle.counting.specs.Lists.{each}
use Rattle.orm.specs.Diagram.{limits_roles}
use Rattle.orm.specs.Form.{role_fields}

-- The role line that starts here
abbrev pub role_widened : List ℕ → List ℕ
role_widened s = get_or s 0 0 ∷ get_or s 1 0 ∷ get_or s 2 0 ∷ 1 ∷ 4096 ∷ []

unfoldable pub roles_widened : ℕ → List ℕ → List ℕ
roles_widened n s = flat_map (λ (l : List ℕ). l) (each role_widened role_fields n s)

-- Of the predicate that starts here: behind how many numbers of the file its groups start, and the next predicate
abbrev pub groups_behind : List ℕ → ℕ
groups_behind s = 4 + role_fields * get_or s 2 0

abbrev pub pred_fields : List ℕ → ℕ
pred_fields s = groups_behind s + 2 * get_or s 3 0

unfoldable pub pred_widened : List ℕ → List ℕ
pred_widened s = take 4 s ++ roles_widened (get_or s 2 0) (drop 4 s) ++ take (2 * get_or s 3 0) (drop (groups_behind s) s)

-- `n` predicates: how many numbers of the file they take, and what they become
unfoldable pub preds_fields : ℕ → List ℕ → ℕ
preds_fields zero s = 0
preds_fields (suc n) s = pred_fields s + preds_fields n (drop (pred_fields s) s)

unfoldable pub preds_widened : ℕ → List ℕ → List ℕ
preds_widened zero s = []
preds_widened (suc n) s = pred_widened s ++ preds_widened n (drop (pred_fields s) s)

-- A table of `diagram=1` with so many types and predicates; its last number is that of the `end` line
abbrev pub plain_fields : ℕ → ℕ → List ℕ → ℕ
plain_fields types preds t = 3 + 6 * types + preds_fields preds (drop (3 + 6 * types) t) + 1

unfoldable pub plain_widened : ℕ → ℕ → List ℕ → List ℕ
plain_widened types preds t =
    take (3 + 6 * types) t ++ preds_widened preds (drop (3 + 6 * types) t) ++ take 1 (drop (length t - 1) t)

-- Of either kind
unfoldable pub table_widened : ℕ → ℕ → List ℕ → List ℕ
table_widened types preds t = elim (limits_roles (get_or t 0 0)) [ true ↦ t | false ↦ plain_widened types preds t ]

-- The numbers of a table with so many types and predicates stand in `t`
pub record Inside (types preds : ℕ) (t : List ℕ) : Type 0 where
  pub some : 0 < length t
  pub plain : (get_or t 0 0 ≡ 2 → ⊥) → plain_fields types preds t ≤ length t
