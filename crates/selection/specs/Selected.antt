-- Words for what single functions write and count.
use Rattle.std.specs.Prelude.{ℕ, suc, ◌+◌, ◌≤◌, ◌≡◌, List, [], ◌∷◌, ◌++◌, map, eqb, length, drop}
use Rattle.counting.specs.Lists.{when}
use Rattle.orm.specs.Diagram.{Role, all_roles}
use Rattle.table.specs.Positions.{preds_length, first_pred_at, diagram_of}

abbrev pub types_of : List Role → List ℕ
types_of rs = map (λ (r : Role). r.type) rs

-- The positions, counted from `i`, at which the number stands
unfoldable pub positions : ℕ → ℕ → List ℕ → List ℕ
positions number i [] = []
positions number i (x ∷ xs) = when (eqb x number) i ++ positions number (suc i) xs

-- The types of all roles of a table's diagram, few
pub record Types (t types : List ℕ) : Type 0 where
  pub are : types ≡ types_of (all_roles (diagram_of t))
  pub few : length types ≤ 96

-- `k` predicates were passed, from the first on, and the next one starts at q
pub record Passed (t : List ℕ) (q k : ℕ) : Type 0 where
  pub at : q ≡ first_pred_at t + preds_length k (drop (first_pred_at t) t)
