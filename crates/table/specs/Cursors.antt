-- A walk over the predicates that knows their sets: the cursor's predicate with its sets, and the next cursor.
use Rattle.std.specs.Prelude.{ℕ, ◌+◌, ◌≤◌, ◌<◌, length, get_or, drop}
use mathlib.Core.List.{List, flat_map}
use Rattle.orm.specs.Diagram.{Predicate}
use Rattle.orm.specs.Sets.{Placed, placed_from, first_pred, first_role, first_group}
use Rattle.table.specs.Positions.{pred_of, pred_length, preds_in, preds_length, first_pred_at, diagram_of}
use Rattle.table.specs.declared.Cursor.{Cursor}

-- The predicate at the cursor
unfoldable pub placed_at : List ℕ → Cursor → Placed
placed_at t x = record { predicate = pred_of (drop x.at t); own = x.own; roles = x.roles; groups = x.groups }

abbrev pub next_cursor : List ℕ → Cursor → Cursor
next_cursor t x = record {
  at = x.at + pred_length (drop x.at t);
  own = x.own + 1;
  roles = x.roles + get_or (drop x.at t) 2 0;
  groups = x.groups + get_or (drop x.at t) 3 0;
}

abbrev pub first_cursor : List ℕ → Cursor
first_cursor t = record { at = first_pred_at t; own = first_pred (diagram_of t); roles = first_role (diagram_of t); groups = first_group (diagram_of t) }

-- The `n` predicates from a position on stand in the table
pub record Ahead (t : List ℕ) (at n : ℕ) : Type 0 where
  pub inside : at + preds_length n (drop at t) ≤ length t

-- How many roles, and how many groups, the `n` predicates have that start here
abbrev pub roles_ahead : ℕ → List ℕ → ℕ
roles_ahead n s = length (flat_map (λ (p : Predicate). p.roles) (preds_in n s))

abbrev pub groups_ahead : ℕ → List ℕ → ℕ
groups_ahead n s = length (flat_map (λ (p : Predicate). p.groups) (preds_in n s))

-- The `n` predicates from the cursor on stand in the table, and their sets among those of a diagram: at most 64 of types and predicates,
-- with the roles 160, with the groups 208
pub record Reach (t : List ℕ) (x : Cursor) (n : ℕ) : Type 0 where
  pub ahead : Ahead t x.at n
  pub own : x.own + n ≤ 64
  pub roles : x.roles + roles_ahead n (drop x.at t) ≤ 160
  pub groups : x.groups + groups_ahead n (drop x.at t) ≤ 208

-- The predicate at the cursor stands in the table, and its sets among those of a diagram
pub record Here (t : List ℕ) (x : Cursor) : Type 0 where
  pub inside : x.at + pred_length (drop x.at t) ≤ length t
  pub own : x.own < 64
  pub roles : x.roles + get_or (drop x.at t) 2 0 ≤ 160
  pub groups : x.groups + get_or (drop x.at t) 3 0 ≤ 208

-- The `n` predicates from the cursor on
abbrev pub placed_left : ℕ → List ℕ → Cursor → List Placed
placed_left n t x = placed_from x.own x.roles x.groups (preds_in n (drop x.at t))
