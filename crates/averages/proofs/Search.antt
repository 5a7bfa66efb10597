-- The walk to the predicate whose group has a number: the groups of the predicates passed have lower ones.
use Prim.Native.Nat.{ℕ, ◌+◌, ◌-◌, ◌≤◌, ◌<◌}
use native.Mathlib.Omega.{arith}
use mathlib.Core.Path.{◌≡◌, sym, ap, ◌∙◌}
use mathlib.Core.Option.{Option, some}
use mathlib.Core.List.{List, ◌++◌, flat_map}
use lib.ListN.{length, drop}
use Rattle.orm.specs.Sets.{Placed, placed}
use Rattle.orm.specs.Average.{PlacedGroup, groups_of_placed, placed_groups, group_numbered}
use Rattle.orm.proofs.Laws.Average.{among-groups, past-groups, below_all}
use Rattle.table.specs.Positions.{pred_count, diagram_of}
use Rattle.table.specs.Cursors.{placed_at, next_cursor, first_cursor, placed_left, Reach}
use Rattle.table.specs.Laws.Cursors.{placed-start, placed-none, placed-more, reach-more}
use Rattle.table.specs.Laws.Walks.{group-count}
use Rattle.table.specs.declared.Cursor.{Cursor}
use Rattle.averages.specs.Owner.{owner_of, predicate_of}
use Rattle.std.specs.Prelude.{Some, None}

-- A group with the number is one of the `n` predicates' from the cursor on
pub record Searching (t : List ℕ) (number : ℕ) (x : Cursor) (n : ℕ) : Type 0 where
  pub ahead : group_numbered number (placed_groups (diagram_of t)) ≡ group_numbered number (flat_map groups_of_placed (placed_left n t x))
  pub past : x.groups < number

abbrev wanted : List ℕ → ℕ → Option ℕ
wanted t number = predicate_of (group_numbered number (placed_groups (diagram_of t)))

module _ (t : List ℕ) (number : ℕ) {x : Cursor} where
  pub search_below : x ≡ first_cursor t → number ≤ x.groups → owner_of None ≡ wanted t number
  unfolding placed_groups placed
  search_below e h = sym (ap predicate_of (below_all number _ _ _ (diagram_of t).preds (rw e at h)))

  pub search_start : {n : ℕ} → x ≡ first_cursor t → n ≡ pred_count t → x.groups < number → Searching t number x n
  unfolding placed_groups
  search_start {n} e en h =
      record { ahead = ap (λ (ps : List Placed). group_numbered number (flat_map groups_of_placed ps)) (sym (placed-start t e en)); past = h }

  module _ {n : ℕ} (s : Searching t number x n) where
    pub search_none : n ≤ 0 → owner_of None ≡ wanted t number
    unfolding flat_map group_numbered
    search_none h = sym (ap predicate_of (s.ahead ∙ ap (λ (ps : List Placed). group_numbered number (flat_map groups_of_placed ps)) (placed-none t x n h)))

    module _ {y : Cursor} (h : 0 < n) (e : y ≡ next_cursor t x) where
      abbrev rest : List PlacedGroup
      rest = flat_map groups_of_placed (placed_left (n - 1) t y)

      here : group_numbered number (placed_groups (diagram_of t)) ≡ group_numbered number (groups_of_placed (placed_at t x) ++ rest)
      unfolding flat_map
      here = s.ahead ∙ ap (λ (ps : List Placed). group_numbered number (flat_map groups_of_placed ps)) (placed-more t x n h e)

      last : (placed_at t x).groups + length (placed_at t x).predicate.groups ≡ y.groups
      unfolding placed_at
      last = rw e (ap (x.groups +◌) (group-count (drop x.at t)))

      pub search_found : number ≤ y.groups → owner_of (Some x.own) ≡ wanted t number
      unfolding placed_at
      search_found l =
          let (g, f, p) = among-groups number (placed_at t x) rest s.past (omega (arith, last)) in
          ap some (sym p) ∙ ap predicate_of (sym (here ∙ f))

      pub search_more : y.groups < number → Searching t number y (n - 1)
      search_more l = record { ahead = here ∙ past-groups number (placed_at t x) rest (λ b. omega (arith, last, b.1)); past = l }

  -- with the predicates that are passed counted
  module _ {i : ℕ} (s : Searching t number x (pred_count t - i)) where
    pub search_over : pred_count t ≤ i → owner_of None ≡ wanted t number
    search_over h = search_none s (omega arith)

    module _ {y : Cursor} (h : i < pred_count t) (e : y ≡ next_cursor t x) where
      pub search_here : number ≤ y.groups → owner_of (Some x.own) ≡ wanted t number
      search_here l = search_found s (omega arith) e l

      pub search_on : y.groups < number → Searching t number y (pred_count t - (i + 1))
      search_on l =
          let one : pred_count t - i - 1 ≡ pred_count t - (i + 1) = omega arith in
          rw one at (search_more s (omega arith) e l)

      pub reach_on : Reach t x (pred_count t - i) → Reach t y (pred_count t - (i + 1))
      reach_on r =
          let one : pred_count t - i - 1 ≡ pred_count t - (i + 1) = omega arith in
          rw one at (reach-more t x (pred_count t - i) r (omega arith) e)
