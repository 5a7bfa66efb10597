-- The sets of the population have the sizes that it was made from.
use Rattle.std.specs.Prelude.{ℕ, ◌+◌, ◌≡◌, eqb}
use Rattle.std.proofs.Math.Path.{sym, ap}
use Rattle.std.proofs.Common.{◌∙◌, zero-add}
use mathlib.Core.List.{List, ◌++◌, map, map-map, map-append}
use Rattle.std.proofs.Math.ListN.{length}
use Rattle.counting.specs.Distinct.{distinct}
use Rattle.counting.specs.Lists.{same, up_from}
use Rattle.counting.proofs.Laws.Maps.{map_congr, map-flat_map, map-map_from, map_from_congr, map_from-map}
use Rattle.counting.proofs.Laws.Range.{map-get_or-below, up_from_append}
use Rattle.counting.specs.Terms.{◌∈◌}
use Rattle.orm.specs.Constraints.{Grouped, Played, all_grouped, all_played, grouped, played, sizes}
use Rattle.orm.specs.Diagram.{Diagram, all_groups, all_roles}
use Rattle.orm.specs.Populate.{population, rows, size, type_values}
use Rattle.orm.specs.Sets.{Placed, first_group, first_pred, first_role, placed}
use Rattle.complete.proofs.Covered.{all_played-placed}
use Rattle.complete.proofs.Place.{flatten-placed, group-sets, group_sets, own-sets, role-sets, role_sets}
use Rattle.complete.proofs.Rows.{played-rows, played_in, role-members, rows-length}
use Rattle.complete.proofs.Groups.{group-members, grouped-rows, grouped_in}
use Rattle.complete.specs.Solved.{Solved}
use Rattle.complete.proofs.Solved.{count, group-set}
use Rattle.complete.proofs.Types.{length-type_values}

map-below_append : (f : ℕ → ℕ) (n m : ℕ) → map f (up_from 0 n) ++ map f (up_from n m) ≡ map f (up_from 0 (n + m))
map-below_append f n m = sym (map-append f (up_from 0 n) (up_from n m)) ∙ ap (map f) (sym (rw zero-add at (up_from_append 0 n m)))

module _ {d : Diagram} {c : List ℕ} (s : Solved d c) where
  role_size : Played → ℕ
  role_size y = length (distinct eqb y.values)

  group_size : Grouped → ℕ
  group_size y = length (distinct same y.combinations)

  type-sizes : map length (population d c).types ≡ map (size c) (up_from 0 (length d.types))
  unfolding population
  type-sizes =
      map-map length (type_values d c) (up_from 0 (length d.types)) ∙ map_congr _ _ (up_from 0 (length d.types)) (λ a m. length-type_values d c a)

  pred-sizes : map length (population d c).preds ≡ map (size c) (up_from (length d.types) (length d.preds))
  unfolding population placed first_pred
  pred-sizes =
      map-map length (rows d c) (placed d) ∙ map_congr _ (λ (x : Placed). size c x.own) (placed d) (λ x m. rows-length s m)
      ∙ sym (map-map (size c) (λ (x : Placed). x.own) (placed d)) ∙ ap (map (size c)) (own-sets _ _ _ d.preds)

  role-sizes : map role_size (all_played d (population d c)) ≡ map (size c) (up_from (first_role d) (length (all_roles d)))
  unfolding role_size placed all_roles
  role-sizes =
      ap (map role_size) (all_played-placed d c) ∙ map-flat_map role_size _ (size c) role_sets (placed d) of-pred
      ∙ ap (map (size c)) (role-sets _ _ _ d.preds)
    where
      of-pred : (x : Placed) → x ∈ placed d → map role_size (played x.predicate (rows d c x)) ≡ map (size c) (role_sets x)
      of-pred x m =
          ap (map role_size) (played-rows d c x) ∙ map-map_from role_size (played_in d c x) 0 x.predicate.roles
          ∙ map_from_congr _ (λ p r. size c p) 0 x.roles x.predicate.roles (λ j r h. rw (zero-add j) (role-members s m h))
          ∙ map_from-map (size c) x.roles x.predicate.roles

  group-sizes : map group_size (all_grouped d (population d c)) ≡ map (size c) (up_from (first_group d) (length (all_groups d)))
  unfolding group_size all_grouped population placed all_groups
  group-sizes =
      ap (map group_size) (flatten-placed grouped (rows d c) _ _ _ d.preds) ∙ map-flat_map group_size _ (size c) group_sets (placed d) of-pred
      ∙ ap (map (size c)) (group-sets _ _ _ d.preds)
    where
      of-pred : (x : Placed) → x ∈ placed d → map group_size (grouped x.predicate (rows d c x)) ≡ map (size c) (group_sets x)
      of-pred x m =
          ap (map group_size) (grouped-rows d c x) ∙ map-map_from group_size (grouped_in d c x) 1 x.predicate.groups
          ∙ map_from_congr _ (λ q f. size c q) 1 x.groups x.predicate.groups (λ k f h. group-members s m h ∙ ap (size c) (group-set x k))
          ∙ map_from-map (size c) x.groups x.predicate.groups

  pub sizes_again : sizes d (population d c) ≡ c
  unfolding sizes role_size group_size first_role first_group first_pred
  sizes_again =
      rw (type-sizes, pred-sizes, role-sizes, group-sizes, map-below_append (size c), map-below_append (size c), map-below_append (size c), ← count s)
      (map-get_or-below c)
