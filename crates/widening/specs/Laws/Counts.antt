-- How many types, predicates, roles, groups and sets the diagram of an accepted table has.
use Rattle.std.specs.Prelude.{ℕ, ◌+◌, ◌≡◌, List, length, take, Result, Ok}
use Rattle.std.proofs.Common.{arith}
use Rattle.std.proofs.Math.Path.{sym, ap}
use Rattle.orm.specs.Diagram.{Diagram, Totals, totals, all_roles, all_groups}
use Rattle.orm.specs.Text.{table_line}
use Rattle.orm.specs.Sets.{first_pred, first_role, first_group, set_count}
use Rattle.orm.specs.Outcome.{buffer_after}
use Rattle.orm.specs.Calls.{diagram_in}
use Rattle.table.specs.Positions.{diagram_of}
use Rattle.widening.specs.Answer.{acceptance_of, described, widened, Accepted, Few}
use Rattle.widening.specs.Laws.Accepts.{accepted_as}
use Rattle.refusals.specs.declared.Refusal.{Refusal}
use Rattle.widening.specs.declared.Widened.{Widened}

module _ (t w : List ℕ) {w' : List ℕ} {r : Result Widened Refusal} {v : Widened} (p : r ≡ Ok v)
    (e : acceptance_of r ≡ described (diagram_in table_line t)) (ew : w' ≡ buffer_after (widened t) w) where
  known : Accepted t (take v.length w') v.types v.preds v.roles v.groups
  known = accepted_as t w p e ew

  abbrev d : Diagram
  d = diagram_of (take v.length w')

  types_as : length d.types ≡ v.types
  unfolding totals
  types_as = ap (λ (x : Totals). x.types) known.totals_are

  preds_as : length d.preds ≡ v.preds
  unfolding totals
  preds_as = ap (λ (x : Totals). x.preds) known.totals_are

  pub accepted-roles : v.roles ≡ length (all_roles d)
  unfolding totals
  accepted-roles = sym (ap (λ (x : Totals). x.roles) known.totals_are)

  pub accepted-groups : v.groups ≡ length (all_groups d)
  unfolding totals
  accepted-groups = sym (ap (λ (x : Totals). x.groups) known.totals_are)

  pub accepted-few : Few v.types v.preds v.roles v.groups
  accepted-few =
      let f = known.valid.formed in
      record {
        few_types = omega (arith, types_as, f.type_count.1);
        few_preds = omega (arith, preds_as, f.pred_count.1);
        few_roles = omega (arith, accepted-roles, f.role_count);
        few_groups = omega (arith, accepted-groups, f.group_count);
      }

  pub accepted-sets : {sets : ℕ} → sets ≡ v.types + v.preds + v.roles + v.groups → sets ≡ set_count d
  unfolding set_count first_group first_role first_pred
  accepted-sets q = omega (arith, types_as, preds_as, accepted-roles, accepted-groups)
