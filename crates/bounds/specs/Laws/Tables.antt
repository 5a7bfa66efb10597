-- A table that is accepted, for every call that starts with the check.
use Rattle.std.specs.Prelude.{ℕ, ◌≡◌, List, take, Result, Ok}
use Rattle.std.proofs.Common.{sym, ap}
use Rattle.orm.specs.Diagram.{Totals, totals}
use Rattle.orm.specs.Text.{table_line}
use Rattle.orm.specs.Outcome.{buffer_after}
use Rattle.orm.specs.Calls.{diagram_in}
use Rattle.widening.specs.Answer.{acceptance_of, described, widened, Accepted}
use Rattle.widening.specs.Laws.Accepts.{accepted_as}
use Rattle.refusals.specs.declared.Refusal.{Refusal}
use Rattle.widening.specs.declared.Widened.{Widened}
use Rattle.table.specs.Laws.Valid.{valid-walkable}
use Rattle.limits.specs.Prepared.{ValidTotals}

valid-totals : {t w : List ℕ} {types preds roles groups : ℕ} → Accepted t w types preds roles groups → ValidTotals w roles groups
unfolding totals
valid-totals a = record {
  valid = a.valid;
  walkable = valid-walkable a.valid;
  counted = record {
    roles_are = ap (λ (x : Totals). x.roles) (sym a.totals_are);
    groups_are = ap (λ (x : Totals). x.groups) (sym a.totals_are);
  };
}

module _ (t w : List ℕ) {w' : List ℕ} {r : Result Widened Refusal} {v : Widened} where
  pub table-totals : r ≡ Ok v → acceptance_of r ≡ described (diagram_in table_line t)
      → w' ≡ buffer_after (widened t) w → ValidTotals (take v.length w') v.roles v.groups
  table-totals p e ew = valid-totals (accepted_as t w p e ew)
