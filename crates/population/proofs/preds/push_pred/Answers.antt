use Rattle.std.proofs.Common.{sym, subst, refl, take}
use Rattle.population.specs.declared.rows.Plan.{Plan}
use Rattle.population.proofs.Writing.{wrote_more}
use Rattle.tuples.specs.Steps.{Small}
use Rattle.population.proofs.PredLaws.{owns-small, wanted, ready, planned, pred-is}
use Rattle.population.proofs.preds.push_pred.Goals as goal

pub row_steps-parts-requires-clause-small : goal.row_steps-parts-requires-clause-small
row_steps-parts-requires-clause-small c =
    subst Small (sym (c.part_sizes-n.ensures.front c.requires.at_predicate.few refl).is) (owns-small c.args.t.now c.args.c.now c.args.x c.requires.at_predicate)

pub role_steps-steps-requires-clause-wants : goal.role_steps-steps-requires-clause-wants
role_steps-steps-requires-clause-wants c =
    rw ((c.part_sizes-n.ensures.front c.requires.at_predicate.few refl).is, c.part_counts-n.ensures.is, c.roles-n.ensures.is)
    (wanted c.args.t.now c.args.c.now c.args.x c.requires.at_predicate)

pub push_rows-requires-clause-planned : goal.push_rows-requires-clause-planned
push_rows-requires-clause-planned c =
    planned c.requires.at_predicate c.requires.types
    (ready c.args.t.now c.args.c.now c.args.types.now c.args.x c.roles-n.ensures.is (c.part_sizes-n.ensures.front c.requires.at_predicate.few refl).is c.part_counts-n.ensures.is c.size-size.ensures.value
    c.columns-width.ensures.is c.row_steps-parts.ensures.is refl c.role_steps-steps.ensures.is)

-- the rows depend on what the plan's slices hold, and not on where these stand
pub returns : goal.returns
returns c =
    let p : Plan = record {
      columns = record { ref_ptr = c.args.t.ref_ptr; now = take c.columns-width.result c.columns-width.new.space };
      outer = record { ref_ptr = c.args.t.ref_ptr; now = take c.row_steps-parts.result c.row_steps-parts.new.space };
      counts = record { ref_ptr = c.args.t.ref_ptr; now = take c.part_counts-n.result c.part_counts-n.new.space };
      inner = record { ref_ptr = c.args.t.ref_ptr; now = take c.role_steps-steps.result c.role_steps-steps.new.space };
    } in
    wrote_more c.push.ensures c.push_rows.ensures
    (pred-is c.requires.at_predicate c.requires.types {p = p}
    (ready c.args.t.now c.args.c.now c.args.types.now c.args.x c.roles-n.ensures.is (c.part_sizes-n.ensures.front c.requires.at_predicate.few refl).is c.part_counts-n.ensures.is c.size-size.ensures.value
    c.columns-width.ensures.is c.row_steps-parts.ensures.is refl c.role_steps-steps.ensures.is) c.size-size.ensures.value)
