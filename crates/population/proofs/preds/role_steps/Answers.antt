use Rattle.std.proofs.Common.{rules, ap, sym, subst, take}
use Rattle.tuples.specs.Steps.{Small}
use Rattle.tuples.specs.Nested.{steps_of_each}
use Rattle.population.specs.Plan.{Wants}
use Rattle.population.proofs.Writing.{fronted, front_as}
use Rattle.population.proofs.PredLaws.{each-room, sizes-small}
use Rattle.population.proofs.preds.role_steps.Goals as goal

pub prepare_each-requires-clause-small_2 : goal.prepare_each-requires-clause-small_2
prepare_each-requires-clause-small_2 c = subst Small (sym c.role_sizes-n.ensures.is) (sizes-small c.args.c.now c.args.roles.now c.requires.small)

pub returns : goal.returns
returns c =
    let wants : Wants c.args.wants.now c.args.counts.now (take c.role_sizes-n.result c.role_sizes-n.new.space) =
    subst (Wants c.args.wants.now c.args.counts.now) (sym c.role_sizes-n.ensures.is) c.requires.wants in
    front_as {xs = steps_of_each c.args.wants.now c.args.counts.now (take c.role_sizes-n.result c.role_sizes-n.new.space)}
    (fronted c.args.space.now (search rules) (each-room wants c.args.space.now c.requires.room))
    (ap (steps_of_each c.args.wants.now c.args.counts.now) c.role_sizes-n.ensures.is)
