-- No limit has the number, or one does.
use Rattle.std.proofs.Common.{sym, ◌∙◌}
use Rattle.steps.specs.Laws.{found-within}
use Rattle.propagation.proofs.Answers.{lower-none, lower-found}
use Rattle.propagation.proofs.lower_front.Goals as goal

pub apply-requires : goal.apply-requires
apply-requires c = found-within c.args.limits.now c.args.number c.requires (sym c.find.ensures ∙ c.in-Some.is)

pub returns-in-None : goal.returns-in-None
returns-in-None c = lower-none c.args.limits.now c.args.sets c.args.number c.args.sizes.now (sym c.find.ensures ∙ c.in-None.is)

pub returns-in-Some : goal.returns-in-Some
returns-in-Some c =
    lower-found c.args.limits.now c.args.sets c.args.number c.args.sizes.now (sym c.find.ensures ∙ c.in-Some.is) c.apply.ensures
