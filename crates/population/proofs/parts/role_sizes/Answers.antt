use Rattle.std.proofs.Common.{rules, arith}
use Rattle.std.proofs.lemmas.List.{length-map}
use Rattle.population.proofs.Writing.{fronted}
use Rattle.orm.specs.Populate.{size}
use Rattle.population.proofs.parts.role_sizes.Goals as goal

pub returns : goal.returns
returns c = fronted c.args.space.now (search rules) (omega (arith, c.requires.few, c.requires.room, length-map c.args.roles.now (size c.args.c.now)))
