use Rattle.std.proofs.Common.{arith, refl, sym, length, ◌∙◌}
use Rattle.std.proofs.lemmas.List.{take_all}
use Rattle.buffer.specs.Laws.{wrote-part}
use Rattle.buffer.proofs.output.Output.append.Goals as goal

pub returns-then-xs-self : goal.returns-then-xs-self
returns-then-xs-self g c =
    wrote-part refl refl refl (omega arith) (omega arith) (omega arith)
    (c.copy.ensures ∙ sym (take_all (length c.args.xs.now) c.args.xs.now (omega arith)))
