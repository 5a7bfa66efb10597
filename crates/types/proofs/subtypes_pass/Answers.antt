use Rattle.types.proofs.Walked.{left-start, left-more, left-none}
use Rattle.std.proofs.Common.{rules}
use Rattle.types.proofs.subtypes_pass.Goals as goal

pub loop-i-init : goal.loop-i-init
loop-i-init c = search (rules, left-start)

pub loop-i-preserved : goal.loop-i-preserved
loop-i-preserved c =
    left-more _ _ _ _ _ _ _ c.loop-i.invariant _ _ _ c.args.blocks.now.located c.loop-i-test.true c.type_count-i-end.ensures.value c.note_below.ensures
    c.new.ensures.line c.new.ensures.block c.new.ensures.number

pub returns : goal.returns
returns c = search (rules, left-none)
