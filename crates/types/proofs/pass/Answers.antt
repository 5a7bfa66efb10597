use Rattle.types.proofs.Walked.{type-most, left-start, left-more, left-none, still-room}
use Rattle.std.proofs.Common.{rules}
use Rattle.types.proofs.pass.Goals as goal

pub loop-i-init : goal.loop-i-init
loop-i-init c = record { list = search rules; spare = search rules; left = search (rules, left-start) }

pub type_pass-requires-clause-room : goal.type_pass-requires-clause-room
type_pass-requires-clause-room c = still-room _ _ _ _ _ c.requires.room c.loop-i.invariant.list c.loop-i.invariant.spare

pub type_pass-requires-clause-max_bound : goal.type_pass-requires-clause-max_bound
type_pass-requires-clause-max_bound c =
    type-most _ _ _ c.requires.populated c.loop-i-test.true c.type_count-i-end.ensures.value c.new.ensures.line

pub loop-i-preserved : goal.loop-i-preserved
loop-i-preserved c = record {
  list = search rules;
  spare = search rules;
  left = left-more _ _ _ _ _ _ _ c.loop-i.invariant.left _ _ _ c.args.blocks.now.located c.loop-i-test.true c.type_count-i-end.ensures.value
      c.type_pass.ensures c.new.ensures.line c.new.ensures.block c.new.ensures.number;
}

pub returns : goal.returns
returns c = left-none _ _ _ c.args.blocks.now.starts.now _ _ _ c.loop-i.invariant.left c.loop-i-test.false c.type_count-i-end.ensures.value
