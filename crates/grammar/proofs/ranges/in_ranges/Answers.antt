use Rattle.std.proofs.Common.{rules}
use Rattle.grammar.proofs.Bounds.{ranges_more, ranges_out, ranges_end}
use Rattle.grammar.proofs.ranges.in_ranges.Goals as goal

pub returns-then-not-is_in_range : goal.returns-then-not-is_in_range
returns-then-not-is_in_range c = search (rules, ranges_out)

pub loop-field-preserved : goal.loop-field-preserved
loop-field-preserved c = search (rules, ranges_more)

pub returns : goal.returns
returns c = search (rules, ranges_end)
