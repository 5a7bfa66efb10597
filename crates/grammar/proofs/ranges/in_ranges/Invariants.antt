use Rattle.std.proofs.Common.{◌≡◌, drop}
use Rattle.orm.specs.Form.{ranges, in_ranges}
use Rattle.lexer.specs.Cuts.{kind_of}
use Rattle.grammar.proofs.ranges.in_ranges.Given as goal

abbrev pub invariant-loop-field : goal.invariant-loop-field
invariant-loop-field l = in_ranges (drop l.field (ranges (kind_of l.key))) (drop l.field l.line) ≡ in_ranges (ranges (kind_of l.key)) l.line
