use Rattle.std.proofs.Common.{rules}
use Rattle.propagation.proofs.Answers.{roomy_so}
use Rattle.propagation.proofs.lower.Goals as goal

pub lower_in-requires : goal.lower_in-requires
lower_in-requires c = roomy_so c.new-out.ensures (search rules) (search rules)
