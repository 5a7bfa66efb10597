use Rattle.tuples.proofs.Numbers.{gcd-next, gcd-end, gcd-falls}
use Rattle.std.proofs.Common.{rules}
use Rattle.tuples.proofs.gcd.Goals as goal

pub loop-y-smaller : goal.loop-y-smaller
loop-y-smaller c = search (rules, gcd-falls)

pub loop-y-preserved : goal.loop-y-preserved
loop-y-preserved c = search (rules, gcd-next)

pub returns : goal.returns
returns c = search (rules, gcd-end)
