use Rattle.std.proofs.Common.{rules, arith}
use Rattle.population.proofs.RoleLaws.{taking_start, taken_here, taken_more, taken_same, taken_all}
use Rattle.population.proofs.roles.taken.Goals.{then-types-i+else-set-p, else-types-i}
use Rattle.population.proofs.roles.taken.Goals as goal

pub loop-i-init : goal.loop-i-init
loop-i-init c = record { taking = search (rules, taking_start); small = omega arith }

pub returns-then-set-p : goal.returns-then-set-p
returns-then-set-p c = search (rules, taken_here)

pub loop-i-preserved : goal.loop-i-preserved
loop-i-preserved c = elim c.if-types-i.branch [
  | then-types-i+else-set-p w ↦ record {
    taking = rw w.sum-is (search (rules, taken_more));
    small = omega (arith, w.sum-is, w.size-sum.ensures.upper_bound, c.loop-i.invariant.small);
  }
  | else-types-i w ↦ record {
    taking = rw w.sum-is (search (rules, taken_same));
    small = omega (arith, w.sum-is, c.loop-i.invariant.small);
  }
]

pub returns : goal.returns
returns c = search (rules, taken_all)
