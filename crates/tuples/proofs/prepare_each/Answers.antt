use Rattle.std.proofs.Common.{rules, arith, get_or, ◌≡◌}
use Rattle.std.proofs.lemmas.Grind.{common_steps}
use Rattle.tuples.specs.StepsLaws.{small_drop}
use Rattle.tuples.specs.NestedLaws.{steps_of_each_none, each_more, rest_next}
use Rattle.tuples.proofs.Writes.{wrote_more}
use Rattle.tuples.proofs.prepare_each.Goals as goal

pub loop-n-init : goal.loop-n-init
loop-n-init c = record { wrote = grind (arith, common_steps, steps_of_each_none); rest = search rules; small = search rules }

pub loop-n-preserved : goal.loop-n-preserved
loop-n-preserved c =
    let count : c.unwrap_or-count.result ≡ get_or c.args.counts.now c.loop-n.n 0 = search rules in
    record {
      wrote = wrote_more c.loop-n.invariant.wrote c.push_pairing.ensures
          (each_more c.args.counts.now c.args.wants.now c.args.sizes.now c.loop-n.invariant.rest count c.loop-n-test.true);
      rest = rest_next c.args.counts.now c.args.sizes.now c.loop-n.n c.loop-n.invariant.rest count c.behind-rest.ensures;
      small = small_drop c.unwrap_or-count.result c.loop-n.invariant.small c.behind-rest.ensures;
    }
