-- `averages::owner::find` meets its contract. The groups of the predicates passed have lower numbers.
use Rattle.std.proofs.Common.{rules, arith, ◌<◌, ◌≤◌, ◌-◌}
use Rattle.table.specs.Positions.{pred_count}
use Rattle.table.specs.Laws.Cursors.{reach-start, reach_here}
use Rattle.averages.proofs.Search.{search_below, search_start, search_over, search_here, search_on, reach_on}
use Rattle.averages.proofs.owner.find.Goals as goal

pub returns-then-number-x : goal.returns-then-number-x
returns-then-number-x c = search (rules, search_below)

pub loop-init : goal.loop-init
loop-init c =
    (reach-start c.args.t.now c.requires.walkable c.first_cursor-x.ensures (omega arith), search_start c.args.t.now c.args.number c.first_cursor-x.ensures (omega arith) (search rules))

pub next_cursor-next-requires : goal.next_cursor-next-requires
next_cursor-next-requires c =
    let more : c.loop.counter < pred_count c.args.t.now = search rules in
    record {
      walkable = c.requires.walkable;
      here = reach_here c.args.t.now c.loop.x (pred_count c.args.t.now - c.loop.counter) c.loop.invariant.0 (omega arith);
    }

pub returns-then-number-next : goal.returns-then-number-next
returns-then-number-next c =
    let more : c.loop.counter < pred_count c.args.t.now = search rules in
    search_here c.args.t.now c.args.number c.loop.invariant.1 more c.next_cursor-next.ensures (search rules)

pub loop-preserved : goal.loop-preserved
loop-preserved c =
    let more : c.loop.counter < pred_count c.args.t.now = search rules in
    let walk = c.loop.invariant in (
      reach_on c.args.t.now c.args.number walk.1 more c.next_cursor-next.ensures walk.0,
      search_on c.args.t.now c.args.number walk.1 more c.next_cursor-next.ensures (search rules),
    )

pub returns : goal.returns
returns c =
    let over : pred_count c.args.t.now ≤ c.loop.counter = search rules in
    search_over c.args.t.now c.args.number c.loop.invariant.1 over
