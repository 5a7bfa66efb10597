use Rattle.std.proofs.Common.{arith, ◌≡◌, length}
use Rattle.orm.specs.Sets.{group_roles}
use Rattle.table.specs.Cursors.{placed_at}
use Rattle.limits.specs.Single.{parts_in}
use Rattle.limits.proofs.Limited.{single_is, many_is, parts_count}
use Rattle.limits.proofs.preds.push_product.Goals as goal

pub only_part-requires-clause-one : goal.only_part-requires-clause-one
only_part-requires-clause-one c =
    let x = placed_at c.args.t.now c.args.x in
    let count = parts_count x.groups c.args.groups (group_roles x c.args.number) in
    omega (arith, count, c.if-groups-count_in_group-eq1.true, c.count_in_group.ensures.value)

pub returns-then-groups-count_in_group-eq1 : goal.returns-then-groups-count_in_group-eq1
returns-then-groups-count_in_group-eq1 c =
    let x = placed_at c.args.t.now c.args.x in
    let count = parts_count x.groups c.args.groups (group_roles x c.args.number) in
    let one : length (parts_in x c.args.groups c.args.number) ≡ 1 = omega (arith, count, c.if-groups-count_in_group-eq1.true, c.count_in_group.ensures.value) in
    single_is c.args.target _ one c.only_part.ensures c.at_most.ensures

pub returns : goal.returns
returns c =
    let x = placed_at c.args.t.now c.args.x in
    let count = parts_count x.groups c.args.groups (group_roles x c.args.number) in
    many_is c.args.target _ c.place-from.ensures c.place-to.ensures c.push_parts.ensures c.push.ensures.same_limits c.push.ensures.same_operands
    (λ e. c.if-groups-count_in_group-eq1.false (omega (arith, count, e, c.count_in_group.ensures.value))) c.push.ensures.is
