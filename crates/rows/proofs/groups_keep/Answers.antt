use Rattle.order.specs.Parts.{scratch-still}
use Rattle.rows.proofs.Groups.{groups_none, groups-not, groups-more, k9-none, k9-not, k9-rest}
use Rattle.std.proofs.Common.{rules, arith, refl, ap, not}
use Rattle.rows.proofs.groups_keep.Goals as goal

pub returns-then-count-eq0 : goal.returns-then-count-eq0
returns-then-count-eq0 c = search (rules, k9-none)

pub returns-then-not-first : goal.returns-then-not-first
returns-then-not-first c = search (rules, k9-not)

pub loop-i-init : goal.loop-i-init
loop-i-init c = record {
  list = refl;
  spare = refl;
  left = k9-rest _ _ _ c.requires.pred_rows c.field-count.ensures.value c.field-count.ensures.upper_bound c.if-count-eq0.false c.requires.first_value
      (ap not c.if-not-first.false) (omega (arith, c.groups_at-lines.ensures));
}

pub group_keeps-requires-clause-scratch : goal.group_keeps-requires-clause-scratch
group_keeps-requires-clause-scratch c = scratch-still _ _ c.requires.scratch c.loop-i.invariant.list c.loop-i.invariant.spare

pub returns-then-not-group_keeps : goal.returns-then-not-group_keeps
returns-then-not-group_keeps c =
    groups-not _ _ _ c.loop-i.invariant.left (omega (arith, c.loop-i-test.true)) c.group_keeps.ensures (ap not c.if-not-group_keeps.true)

pub loop-i-preserved : goal.loop-i-preserved
loop-i-preserved c = record {
  list = search rules;
  spare = search rules;
  left = groups-more _ _ _ c.loop-i.invariant.left (omega (arith, c.loop-i-test.true)) c.group_keeps.ensures (ap not c.if-not-group_keeps.false) (omega arith)
      (omega arith) (omega arith);
}

pub returns : goal.returns
returns c = groups_none _ _ _ c.loop-i.invariant.left (omega (arith, c.loop-i-test.false))
