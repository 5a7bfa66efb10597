use Rattle.table.specs.Laws.Walks.{role-count}
use Rattle.playing.proofs.Walk.{roles-start, roles_more, roles-end}
use Rattle.std.proofs.Common.{arith, refl, ◌∙◌, drop}
use Rattle.playing.proofs.roles_pass.Goals as goal

pub loop-j-init : goal.loop-j-init
loop-j-init c =
    roles-start _ _ _ _ _ _ _ _ _ _ c.requires.fresh (c.args.pred.now.wide ∙ role-count (drop c.args.pred.now.line c.args.pred.now.table.now)) (omega (arith, c.roles_at-first.ensures)) (omega arith)

pub loop-j-preserved : goal.loop-j-preserved
loop-j-preserved c =
    roles_more _ _ _ _ _ _ _ _ _ _ _ _ _ _ _ c.loop-j.invariant c.args.pred.now.wide c.role_pass.ensures c.loop-j-test.true
    c.column-values.ensures.values (omega arith) (omega arith)

pub returns : goal.returns
returns c =
    roles-end _ _ _ _ _ _ _ _ _ _ _ _ _ _ _ c.loop-j.invariant c.args.pred.now.wide c.args.pred.now.here c.loop-j-test.false c.loop-j.auto.j-end refl
