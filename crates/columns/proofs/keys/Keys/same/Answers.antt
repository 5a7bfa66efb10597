use Rattle.columns.specs.Reach.{row-cell}
use Rattle.columns.proofs.Walked.{same_start, same_end, keys_not, keys_same}
use Rattle.std.proofs.Common.{rules}
use Rattle.columns.proofs.keys.Keys.same.Goals as goal

pub loop-j-init : goal.loop-j-init
loop-j-init c = same_start _ _ _ _ _ _ c.row-a.ensures c.row-b.ensures c.args.self.now.keyed

pub bounds-a-j : goal.bounds-a-j
bounds-a-j c = row-cell _ _ c.args.self.now.keyed _ c.requires.x_lt_count _ _ c.loop-j-test.true (search rules) c.row-a.ensures

pub bounds-b-j : goal.bounds-b-j
bounds-b-j c = row-cell _ _ c.args.self.now.keyed _ c.requires.y_lt_count _ _ c.loop-j-test.true (search rules) c.row-b.ensures

pub returns-then-a-j : goal.returns-then-a-j
returns-then-a-j c = search (rules, keys_not)

pub loop-j-preserved : goal.loop-j-preserved
loop-j-preserved c = search (rules, keys_same)

pub returns : goal.returns
returns c = search (rules, same_end)
