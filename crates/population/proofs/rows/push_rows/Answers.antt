use Rattle.std.proofs.Common.{rules, arith, ap, sym, ◌∙◌, ◌≡◌}
use Rattle.population.proofs.Writing.{wrote_none, wrote_more, wrote_as}
use Rattle.population.proofs.RowLaws.{rows_none, rows_to, rows_more, shortened, rows_shortened}
use Rattle.population.proofs.rows.push_rows.Goals as goal

pub loop-i-init : goal.loop-i-init
loop-i-init c = record { wrote = search (rules, wrote_none, rows_none); indices = search rules; flat = search rules }

pub loop-i-preserved : goal.loop-i-preserved
loop-i-preserved c = record { wrote = wrote_more c.loop-i.invariant.wrote c.push_row.ensures (rows_more (shortened c.args.plan.now) c.loop-i.i); indices = search rules; flat = search rules }

pub returns : goal.returns
returns c =
    let all : c.loop-i.i ≡ c.args.size = omega arith in
    wrote_as c.loop-i.invariant.wrote (ap (rows_to (shortened c.args.plan.now)) all ∙ sym (rows_shortened c.args.plan.now c.args.size))
