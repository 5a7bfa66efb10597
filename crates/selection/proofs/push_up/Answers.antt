use Rattle.std.proofs.Common.{◌≡◌, ◌+◌, ◌-◌, length, take, drop, refl, sym, ap, ◌∙◌, arith, length-drop, length-take}
use Rattle.counting.specs.Lists.{up_from}
use Rattle.counting.proofs.Laws.Range.{length-up_from}
use Rattle.buffer.specs.Laws.{wrote-part, wrote-full}
use Rattle.selection.specs.Laws.Upto.{take-up_from}
use Rattle.selection.proofs.push_up.Goals as goal

pub returns-then-out : goal.returns-then-out
returns-then-out c =
    let at = c.args.out.now.at in
    let n = c.min.result in
    let long : length (take (at + n - at) (drop at c.args.out.now.buffer.now)) ≡ n = simp (length-take, length-drop) (omega arith) in
    wrote-part refl refl refl (omega arith) (omega (arith, length-up_from c.args.first c.args.count)) (omega arith)
    (c.count_up.ensures ∙ ap (up_from c.args.first) long ∙ sym (take-up_from c.args.first c.args.count (omega arith)))

pub returns-else-out : goal.returns-else-out
returns-else-out c = wrote-full c.args.out.now (up_from c.args.first c.args.count) c.if-out.false
