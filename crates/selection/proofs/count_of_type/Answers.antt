use Rattle.std.proofs.Common.{rules, ◌≡◌, ◌∙◌}
use Rattle.std.specs.Prelude.{count_by, nat_eq}
use Rattle.selection.specs.Laws.Upto.{positions_counted}
use Rattle.selection.proofs.count_of_type.Goals as goal

pub returns : goal.returns
returns c =
    let counted : c.count.result ≡ count_by (λ x. nat_eq x c.args.number) c.args.types.now = search rules in
    counted ∙ positions_counted c.args.number 0 c.args.types.now
