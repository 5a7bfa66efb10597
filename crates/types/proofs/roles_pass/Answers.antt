-- No member was met before, and the marks tell K10 once all roles were looked up.
use Rattle.types.proofs.Members.{roles-fresh, roles-told}
use Rattle.std.proofs.Common.{rules}
use Rattle.types.proofs.roles_pass.Goals as goal

pub preds_pass-requires-clause-fresh : goal.preds_pass-requires-clause-fresh
preds_pass-requires-clause-fresh c = roles-fresh _ _ c.requires.paired (c.fill.ensures.after (λ y h. search rules))

pub returns : goal.returns
returns c =
    roles-told _ _ c.requires.paired (c.fill.ensures.after (λ y h. search rules)) _ _ _ _ _ _ _ c.preds_pass.ensures c.all_play.ensures c.note.ensures
