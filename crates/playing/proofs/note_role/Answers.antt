-- Only a role that keeps K7 tells more.
use Rattle.playing.proofs.Walk.{told-outside, told-inside}
use Rattle.std.proofs.Common.{rules}
use Rattle.playing.proofs.note_role.Goals as goal

pub returns-in_default : goal.returns-in_default
returns-in_default c = search (rules, told-outside)

pub returns : goal.returns
returns c = search (rules, told-inside)
