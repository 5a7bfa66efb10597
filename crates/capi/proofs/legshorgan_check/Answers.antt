-- `capi::legshorgan_check` meets its contract. The answer stored is that of the call, and means what demand 3 says.
use Rattle.capi.proofs.Stored.{handed_sent}
use Rattle.capi.proofs.Told.{told-check}
use Rattle.std.proofs.Common.{rules}
use Rattle.capi.proofs.legshorgan_check.Goals as goal

pub returns : goal.returns
returns c = search (rules, handed_sent, told-check)
