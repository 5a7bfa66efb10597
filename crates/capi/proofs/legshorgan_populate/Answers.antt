-- `capi::legshorgan_populate` meets its contract. The answer stored is that of the call, and means what demand 3 says.
use Rattle.capi.proofs.Stored.{handed_sent}
use Rattle.capi.proofs.Told.{told-populate}
use Rattle.std.proofs.Common.{rules}
use Rattle.capi.proofs.legshorgan_populate.Goals as goal

pub returns : goal.returns
returns c = search (rules, handed_sent, told-populate)
