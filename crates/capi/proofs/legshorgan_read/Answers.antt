-- `capi::legshorgan_read` meets its contract. The answer stored is that of the call, and means what demand 3 says.
use Rattle.capi.proofs.Stored.{conversion_sent}
use Rattle.capi.proofs.Told.{told-read}
use Rattle.std.proofs.Common.{rules}
use Rattle.capi.proofs.legshorgan_read.Goals as goal

pub returns : goal.returns
returns c = search (rules, conversion_sent, told-read)
