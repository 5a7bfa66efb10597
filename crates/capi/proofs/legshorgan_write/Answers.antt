-- `capi::legshorgan_write` meets its contract. The answer stored is that of the call.
use Rattle.capi.proofs.Stored.{conversion_sent}
use Rattle.std.proofs.Common.{rules}
use Rattle.capi.proofs.legshorgan_write.Goals as goal

pub returns : goal.returns
returns c = search (rules, conversion_sent)
