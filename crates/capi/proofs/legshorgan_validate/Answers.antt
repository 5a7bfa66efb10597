-- `capi::legshorgan_validate` meets its contract. The answer stored is that of the call.
use Rattle.capi.proofs.Stored.{verdict_sent}
use Rattle.std.proofs.Common.{rules}
use Rattle.capi.proofs.legshorgan_validate.Goals as goal

pub returns : goal.returns
returns c = search (rules, verdict_sent)
