-- `capi::legshorgan_prescribe` meets its contract. The answer stored is that of the call, and means what S-1 says.
use Rattle.capi.proofs.Stored.{handed_sent}
use Rattle.capi.proofs.Told.{told_prescribe}
use Rattle.std.proofs.Common.{rules}
use Rattle.capi.proofs.legshorgan_prescribe.Goals as goal

pub returns : goal.returns
returns c = search (rules, handed_sent, told_prescribe)
