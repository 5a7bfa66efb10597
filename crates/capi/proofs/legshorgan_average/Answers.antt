-- `capi::legshorgan_average` meets its contract. The answer stored is that of the call, and means what S-14 says.
use Rattle.capi.proofs.Stored.{average_sent, float_sent}
use Rattle.capi.proofs.Told.{told_average}
use Rattle.std.proofs.Common.{rules}
use Rattle.capi.proofs.legshorgan_average.Goals as goal

pub returns : goal.returns
returns c = search (rules, average_sent, float_sent, told_average)
