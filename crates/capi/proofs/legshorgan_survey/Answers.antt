-- `capi::legshorgan_survey` meets its contract. The answer stored is that of the call.
use Rattle.capi.proofs.Stored.{found_sent}
use Rattle.std.proofs.Common.{rules}
use Rattle.capi.proofs.legshorgan_survey.Goals as goal

pub returns : goal.returns
returns c = search (rules, found_sent)
