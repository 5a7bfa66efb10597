use Rattle.lookup.proofs.Walks.{all-marked}
use Rattle.lookup.proofs.all_met.Goals as goal

pub returns : goal.returns
returns c = all-marked _ c.contains.ensures.value
