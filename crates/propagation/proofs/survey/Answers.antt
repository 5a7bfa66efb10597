use Rattle.std.proofs.Common.{rules}
use Rattle.propagation.proofs.Answers.{roomy_so}
use Rattle.propagation.proofs.survey.Goals as goal

pub survey_in-requires : goal.survey_in-requires
survey_in-requires c = roomy_so c.new-out.ensures (search rules) (search rules)
