-- What is printed of the text is written whole.
use Rattle.legshorgan.proofs.Answered.{written}
use Rattle.legshorgan.proofs.write_report.Goals as goal

pub returns : goal.returns
returns g c = written c.write_all.result _ _ _ _ c.report-length.ensures.out_after c.write_all.ensures.bytes
