use Rattle.lie_read_report.proofs.Told.{one_report}
use Rattle.lie_read_report.proofs.laws.texts_have_one_report.Goals as goal

pub returns : goal.returns
returns c = one_report
