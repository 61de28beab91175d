-- The row of the name is found again.
use Rattle.lie_desk.proofs.RepeatedStudies.{repeated}
use Rattle.lie_desk.proofs.laws.repeated_study_acts_once.Goals as goal

pub returns : goal.returns
returns c = repeated
