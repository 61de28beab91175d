use Rattle.lie_sample.proofs.Dues.{some_sample_is_due}
use Rattle.lie_sample.proofs.laws.some_sample_is_due.Goals as goal

pub returns : goal.returns
returns c = some_sample_is_due c.some_work_is_due.ensures
