use Rattle.lie_app.proofs.SomeDue.{some_outcome_is_due}
use Rattle.lie_app.proofs.laws.some_outcome_is_due.Goals as goal

pub returns : goal.returns
returns c = some_outcome_is_due c.some_work_is_due.ensures c.some_study_is_due.ensures c.some_sample_is_due.ensures
