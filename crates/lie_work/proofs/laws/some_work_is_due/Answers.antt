use Rattle.lie_work.proofs.SomeDue.{some_work_is_due}
use Rattle.lie_work.proofs.laws.some_work_is_due.Goals as goal

pub returns : goal.returns
returns c = some_work_is_due c.actions_are_not_within_and_past.ensures c.opening_is_not_within_and_past.ensures c.some_answer_is_due.ensures c.some_answer_is_due-2.ensures
