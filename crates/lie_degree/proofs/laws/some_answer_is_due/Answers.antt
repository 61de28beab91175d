use Rattle.lie_degree.proofs.Steps.{some_answer_is_due}
use Rattle.lie_degree.proofs.laws.some_answer_is_due.Goals as goal

pub returns : goal.returns
returns c = some_answer_is_due
