use Rattle.lie_analysis.proofs.Dues.{some_answer_is_due}
use Rattle.lie_analysis.proofs.laws.some_answer_is_due.Goals as goal

pub returns : goal.returns
returns c = some_answer_is_due
