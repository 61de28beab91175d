-- By the order, and by what the desk answered.
use Rattle.lie_service.proofs.Headline.{good_answers}
use Rattle.lie_service.proofs.laws.good_answers_are_reports.Goals as goal

pub returns : goal.returns
returns c = good_answers
