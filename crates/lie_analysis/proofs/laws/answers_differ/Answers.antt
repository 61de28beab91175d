use Rattle.lie_analysis.proofs.Dues.{answers_differ}
use Rattle.lie_analysis.proofs.laws.answers_differ.Goals as goal

pub returns : goal.returns
returns c = answers_differ c.opening_is_unique.ensures c.opening_is_valid.ensures c.run_ends_once.ensures c.outcomes_differ.ensures
