use Rattle.lie_degree.proofs.Steps.{answers_differ}
use Rattle.lie_degree.proofs.laws.answers_differ.Goals as goal

pub returns : goal.returns
returns c = answers_differ
