use Rattle.lie_solved.proofs.SolvedOrRefused.{systems_are_solved_or_refused}
use Rattle.lie_solved.proofs.laws.systems_are_solved_or_refused.Goals as goal

pub returns : goal.returns
returns c = systems_are_solved_or_refused
