use Rattle.lie_solve.proofs.StepRuns as runs
use Rattle.lie_solve.proofs.runs.outcomes_differ.Goals as goal

pub returns : goal.returns
returns c = runs.outcomes_differ
