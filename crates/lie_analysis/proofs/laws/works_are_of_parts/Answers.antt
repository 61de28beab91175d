use Rattle.lie_analysis.proofs.WorkSteps.{works_are_of_parts}
use Rattle.lie_analysis.proofs.laws.works_are_of_parts.Goals as goal

pub returns : goal.returns
returns c = works_are_of_parts c.opening_is_unique.ensures c.opening_is_valid.ensures c.run_ends_once.ensures c.outcomes_differ.ensures
