use Rattle.lie_brackets.proofs.WorkDecisions.{table_is_within_or_past}
use Rattle.lie_brackets.proofs.laws.table_is_within_or_past.Goals as goal

pub returns : goal.returns
returns c = table_is_within_or_past c.made_is_within_or_past.ensures
