use Rattle.lie_brackets.proofs.UniqueTables.{table_is_unique}
use Rattle.lie_brackets.proofs.laws.table_is_unique.Goals as goal

pub returns : goal.returns
returns c = table_is_unique c.coordinates_are_unique.ensures
