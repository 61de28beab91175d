use Rattle.lie_systems.proofs.Unique.{normalised_unique}
use Rattle.lie_systems.proofs.equations.normalised_is_unique.Goals as goal

pub returns : goal.returns
returns c = normalised_unique
