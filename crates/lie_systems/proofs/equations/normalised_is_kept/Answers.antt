use Rattle.lie_systems.proofs.Unique.{primitive-normalised}
use Rattle.lie_systems.proofs.equations.normalised_is_kept.Goals as goal

pub returns : goal.returns
returns c = primitive-normalised
