use Rattle.lie_systems.proofs.Divisibility.{content_is_greatest}
use Rattle.lie_systems.proofs.equations.content_is_greatest.Goals as goal

pub returns : goal.returns
returns c = content_is_greatest
