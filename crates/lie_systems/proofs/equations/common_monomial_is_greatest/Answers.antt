use Rattle.lie_systems.proofs.Divisibility.{common_monomial_is_greatest}
use Rattle.lie_systems.proofs.equations.common_monomial_is_greatest.Goals as goal

pub returns : goal.returns
returns c = common_monomial_is_greatest
