use Rattle.lie_degree.proofs.Steps.{degree_basis_is_unique}
use Rattle.lie_degree.proofs.laws.degree_basis_is_unique.Goals as goal

pub returns : goal.returns
returns c = degree_basis_is_unique
