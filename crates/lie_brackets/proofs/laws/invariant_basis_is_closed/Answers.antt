use Rattle.lie_brackets.proofs.ClosedBases.{basis_is_closed}
use Rattle.lie_brackets.proofs.laws.invariant_basis_is_closed.Goals as goal

pub returns : goal.returns
returns c = basis_is_closed c.field_in_is_field_on.ensures c.combination_is_span.ensures c.commutator_is_invariant.ensures
