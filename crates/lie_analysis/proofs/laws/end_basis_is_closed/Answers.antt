use Rattle.lie_analysis.proofs.ToldSymmetries.{end_basis_is_closed}
use Rattle.lie_analysis.proofs.laws.end_basis_is_closed.Goals as goal

pub returns : goal.returns
returns c =
    end_basis_is_closed c.opening_is_valid.ensures c.opening_gives_invariant.ensures c.run_keeps_fields.ensures
    c.field_in_is_field_on.ensures c.invariant_basis_is_closed.ensures
