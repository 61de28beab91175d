use Rattle.lie_analysis.proofs.ToldSymmetries.{analysis_is_symmetries}
use Rattle.lie_analysis.proofs.laws.analysis_is_symmetries.Goals as goal

pub returns : goal.returns
returns c =
    analysis_is_symmetries c.opening_is_valid.ensures c.opening_gives_invariant.ensures c.run_keeps_fields.ensures
    c.field_in_is_field_on.ensures c.closed_form_gives_same_fields.ensures c.closed_system_is_finite.ensures c.finite_is_stuck.ensures
