use Rattle.lie_geometry.proofs.Fields.{commutator_is_field, commutator_field_invariant}
use Rattle.lie_geometry.proofs.invariance.commutator_is_invariant.Goals as goal

pub returns : goal.returns
returns c = λ S s V W v w. (commutator_is_field S V W v w, λ rs h. commutator_field_invariant S s.0 s.1 rs h V W v w)
