use Rattle.std.proofs.Common.{sym}
use Rattle.lie_geometry.proofs.Fields.{same_field_invariant}
use Rattle.lie_geometry.proofs.invariance.same_fields_are_invariant.Goals as goal

pub returns : goal.returns
returns c = λ S s rs h V W v w same. (
  same_field_invariant S s.0 s.1 rs h V W v w same,
  same_field_invariant S s.0 s.1 rs h W V w v (λ i. sym (same i)),
)
