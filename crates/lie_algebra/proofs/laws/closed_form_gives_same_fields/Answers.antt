use Rattle.lie_algebra.proofs.ClosedForms.{closed_same}
use Rattle.lie_algebra.proofs.laws.closed_form_gives_same_fields.Goals as goal

pub returns : goal.returns
returns c = closed_same
