use Rattle.std.proofs.Common.{refl}
use Rattle.lie_jet.specs.Derivatives.{derivative_of}
use Rattle.lie_cross.proofs.ReducibleForms.{lead_apart}
use Rattle.lie_cross.proofs.normal.unless_empty.Goals as goal

pub returns-in-Some : goal.returns-in-Some
returns-in-Some c = (refl, lead_apart c.args.form (derivative_of c.in-Some.field-0) c.in-Some.ensures)
