use Rattle.std.proofs.Common.{◌≡◌, subst}
use Rattle.std.specs.Prelude.{IfOk}
use Rattle.lie_math.specs.Counts.{Derivative}
use Rattle.lie_math.specs.LinearForm.{LinearForm}
use Rattle.lie_systems.specs.Normalised.{derivative_alone}
use Rattle.lie_lin.proofs.tests.unknown.Goals as goal

pub returns : goal.returns
returns c = subst (λ (d : Derivative). IfOk c.derivative_alone.result (λ (form : LinearForm). form ≡ derivative_alone d)) c.plain.ensures c.derivative_alone.ensures
