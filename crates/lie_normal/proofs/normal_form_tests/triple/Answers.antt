use Rattle.std.proofs.Common.{ap, ◌∙◌}
use Rattle.lie_math.specs.Monomial.{Monomial, exponent}
use Rattle.lie_normal.proofs.WorkedForms.{power_in}
use Rattle.lie_normal.proofs.normal_form_tests.triple.Goals as goal

pub returns-in-Some : goal.returns-in-Some
returns-in-Some c = (c.derivative-der.ensures, λ v out. ap (λ (m : Monomial). exponent m v) c.power-power.ensures ∙ power_in c.args.row.now.2 v out)
