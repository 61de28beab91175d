use Rattle.std.proofs.Common.{ap, ◌∙◌}
use Rattle.lie_math.specs.FiniteSum as finite
use Rattle.lie_math.specs.LinearForm.{forms}
use Rattle.lie_lin.specs.Forms.{coefficients_of}
use Rattle.lie_change.proofs.changing_tests.empty_form.Goals as goal

pub returns : goal.returns
unfolding finite.none
returns c = c.of_terms.ensures ∙ ap (λ es. finite.of forms (coefficients_of es)) c.new.ensures.items
