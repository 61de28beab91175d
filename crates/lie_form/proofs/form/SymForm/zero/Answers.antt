use Rattle.std.proofs.Common.{ap}
use Rattle.lie_math.specs.FiniteSum as finite
use Rattle.lie_math.specs.LinearForm.{forms}
use Rattle.lie_form.specs.DerivativeTerms.{derivative_terms}
use Rattle.lie_form.proofs.form.SymForm.zero.Goals as goal

pub returns : goal.returns
unfolding finite.none
returns c = ap (λ ts. finite.of forms (derivative_terms ts)) c.new.ensures.items
