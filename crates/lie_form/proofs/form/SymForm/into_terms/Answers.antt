use Rattle.std.proofs.Common.{sym, ap, ◌∙◌}
use Rattle.lie_math.specs.FiniteSumLaws.{list-of}
use Rattle.lie_math.specs.LinearForm.{LinearForm, forms}
use Rattle.lie_form.specs.DerivativeTerms.{derivative_terms}
use Rattle.lie_form.proofs.form.SymForm.into_terms.Goals as goal

pub returns : goal.returns
returns c = sym (list-of forms (derivative_terms c.self.inside.terms.items) c.self.invariant) ∙ ap (λ (E : LinearForm). E.list) c.self.view_is
