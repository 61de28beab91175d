use Rattle.std.proofs.Common.{sym, ap, ◌∙◌}
use Rattle.lie_math.specs.FiniteSumLaws.{list-of}
use Rattle.lie_math.specs.LinearForm.{LinearForm, forms}
use Rattle.lie_lin.specs.Forms.{coefficients_of}
use Rattle.lie_lin.proofs.equation.LinEq.terms.Goals as goal

pub returns-clause-list : goal.returns-clause-list
returns-clause-list c = ap coefficients_of c.as_slice.ensures.value ∙ sym (list-of forms (coefficients_of c.self.inside.terms.items) c.self.invariant) ∙ ap (λ (E : LinearForm). E.list) c.self.view_is
