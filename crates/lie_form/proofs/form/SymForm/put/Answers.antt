use Rattle.std.proofs.Common.{ap, ◌∙◌}
use Rattle.lie_math.specs.LinearForm.{◌+ᶠ◌, form_term}
use Rattle.lie_jet.specs.Derivatives.{derivative_of}
use Rattle.lie_form.specs.DerivativeTerms.{derivative_terms}
use Rattle.lie_jet.proofs.TotalSteps.{on_ok}
use Rattle.lie_form.proofs.DerivativeLists.{put_form, canonical_after}
use Rattle.lie_form.proofs.form.SymForm.put.Goals as goal

pub invariant_of-self : goal.invariant_of-self
invariant_of-self c = canonical_after c.put_term.result (derivative_of c.args.der) c.args.poly c.self.inside.terms.items c.put_term.new.terms.items c.self.invariant c.put_term.ensures.items c.put_term.ensures.kept

pub returns-clause-sum : goal.returns-clause-sum
returns-clause-sum c = on_ok c.put_term.result (λ e. (put_form (derivative_of c.args.der) c.args.poly (derivative_terms c.self.inside.terms.items) (derivative_terms c.put_term.new.terms.items) c.self.invariant e).1 ∙ ap (λ E. E +ᶠ form_term (derivative_of c.args.der) c.args.poly) c.self.view_is) c.put_term.ensures.items
