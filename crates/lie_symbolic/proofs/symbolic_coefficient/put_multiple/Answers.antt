use Rattle.std.specs.Prelude.{negsuc, neg_ℤ}
use Rattle.std.proofs.Common.{refl, ap, ◌∙◌, take}
use Rattle.std.proofs.lemmas.Result.{err_from_is_err_and}
use Rattle.lie_math.specs.Limits.{absolute}
use Rattle.lie_math.specs.LinearForm.{◌+ᶠ◌, each_coefficient}
use Rattle.lie_math.specs.Monomial.{single}
use Rattle.lie_math.specs.Polynomial.{term}
use Rattle.lie_geometry.specs.Coordinates.{number}
use Rattle.lie_jet.specs.Derivatives.{derivative_of}
use Rattle.lie_form.proofs.FormSteps.{starved_cause}
use Rattle.lie_jet.proofs.TotalSteps.{on_ok, if_err}
use Rattle.lie_symbolic.specs.SymbolicBulks.{symbolic_multiple}
use Rattle.lie_symbolic.proofs.SymbolicMultiples.{multiple_put, multiple_cause}
use Rattle.lie_symbolic.proofs.symbolic_coefficient.put_multiple.Goals as goal

pub returns-in_err-factor-clause-past : goal.returns-in_err-factor-clause-past
returns-in_err-factor-clause-past c =
    let p = err_from_is_err_and c.from_residual.result c.from_residual.ensures.1 in
    rw (p.1, p.2) (starved_cause _ (each_coefficient absolute c.args.sum.now +ᶠ symbolic_multiple c.args.space c.args.k c.args.jet.now.dep (take c.args.space.p c.args.jet.now.counts) c.args.i) c.in_err-factor.ensures.memory)

pub returns-clause-sum : goal.returns-clause-sum
returns-clause-sum c =
    let S = c.args.space in
    on_ok c.put_derived.result (λ h. multiple_put S c.args.k c.args.jet.now.dep (take S.p c.args.jet.now.counts) c.args.i (negsuc 0) c.args.sum.now c.put_derived.new.sum (derivative_of c.unknown.result) c.in_ok-factor.factor c.jet_number-raised.result
    c.unknown.ensures (c.in_ok-factor.ensures.variable ∙ ap (term (single c.jet_number-raised.result)) (c.neg.ensures ∙ ap neg_ℤ c.one.ensures)) (c.jet_number-raised.ensures.number ∙ ap (number S) c.raise_jet.ensures.raised) h) c.put_derived.ensures.sum

pub returns-clause-past : goal.returns-clause-past
returns-clause-past c =
    let S = c.args.space in
    if_err c.put_derived.result (λ fail h. multiple_cause S c.args.k c.args.jet.now.dep (take S.p c.args.jet.now.counts) c.args.i fail (negsuc 0) c.args.sum.now (derivative_of c.unknown.result) c.in_ok-factor.factor c.jet_number-raised.result
    refl c.unknown.ensures (c.in_ok-factor.ensures.variable ∙ ap (term (single c.jet_number-raised.result)) (c.neg.ensures ∙ ap neg_ℤ c.one.ensures)) (c.jet_number-raised.ensures.number ∙ ap (number S) c.raise_jet.ensures.raised) h) c.put_derived.ensures.past
