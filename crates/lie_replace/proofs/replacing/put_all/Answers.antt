use Rattle.std.proofs.Common.{◌≡◌, ◌∙◌, sym, ap, map, unsigned_abs}
use Rattle.std.proofs.lemmas.Result.{err_from_is_err_and}
use Rattle.lie_math.specs.Limits.{absolute}
use Rattle.lie_math.specs.LinearForm.{LinearForm, ◌+ᶠ◌}
use Rattle.lie_math.specs.Polynomial.{WholePolynomial, 0ᴾ}
use Rattle.lie_jet.specs.Derivatives.{derivative_of}
use Rattle.lie_jet.specs.declared.derivative.Der.{Der}
use Rattle.lie_form.specs.DerivativeTerms.{derivative_terms}
use Rattle.lie_geometry.proofs.AbsoluteForms.{entry_absolutes}
use Rattle.lie_form.proofs.FormSteps.{entries_step}
use Rattle.lie_lin.specs.Systems.{unknown_of}
use Rattle.lie_normal.specs.Orders.{Entry}
use Rattle.lie_replace.specs.Replacing.{form_of, put_in_term}
use Rattle.lie_normal.proofs.Falling.{entry_at}
use Rattle.lie_replace.proofs.IteratedSteps.{entries_bounded}
use Rattle.lie_replace.proofs.ReplacingSteps.{put_bound, part_told}
use Rattle.lie_replace.proofs.replacing.put_all.Goals as goal

pub put_term-requires-clause-apart : goal.put_term-requires-clause-apart
put_term-requires-clause-apart c =
    entry_at (λ (t : Der × WholePolynomial). (derivative_of t.0, t.1)) (λ (e : Entry). ¬ (e.1 ≡ 0ᴾ)) c.args.terms.now c.loop-term.term-index c.term-item.result c.loop-term-test.true c.term-item.is c.requires.apart

pub returns-in_err-put_term-clause-past : goal.returns-in_err-put_term-clause-past
returns-in_err-put_term-clause-past c =
    let us = map unknown_of c.args.unknowns.now in
    let W = form_of (derivative_terms c.args.form.now) in
    let B = form_of (entry_absolutes (derivative_terms c.args.form.now)) in
    let L = unsigned_abs c.args.divisor in
    let p = err_from_is_err_and c.from_residual.result c.from_residual.ensures.1 in
    rw (p.1, p.2) (part_told (put_in_term us c.args.number W L) (λ d a. put_in_term us c.args.number B L d (absolute a)) (put_bound us c.args.number W B L (entries_bounded (derivative_terms c.args.form.now)))
    c.in_err-put_term.field-0.0 c.loop-term.sum c.args.terms.now c.loop-term.term-index c.term-item.result c.loop-term-test.true c.term-item.is c.loop-term.invariant c.in_err-put_term.ensures.past)

pub loop-term-preserved : goal.loop-term-preserved
loop-term-preserved c =
    let φ = put_in_term (map unknown_of c.args.unknowns.now) c.args.number (form_of (derivative_terms c.args.form.now)) (unsigned_abs c.args.divisor) in
    c.in_ok-put_term.ensures.sum ∙ ap (λ (E : LinearForm). E +ᶠ φ (derivative_of c.term-item.result.0) c.term-item.result.1) c.loop-term.invariant
    ∙ sym (entries_step φ c.args.terms.now c.loop-term.term-index c.term-item.result c.loop-term-test.true c.term-item.is)
