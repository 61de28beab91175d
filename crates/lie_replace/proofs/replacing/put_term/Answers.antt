use Rattle.std.proofs.Common.{◌≡◌, ◌∙◌, ap, ℕ, ℤ, Bool, refl, map, eqb, eqb-true, true, false, unsigned_abs}
use Rattle.std.proofs.lemmas.Result.{err_from_is_err_and}
use Rattle.lie_math.specs.Polynomial.{constant, ◌*ᴾ◌}
use Rattle.lie_jet.specs.Derivatives.{derivative_of}
use Rattle.lie_form.specs.DerivativeTerms.{derivative_terms}
use Rattle.lie_geometry.proofs.AbsoluteForms.{entry_absolutes}
use Rattle.lie_lin.specs.Systems.{unknown_of}
use Rattle.lie_replace.specs.Replacing.{form_of}
use Rattle.lie_replace.proofs.ReplacingSteps.{scaled_told, put_told}
use Rattle.lie_replace.proofs.replacing.put_term.Goals as goal

other_number : (m n : ℕ) → ¬ (m ≡ n) → eqb m n ≡ false
other_number m n h = by (eqb m n) refl
  where
    by : (t : Bool) → eqb m n ≡ t → eqb m n ≡ false
    by true e = absurd (h (eqb-true m n e))
    by false e = e

pub returns-in_err-scaled-clause-past : goal.returns-in_err-scaled-clause-past
returns-in_err-scaled-clause-past c =
    let p = err_from_is_err_and c.from_residual.result c.from_residual.ensures.1 in
    rw (p.1, p.2) (scaled_told (map unknown_of c.args.unknowns.now) c.args.number (form_of (entry_absolutes (derivative_terms c.args.form.now))) (unsigned_abs c.args.divisor) c.args.sum.now (derivative_of c.args.term.now.0) c.args.term.now.1
    (other_number c.args.term.now.0.unknown c.args.number c.if-term-number.false) c.in_err-scaled.field-0.0 c.in_err-scaled.ensures.past)

pub returns-in_err-put-clause-past : goal.returns-in_err-put-clause-past
returns-in_err-put-clause-past c =
    let p = err_from_is_err_and c.from_residual-in_err-put.result c.from_residual-in_err-put.ensures.1 in
    rw (p.1, p.2) (put_told (map unknown_of c.args.unknowns.now) c.args.number (form_of (entry_absolutes (derivative_terms c.args.form.now))) (unsigned_abs c.args.divisor) c.args.sum.now (derivative_of c.args.term.now.0) c.args.term.now.1
    (other_number c.args.term.now.0.unknown c.args.number c.if-term-number.false) c.in_err-put.field-0.0 c.in_ok-scaled.scaled (c.in_ok-scaled.ensures.multiple ∙ ap (λ (z : ℤ). constant z *ᴾ c.args.term.now.1) c.requires.divisor) c.in_err-put.ensures.past)
