use Rattle.std.specs.Prelude.{[], ◌∷◌, ◌++◌}
use Rattle.std.proofs.Common.{sym, ap, ap₂, ◌∙◌, append-nil, arith}
use Rattle.lie_math.specs.Counts.{Derivative}
use Rattle.lie_math.specs.Polynomial.{WholePolynomial}
use Rattle.lie_lin.specs.Forms.{coefficients_of}
use Rattle.lie_lin.proofs.Forms.{coefficients_of-append}
use Rattle.lie_lin.proofs.Gathering.{unless_zero_none, unless_zero_some}
use Rattle.lie_algebra.proofs.closed_form.push_unknown.Goals as goal

pub returns-then-len-eq0 : goal.returns-then-len-eq0
returns-then-len-eq0 c =
    sym (ap (λ es. coefficients_of c.args.terms.now.items ++ es)
    (unless_zero_none (record { unknown = c.args.number; counts = [] }) c.args.coefficient.now (omega (arith, c.len.ensures.count)))
    ∙ append-nil (coefficients_of c.args.terms.now.items))

pub returns : goal.returns
returns c =
    ap coefficients_of c.in_ok-push.ensures.items
    ∙ coefficients_of-append c.args.terms.now.items ((c.plain.result, c.in_ok-coefficient.coefficient) ∷ [])
    ∙ ap₂ (λ (d : Derivative) (p : WholePolynomial). coefficients_of c.args.terms.now.items ++ (d, p) ∷ []) c.plain.ensures c.in_ok-coefficient.ensures
    ∙ ap (λ es. coefficients_of c.args.terms.now.items ++ es)
    (sym (unless_zero_some (record { unknown = c.args.number; counts = [] }) c.args.coefficient.now (λ e. c.if-len-eq0.false (c.len.ensures.count ∙ e))))
