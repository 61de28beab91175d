use Rattle.std.proofs.Common.{arith, sym, ap, ◌∙◌, ◌++◌, ◌∷◌, [], append-nil}
use Rattle.lie_lin.specs.Forms.{coefficients_of}
use Rattle.lie_jet.specs.Derivatives.{derivative_of}
use Rattle.lie_lin.proofs.Forms.{coefficients_of-append}
use Rattle.lie_lin.proofs.Gathering.{unless_zero_none, unless_zero_some}
use Rattle.lie_lin.proofs.sum.push_unless_zero.Goals as goal

pub returns-then-len-eq0 : goal.returns-then-len-eq0
returns-then-len-eq0 c = sym (ap (λ es. coefficients_of c.args.terms.now.items ++ es) (unless_zero_none (derivative_of c.args.der.now) c.args.coefficient (omega (arith, c.len.ensures.count))) ∙ append-nil (coefficients_of c.args.terms.now.items))

pub returns : goal.returns
returns c =
    ap coefficients_of c.in_ok-push.ensures.items ∙ coefficients_of-append c.args.terms.now.items ((c.args.der.now, c.args.coefficient) ∷ [])
    ∙ ap (λ es. coefficients_of c.args.terms.now.items ++ es) (sym (unless_zero_some (derivative_of c.args.der.now) c.args.coefficient (λ e. c.if-len-eq0.false (c.len.ensures.count ∙ e))))
