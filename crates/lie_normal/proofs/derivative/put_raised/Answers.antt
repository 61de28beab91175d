use Rattle.std.proofs.Common.{◌∙◌, sym, ap, map, arith}
use Rattle.lie_jet.specs.Derivatives.{derivative_of}
use Rattle.lie_lin.specs.Systems.{unknown_of}
use Rattle.lie_math.specs.Canonical.{idr}
use Rattle.lie_math.specs.FiniteSumLaws as finite_laws
use Rattle.lie_math.specs.Limits.{absolute}
use Rattle.lie_math.specs.LinearForm.{forms, LinearForm, ◌+ᶠ◌, each_coefficient}
use Rattle.std.proofs.lemmas.Result.{err_from_is_err_and}
use Rattle.lie_ring.specs.declared.failures.PolyFail.TheVariants.{NoMemory}
use Rattle.lie_normal.specs.TermSums.{raised_term}
use Rattle.lie_form.proofs.FormSteps.{count_low, starved_cause}
use Rattle.lie_jet.proofs.TotalSteps.{if_err, on_ok}
use Rattle.lie_normal.proofs.DerivativeSteps.{raised_none, raised_cause, raised_put}
use Rattle.lie_normal.proofs.derivative.put_raised.Goals as goal

pub returns-then-not-depends-clause-sum : goal.returns-then-not-depends-clause-sum
returns-then-not-depends-clause-sum c =
    sym (ap (λ (K : LinearForm). c.args.sum.now +ᶠ K) (raised_none (map unknown_of c.args.unknowns.now) c.args.var (derivative_of c.args.term.now.0) c.args.term.now.1 (sym c.if-not-depends.ensures) c.args.term.now.1) ∙ idr (finite_laws.adder forms) c.args.sum.now)

pub returns-in_err-same-clause-past : goal.returns-in_err-same-clause-past
returns-in_err-same-clause-past c =
    let p = err_from_is_err_and c.from_residual.result c.from_residual.ensures.1 in
    let known : Unit {0} = tt in
    rw (p.1, p.2) (starved_cause NoMemory (each_coefficient absolute c.args.sum.now +ᶠ raised_term (map unknown_of c.args.unknowns.now) c.args.var (derivative_of c.args.term.now.0) (absolute c.args.term.now.1)) known)

pub raise_derivative-requires-clause-low : goal.raise_derivative-requires-clause-low
raise_derivative-requires-clause-low c = count_low c.args.term.now.0 c.args.var (let low = c.requires.low (sym c.if-not-depends.ensures) in omega arith)

pub returns-clause-sum : goal.returns-clause-sum
returns-clause-sum c =
    on_ok c.put.result (λ h. raised_put (map unknown_of c.args.unknowns.now) c.args.var (derivative_of c.args.term.now.0) c.args.term.now.1 c.args.sum.now c.put.new.self (derivative_of c.raise_derivative.result) c.in_ok-same.same (sym c.if-not-depends.ensures) c.raise_derivative.ensures c.in_ok-same.ensures h) c.put.ensures.sum

pub returns-clause-past : goal.returns-clause-past
returns-clause-past c =
    if_err c.put.result (λ fail h. raised_cause (map unknown_of c.args.unknowns.now) c.args.var (derivative_of c.args.term.now.0) c.args.term.now.1 fail c.args.sum.now (derivative_of c.raise_derivative.result) c.in_ok-same.same (sym c.if-not-depends.ensures) c.raise_derivative.ensures c.in_ok-same.ensures h) c.put.ensures.past
