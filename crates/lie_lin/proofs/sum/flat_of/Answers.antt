use Rattle.std.proofs.Common.{◌≡◌, subst}
use Rattle.std.specs.Prelude.{IfOk, IfErr, OnOk}
use Rattle.lie_math.specs.Polynomial.{polynomial_of}
use Rattle.lie_math.specs.Limits.{IsWithinLimits, absolutes}
use Rattle.lie_ring.specs.Causes.{IsCause}
use Rattle.lie_lin.proofs.sum.flat_of.Goals as goal
use Rattle.lie_jet.proofs.TotalParts.{entries_same}

pub returns-clause-value : goal.returns-clause-value
returns-clause-value c = subst (λ es. IfOk c.of_terms.result (λ flat. flat ≡ polynomial_of es)) (entries_same c.args.terms.now) c.of_terms.ensures.sum

pub returns-clause-fits : goal.returns-clause-fits
returns-clause-fits c = subst (λ es. OnOk c.of_terms.result (IsWithinLimits (polynomial_of (absolutes es)))) (entries_same c.args.terms.now) c.of_terms.ensures.fits

pub returns-clause-past : goal.returns-clause-past
returns-clause-past c = subst (λ es. IfErr c.of_terms.result (λ fail. IsCause fail (polynomial_of (absolutes es)))) (entries_same c.args.terms.now) c.of_terms.ensures.past
