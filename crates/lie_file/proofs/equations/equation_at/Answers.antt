use Rattle.std.specs.Prelude.{List, ℤ}
use Rattle.std.proofs.Common.{sym, subst, ap, ◌∙◌}
use Rattle.lie_math.specs.Limits.{IsWithinLimits, absolutes}
use Rattle.lie_math.specs.Monomial.{Monomial}
use Rattle.lie_math.specs.Polynomial.{polynomial_of}
use Rattle.lie_file.proofs.EquationLimits.{equation_within}
use Rattle.lie_file.proofs.EquationSteps.{equation_is}
use Rattle.lie_file.proofs.equations.equation_at.Goals as goal

pub sum_within_limits-requires : goal.sum_within_limits-requires
sum_within_limits-requires c =
    subst (λ (ts : List (Monomial × ℤ)). IsWithinLimits (polynomial_of (absolutes ts))) (sym c.as_slice.ensures.value)
    (equation_within c.args.space c.args.names.now c.args.text.now c.in_ok-terms.terms.list.items c.requires.short c.in_ok-terms.ensures)

pub returns-clause-value : goal.returns-clause-value
returns-clause-value c =
    equation_is c.args.space c.args.names.now c.args.text.now c.in_ok-terms.terms.list.items _ c.in_ok-diff.diff c.in_ok-terms.ensures c.lead_of-lead.ensures.value (c.in_ok-diff.ensures ∙ ap polynomial_of c.as_slice.ensures.value)
