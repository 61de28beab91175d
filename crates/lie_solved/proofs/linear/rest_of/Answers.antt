use Rattle.std.proofs.Common.{sym, ap, subst, ◌∙◌}
use Rattle.std.specs.Prelude.{ℤ, List}
use Rattle.lie_math.specs.Limits.{IsWithinLimits, absolutes}
use Rattle.lie_math.specs.Monomial.{Monomial}
use Rattle.lie_math.specs.Polynomial.{polynomial_of}
use Rattle.lie_jet.proofs.TotalParts.{if_ok}
use Rattle.lie_solved.specs.Equations.{rest_of}
use Rattle.lie_solved.proofs.OtherTerms.{rest_within}
use Rattle.lie_solved.proofs.linear.rest_of.Goals as goal

pub sum_within_limits-requires : goal.sum_within_limits-requires
sum_within_limits-requires c =
    subst (λ (es : List (Monomial × ℤ)). IsWithinLimits (polynomial_of (absolutes es))) (sym (c.as_slice.ensures.value ∙ c.in_ok-rest.ensures ∙ ap (rest_of c.args.number c.args.negative) (sym c.requires)))
    (rest_within c.args.number c.args.negative c.args.poly.now c.is_within_limits.ensures)

pub returns : goal.returns
returns c =
    if_ok c.sum_within_limits.result (λ sum is. is ∙ ap polynomial_of (c.as_slice.ensures.value ∙ c.in_ok-rest.ensures ∙ ap (rest_of c.args.number c.args.negative) (sym c.requires)))
    c.sum_within_limits.ensures
