use Rattle.std.specs.Prelude.{◌*ℤ◌}
use Rattle.lie_integral.proofs.ExactAnswers.{exact_answer}
use Rattle.lie_integral.proofs.LowestFractions.{multiple_wide, multiple_is}
use Rattle.lie_integral.proofs.fractions.common_multiple.Goals as goal

pub exact_quotient-requires-clause-divides : goal.exact_quotient-requires-clause-divides
exact_quotient-requires-clause-divides c = c.common_divisor-common.ensures.divisor.0

pub returns : goal.returns
returns c =
    exact_answer c.mul.result (c.exact_quotient.result *ℤ c.args.other) c.mul.ensures
    (multiple_wide c.args.number c.args.other c.common_divisor-common.result c.exact_quotient.result c.requires.number c.requires.other
    c.common_divisor-common.ensures.positive c.common_divisor-common.ensures.divisor c.exact_quotient.ensures)
    (multiple_is c.args.number c.args.other c.common_divisor-common.result c.exact_quotient.result c.requires.number c.requires.other
    c.common_divisor-common.ensures.positive c.common_divisor-common.ensures.divisor c.exact_quotient.ensures)
