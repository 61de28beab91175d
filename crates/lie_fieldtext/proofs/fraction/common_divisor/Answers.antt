use Rattle.std.proofs.lemmas.Nat.Gcd.{same_from_IsGcd}
use Rattle.lie_math.specs.CommonDivisors.{common_divisor}
use Rattle.lie_math.proofs.CommonDivisors.{common_divisor_is}
use Rattle.lie_fieldtext.proofs.FieldSteps.{divisor_some}
use Rattle.lie_fieldtext.proofs.fraction.common_divisor.Goals as goal

pub returns-clause-value : goal.returns-clause-value
returns-clause-value c = same_from_IsGcd c.args.number c.args.other c.gcd.result (common_divisor c.args.number c.args.other) c.gcd.ensures (common_divisor_is c.args.number c.args.other)

pub returns-clause-some : goal.returns-clause-some
returns-clause-some c = divisor_some c.gcd.result c.args.other c.gcd.ensures.1 c.requires
