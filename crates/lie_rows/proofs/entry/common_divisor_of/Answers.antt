use Rattle.std.proofs.Common.{sym, ap, ap₂, subst, ◌∙◌, refl}
use Rattle.std.proofs.lemmas.Nat.Gcd.{same_from_IsGcd}
use Rattle.lie_math.specs.CommonDivisors.{common_divisor}
use Rattle.lie_math.proofs.CommonDivisors.{common_divisor_is}
use Rattle.lie_rows.proofs.Quotients.{common_divisor-zero, common_divisor-one}
use Rattle.lie_rows.proofs.entry.common_divisor_of.Goals as goal

pub returns-then-a-eq0 : goal.returns-then-a-eq0
returns-then-a-eq0 c = sym (ap (λ a. common_divisor a c.args.b) c.if-a-eq0.true ∙ common_divisor-zero c.args.b)

pub returns-then-b-eq1 : goal.returns-then-b-eq1
returns-then-b-eq1 c = sym (ap (common_divisor c.args.a) c.if-b-eq1.true ∙ common_divisor-one c.args.a)

pub returns : goal.returns
returns c = same_from_IsGcd c.args.a c.args.b c.gcd.result (common_divisor c.args.a c.args.b) c.gcd.ensures (common_divisor_is c.args.a c.args.b)
