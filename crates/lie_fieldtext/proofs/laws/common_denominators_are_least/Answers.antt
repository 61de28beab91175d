use Rattle.lie_fieldtext.proofs.CommonDenominators.{common_denominator_is}
use Rattle.lie_fieldtext.proofs.laws.common_denominators_are_least.Goals as goal

pub returns : goal.returns
returns c = common_denominator_is
