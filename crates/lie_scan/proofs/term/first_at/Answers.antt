use Rattle.std.proofs.Common.{subst, sym}
use Rattle.lie_system.specs.Exponents.{HasSmallExponents}
use Rattle.lie_scan.proofs.ExponentSteps.{unit_small}
use Rattle.lie_scan.proofs.term.first_at.Goals as goal

pub factor_at-requires-clause-small : goal.factor_at-requires-clause-small
factor_at-requires-clause-small c = subst HasSmallExponents (sym c.one-in_default.ensures) unit_small

pub returns-in_ok-number-in-len1-up-clause-small : goal.returns-in_ok-number-in-len1-up-clause-small
returns-in_ok-number-in-len1-up-clause-small c = subst HasSmallExponents (sym c.one.ensures) unit_small
