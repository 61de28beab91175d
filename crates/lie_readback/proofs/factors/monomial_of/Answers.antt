use Rattle.lie_readback.proofs.CountSteps.{monomial_read, monomial_none}
use Rattle.lie_readback.proofs.factors.monomial_of.Goals as goal

pub returns-in-Some : goal.returns-in-Some
returns-in-Some c = monomial_read c.args.powers.now c.in-Some.monomial (rw c.in-Some.is at c.in_ok-monomial.ensures)

pub returns-in-None : goal.returns-in-None
returns-in-None c = monomial_none c.args.powers.now (rw c.in-None.is at c.in_ok-monomial.ensures)
