use Rattle.lie_canonical.proofs.RightSideSteps.{equal_fits}
use Rattle.lie_canonical.proofs.right_side.push_turned.Goals as goal

pub one_minus-requires : goal.one_minus-requires
one_minus-requires c = equal_fits c.in-Some.lead c.in_ok-monomial.monomial c.args.term.now c.compare.result (rw c.in-Some.is at c.requires.fits) c.in_ok-monomial.ensures c.compare.ensures c.in-Equal.is
