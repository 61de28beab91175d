use Rattle.std.proofs.Common.{length}
use Rattle.lie_poly.proofs.sum.+tally_terms.Given as goal

abbrev pub decreases-tally_terms : goal.decreases-tally_terms
decreases-tally_terms g l = length l.terms.now
