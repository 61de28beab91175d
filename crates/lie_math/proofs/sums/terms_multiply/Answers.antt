use Rattle.lie_math.specs.PolynomialRing.{term_times_term}
use Rattle.lie_math.proofs.sums.terms_multiply.Goals as goal

pub returns : goal.returns
returns c = term_times_term
