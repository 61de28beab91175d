use Rattle.std.proofs.Common.{sym, ap, ◌∙◌}
use Rattle.lie_math.specs.Canonical.{sum_of_entries-map}
use Rattle.lie_math.specs.FiniteSumLaws.{sum_of_terms}
use Rattle.lie_math.specs.Polynomial.{polynomials, term, terms}
use Rattle.lie_math.proofs.sums.terms_tell_additive_map.Goals as goal

pub returns : goal.returns
returns c = λ h none plus p. ap h (sym (sum_of_terms terms p)) ∙ sum_of_entries-map polynomials polynomials h none plus term p.list
