use Rattle.std.proofs.Common.{sym, subst}
use Rattle.lie_math.specs.Limits.{HasLowExponents}
use Rattle.lie_ring.proofs.OneTerm.{low_unit}
use Rattle.lie_ring.proofs.one_term.constant_polynomial.Goals as goal

pub term_polynomial-requires : goal.term_polynomial-requires
term_polynomial-requires g c = subst HasLowExponents (sym c.one.ensures) low_unit
