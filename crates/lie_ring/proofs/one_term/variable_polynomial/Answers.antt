use Rattle.std.proofs.Common.{sym, subst}
use Rattle.lie_math.specs.Limits.{HasLowExponents}
use Rattle.lie_ring.proofs.OneTerm.{low_single}
use Rattle.lie_ring.proofs.one_term.variable_polynomial.Goals as goal

pub term_polynomial-requires : goal.term_polynomial-requires
term_polynomial-requires g c = subst HasLowExponents (sym c.variable.ensures) (low_single c.args.number)
