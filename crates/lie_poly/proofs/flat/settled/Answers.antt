use Rattle.std.proofs.Common.{sym, subst, ap, ◌∙◌, reverse}
use Rattle.lie_math.specs.Polynomial.{polynomial_of}
use Rattle.lie_poly.specs.Sorted.{IsSorted}
use Rattle.lie_poly.specs.Tallies.{sums}
use Rattle.lie_poly.proofs.TallyLists.{zeros_sorted, zeros_sum}
use Rattle.lie_poly.proofs.flat.settled.Goals as goal

pub invariant_of-result : goal.invariant_of-result
invariant_of-result g c = subst IsSorted (sym c.in_ok-terms.ensures) (zeros_sorted g.C.Ring.value (reverse c.args.tallies.items) c.requires)

pub returns : goal.returns
returns g c = ap polynomial_of c.in_ok-terms.ensures ∙ zeros_sum (sums g.C.Ring.value (reverse c.args.tallies.items))
