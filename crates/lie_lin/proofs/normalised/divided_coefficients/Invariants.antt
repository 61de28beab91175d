use Rattle.std.proofs.Common.{◌≡◌, take}
use Rattle.lie_math.specs.Polynomial.{term}
use Rattle.lie_systems.proofs.Triples.{each_times}
use Rattle.lie_lin.specs.Forms.{coefficients_of}
use Rattle.lie_lin.proofs.normalised.divided_coefficients.Given as goal

abbrev pub invariant-loop-term : goal.invariant-loop-term
invariant-loop-term l = each_times (term l.mono l.number) (coefficients_of l.out.items) ≡ coefficients_of (take l.term-index l.terms)
