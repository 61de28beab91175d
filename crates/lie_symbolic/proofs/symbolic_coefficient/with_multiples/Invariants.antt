use Rattle.std.specs.Prelude.{negsuc}
use Rattle.std.proofs.Common.{◌≡◌, take}
use Rattle.lie_math.specs.Derivation.{numbers_below}
use Rattle.lie_math.specs.LinearForm.{◌+ᶠ◌}
use Rattle.lie_geometry.specs.SymbolicProlongation.{forms_over, symbolic_total}
use Rattle.lie_symbolic.proofs.SymbolicSteps.{signed}
use Rattle.lie_symbolic.proofs.symbolic_coefficient.with_multiples.Given as goal

abbrev pub invariant-loop-i : goal.invariant-loop-i
invariant-loop-i l = l.sum ≡ symbolic_total l.space l.k l.before +ᶠ forms_over (numbers_below l.i) (signed l.space l.k l.jet.dep (take l.space.p l.jet.counts) (negsuc 0))
