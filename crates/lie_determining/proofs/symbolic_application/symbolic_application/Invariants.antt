use Rattle.std.proofs.Common.{◌≡◌, slice_index_or}
use Rattle.lie_math.specs.Derivation.{numbers_below}
use Rattle.lie_math.specs.LinearForm.{no_form, times_form}
use Rattle.lie_math.specs.PartialDerivative.{partial}
use Rattle.lie_geometry.specs.SymbolicProlongation.{forms_over}
use Rattle.lie_reduce.specs.Applications.{sides}
use Rattle.lie_determining.proofs.symbolic_application.symbolic_application.Given as goal

abbrev pub invariant-loop-w : goal.invariant-loop-w
invariant-loop-w l = l.sum ≡ forms_over (numbers_below l.w) (λ w. times_form (partial w (sides l.lead l.rule.c l.sign l.rule.right)) (slice_index_or l.forms w no_form))
