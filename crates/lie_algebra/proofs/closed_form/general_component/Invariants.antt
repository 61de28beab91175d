use Rattle.std.specs.Prelude.{◌≡◌, ◌+◌, ◌≤◌, drop, length}
use Rattle.lie_lin.specs.Forms.{coefficients_of}
use Rattle.lie_algebra.proofs.ClosedTerms.{falling_terms}
use Rattle.lie_algebra.proofs.closed_form.general_component.Given as goal

abbrev pub invariant-loop-left : goal.invariant-loop-left
invariant-loop-left l = record {
  within : l.left ≤ length l.basis;
  terms : coefficients_of l.terms.items ≡ falling_terms l.component (drop l.left l.basis) (l.left + 1);
}

abbrev pub decreases-loop-left : goal.decreases-loop-left
decreases-loop-left l = l.left
