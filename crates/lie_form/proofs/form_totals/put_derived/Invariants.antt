use Rattle.std.proofs.Common.{◌≡◌}
use Rattle.lie_math.specs.Counts.{raised}
use Rattle.lie_math.specs.Derivation.{numbers_below}
use Rattle.lie_math.specs.LinearForm.{◌+ᶠ◌, form_term}
use Rattle.lie_geometry.specs.SymbolicProlongation.{forms_over}
use Rattle.lie_jet.specs.Derivatives.{derivative_of}
use Rattle.lie_form.specs.FormTotals.{dependent_term}
use Rattle.lie_form.proofs.form_totals.put_derived.Given as goal

abbrev pub invariant-loop-b : goal.invariant-loop-b
invariant-loop-b l = l.sum ≡ l.fn.sum +ᶠ (form_term (raised l.i (derivative_of l.der)) l.poly +ᶠ forms_over (numbers_below l.b) (dependent_term l.space l.i (derivative_of l.der) l.poly))
