use Rattle.std.specs.Prelude.{◌≡◌, map}
use Rattle.std.specs.List.{range_with_len}
use Rattle.lie_spans.specs.ClosedSystems.{component_form}
use Rattle.lie_algebra.proofs.closed_form.general_form.Given as goal

abbrev pub invariant-loop-component : goal.invariant-loop-component
invariant-loop-component l = l.forms.items ≡ map (λ s. component_form s l.basis 1) (range_with_len 0 l.component)
