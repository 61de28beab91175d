use Rattle.std.proofs.Common.{◌≡◌, map, take}
use Rattle.std.specs.Prelude.{unsigned_abs}
use Rattle.lie_steps.specs.Replacement.{divided_by}
use Rattle.lie_change.proofs.dividing.divided_forms.Given as goal

abbrev pub invariant-loop-form : goal.invariant-loop-form
invariant-loop-form l = l.made.items ≡ map (divided_by (unsigned_abs l.divisor)) (take l.form-index l.forms)
