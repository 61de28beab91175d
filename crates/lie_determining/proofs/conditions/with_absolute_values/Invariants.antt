use Rattle.std.proofs.Common.{◌≡◌, map, take}
use Rattle.lie_math.specs.Limits.{absolute}
use Rattle.lie_math.specs.LinearForm.{each_coefficient}
use Rattle.lie_determining.proofs.conditions.with_absolute_values.Given as goal

abbrev pub invariant-loop-form : goal.invariant-loop-form
invariant-loop-form l = l.made.items ≡ map (each_coefficient absolute) (take l.form-index l.forms)
