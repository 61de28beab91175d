use Rattle.std.proofs.Common.{◌≡◌, false, take}
use Rattle.std.specs.List.{list_any}
use Rattle.lie_steps.specs.Equations.{mentions}
use Rattle.lie_change.proofs.mentioning.any_mentions.Given as goal

abbrev pub invariant-loop-form : goal.invariant-loop-form
invariant-loop-form l = list_any (mentions l.number) (take l.form-index l.forms) ≡ false
