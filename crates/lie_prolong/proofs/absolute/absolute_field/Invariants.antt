use Rattle.std.proofs.Common.{◌≡◌, map, take}
use Rattle.lie_math.specs.Limits.{absolute}
use Rattle.lie_prolong.proofs.absolute.absolute_field.Given as goal

abbrev pub invariant-loop-part : goal.invariant-loop-part
invariant-loop-part l = l.parts.items ≡ map absolute (take l.part-index l.part-items)
