use Rattle.std.proofs.Common.{◌≡◌, take}
use Rattle.std.specs.Prelude.{map, pos}
use Rattle.lie_math.specs.Polynomial.{constant, ◌*ᴾ◌}
use Rattle.lie_fieldtext.proofs.field_parts.all_divided.Given as goal

abbrev pub invariant-loop-part : goal.invariant-loop-part
invariant-loop-part l = map (λ q. constant (pos l.divisor) *ᴾ q) l.quotients.items ≡ take l.part-index l.parts
