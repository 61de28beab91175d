use Rattle.std.proofs.Common.{◌≡◌, take}
use Rattle.std.specs.Prelude.{min, ◌==◌}
use Rattle.std.specs.List.{count_by}
use Rattle.lie_readback.proofs.factors.count_in.Given as goal

abbrev pub invariant-loop-byte : goal.invariant-loop-byte
invariant-loop-byte l = l.count ≡ min (count_by (λ b. b == l.letter) (take l.byte-index l.text)) 255
