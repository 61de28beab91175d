use Rattle.std.proofs.Common.{◌≡◌, ◌++◌, drop}
use Rattle.std.specs.Prelude.{filter, not, ◌==◌}
use Rattle.lie_readback.proofs.drafts.push_names.Given as goal

abbrev pub invariant-loop-byte : goal.invariant-loop-byte
invariant-loop-byte l = l.names.items ++ filter (λ b. not (b == 32)) (drop l.byte-index l.letters) ≡ l.fn.names.items ++ filter (λ b. not (b == 32)) l.letters
