use Rattle.std.proofs.Common.{◌≡◌, take}
use Rattle.lie_math.specs.Limits.{absolutes}
use Rattle.lie_lin.proofs.sum.sizes_of.Given as goal

abbrev pub invariant-loop-mono : goal.invariant-loop-mono
invariant-loop-mono l = l.sizes.items ≡ absolutes (take l.mono-index l.terms)
