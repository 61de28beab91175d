use Rattle.std.proofs.Common.{◌≡◌, take}
use Rattle.lie_parts.specs.Parts.{is_inside}
use Rattle.lie_parts.proofs.Restricted.{pairs_in}
use Rattle.lie_parts.proofs.parts.inner.Given as goal

abbrev pub invariant-loop-pair : goal.invariant-loop-pair
invariant-loop-pair l = l.pairs.items ≡ pairs_in (is_inside l.inside) (take l.pair-index l.pair-items)
