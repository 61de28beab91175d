use Rattle.std.proofs.Common.{◌≡◌, ◌<◌, ℕ, max, length, get_or}
use Rattle.lie_cross.proofs.cross.common_multiple.Given as goal

abbrev pub invariant-loop-i : goal.invariant-loop-i
invariant-loop-i l = record {
  places : length l.common.counts ≡ 8;
  unknown : l.common.unknown ≡ l.left.unknown;
  joined : (k : ℕ) → k < l.i → get_or l.common.counts k 0 ≡ max (get_or l.left.counts k 0) (get_or l.right.counts k 0);
}
