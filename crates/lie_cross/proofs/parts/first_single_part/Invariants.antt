use Rattle.std.proofs.Common.{map, take}
use Rattle.lie_cross.specs.Isolate.{IsEarliest}
use Rattle.lie_cross.proofs.OuterParts.{bucket_sum}
use Rattle.lie_cross.proofs.parts.first_single_part.Given as goal

abbrev pub invariant-loop-bucket : goal.invariant-loop-bucket
invariant-loop-bucket l = IsEarliest (map bucket_sum (take l.bucket-index l.bucket-items)) l.first
