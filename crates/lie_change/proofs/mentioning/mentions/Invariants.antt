use Rattle.std.proofs.Common.{◌≡◌, false, take}
use Rattle.std.specs.List.{list_any}
use Rattle.lie_change.proofs.MentionSteps.{is_kept_of}
use Rattle.lie_change.proofs.mentioning.mentions.Given as goal

abbrev pub invariant-loop-term : goal.invariant-loop-term
invariant-loop-term l = list_any (is_kept_of l.number) (take l.term-index l.term-items) ≡ false
