use Rattle.std.proofs.Common.{◌≡◌, take}
use Rattle.lie_replace.specs.Replacing.{meeting}
use Rattle.lie_replace.proofs.lasting.meeting_terms.Given as goal

abbrev pub invariant-loop-term : goal.invariant-loop-term
invariant-loop-term l = l.kept.items ≡ meeting l.needs (take l.term-index l.terms)
