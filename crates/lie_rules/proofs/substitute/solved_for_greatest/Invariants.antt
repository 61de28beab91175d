use Rattle.std.proofs.Common.{map}
use Rattle.lie_lin.specs.Systems.{unknown_of}
use Rattle.lie_steps.specs.Substitute.{IsSubstitutable}
use Rattle.lie_rules.proofs.GreatestSearch.{StandFrom}
use Rattle.lie_rules.proofs.substitute.solved_for_greatest.Given as goal

abbrev pub invariant-loop-term : goal.invariant-loop-term
invariant-loop-term l = StandFrom (IsSubstitutable (map unknown_of l.unknowns) l.eq) l.term-index l.term-items
