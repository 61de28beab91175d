use Rattle.std.proofs.Common.{map}
use Rattle.lie_lin.specs.Systems.{unknown_of}
use Rattle.lie_steps.specs.Integrate.{IsIntegrable}
use Rattle.lie_rules.proofs.GreatestSearch.{StandFrom}
use Rattle.lie_rules.proofs.integrate.integrable_for_greatest.Given as goal

abbrev pub invariant-loop-term : goal.invariant-loop-term
invariant-loop-term l = StandFrom (IsIntegrable (map unknown_of l.unknowns) l.eq) l.term-index l.term-items
