use Rattle.std.proofs.Common.{map, take}
use Rattle.lie_system.specs.Equations.{equation_read}
use Rattle.lie_solved.specs.Equations.{AreRules}
use Rattle.lie_solved.proofs.form.rules_of.Given as goal

abbrev pub invariant-loop-i : goal.invariant-loop-i
invariant-loop-i l = AreRules l.space (map (equation_read l.space) (take l.i l.equations)) l.rules.items
