use Rattle.std.proofs.Common.{take}
use Rattle.lie_reduce.proofs.AbsoluteRules.{AreAbsoluteRules}
use Rattle.lie_reduce.proofs.sizes.absolute_rules.Given as goal

abbrev pub invariant-loop-rule : goal.invariant-loop-rule
invariant-loop-rule l = AreAbsoluteRules (take l.rule-index l.rules) l.made.items
