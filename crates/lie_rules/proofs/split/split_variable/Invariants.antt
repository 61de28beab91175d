use Rattle.std.proofs.Common.{ℕ, ◌<◌}
use Rattle.lie_steps.specs.Split.{IsSplitBy}
use Rattle.lie_rules.proofs.split.split_variable.Given as goal

abbrev pub invariant-loop-var : goal.invariant-loop-var
invariant-loop-var l = (w : ℕ) → w < l.var → ¬ (IsSplitBy l.system.system.unknowns l.eq w)
