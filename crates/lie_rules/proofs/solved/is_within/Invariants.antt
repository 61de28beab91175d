use Rattle.std.proofs.Common.{◌≡◌, ◌<◌, ℕ, map}
use Rattle.std.specs.Prelude.{false}
use Rattle.lie_lin.specs.Systems.{unknown_of}
use Rattle.lie_steps.specs.Equations.{depends, Lacks}
use Rattle.lie_rules.proofs.solved.is_within.Given as goal

abbrev pub invariant-loop-var : goal.invariant-loop-var
invariant-loop-var l = (v : ℕ) → v < l.var → depends (map unknown_of l.unknowns) l.number v ≡ false
    → Lacks (map unknown_of l.unknowns) v l.form
