use Rattle.std.proofs.Common.{◌≡◌}
use Rattle.lie_solve.proofs.StepRuns.{IsRunning}
use Rattle.lie_solve.proofs.runs.run_indexed.Given as goal

abbrev pub invariant-loop-made : goal.invariant-loop-made
invariant-loop-made l =
    record { running : IsRunning l.fn.indexed.system l.budget l.made l.indexed.system; space : l.indexed.space ≡ l.fn.indexed.space }
