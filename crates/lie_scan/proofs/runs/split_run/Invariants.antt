use Rattle.lie_scan.proofs.RunSteps.{IsRunSoFar}
use Rattle.lie_scan.proofs.runs.split_run.Given as goal

abbrev pub invariant-loop-i : goal.invariant-loop-i
invariant-loop-i l = IsRunSoFar l.class l.bytes l.i
