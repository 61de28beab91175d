use Rattle.std.proofs.Common.{take, map}
use Rattle.std.specs.List.{AllByRecursion as Every}
use Rattle.lie_lin.specs.Forms.{triples_of}
use Rattle.lie_lin.specs.Systems.{unknown_of}
use Rattle.lie_rules.proofs.SolvedSteps.{TripleLacks}
use Rattle.lie_rules.proofs.solved.occurs.Given as goal

abbrev pub invariant-loop-triple : goal.invariant-loop-triple
invariant-loop-triple l = Every (TripleLacks (map unknown_of l.unknowns) l.var) (triples_of (take l.triple-index l.list))
