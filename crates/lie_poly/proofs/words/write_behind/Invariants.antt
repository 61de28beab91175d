use Rattle.std.proofs.Common.{◌≡◌, drop}
use Rattle.lie_poly.specs.Words.{written_behind}
use Rattle.lie_poly.proofs.words.write_behind.Given as goal

abbrev pub invariant-loop-var : goal.invariant-loop-var
invariant-loop-var l = written_behind l.base l.word (drop l.var-index l.vars) l.mono ≡ written_behind l.base l.number l.vars l.mono
