use Rattle.std.proofs.Common.{◌≡◌, drop}
use Rattle.lie_replace.specs.Replacing.{meets}
use Rattle.lie_replace.proofs.lasting.meets.Given as goal

abbrev pub invariant-loop-var : goal.invariant-loop-var
invariant-loop-var l = meets (drop l.var-index l.needs) l.mono ≡ meets l.needs l.mono
