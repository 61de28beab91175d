use Rattle.std.proofs.Common.{◌≡◌, take, map}
use Rattle.lie_lin.specs.Systems.{unknown_of}
use Rattle.lie_replace.specs.Replacing.{needs_in}
use Rattle.lie_replace.proofs.lasting.needs.Given as goal

abbrev pub invariant-loop-var : goal.invariant-loop-var
invariant-loop-var l = l.found.items ≡ needs_in (map unknown_of l.unknowns) l.vars l.number (take l.var-index l.vars)
