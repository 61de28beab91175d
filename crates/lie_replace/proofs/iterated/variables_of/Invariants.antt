use Rattle.std.proofs.Common.{◌≡◌, ◌<◌, take}
use Rattle.std.specs.List.{AllByRecursion as Every}
use Rattle.lie_replace.specs.Replacing.{variables_of}
use Rattle.lie_replace.proofs.iterated.variables_of.Given as goal

abbrev pub invariant-loop-var : goal.invariant-loop-var
invariant-loop-var l = record {
  variables : l.vars.items ≡ variables_of (take l.var l.der.counts);
  within : Every (λ v. v < 8) l.vars.items;
}
