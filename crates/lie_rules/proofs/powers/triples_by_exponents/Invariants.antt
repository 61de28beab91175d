use Rattle.std.proofs.Common.{◌≡◌, suc, take}
use Rattle.lie_lin.specs.Forms.{triples_of}
use Rattle.lie_rules.specs.Powers.{by_exponents, groups_of}
use Rattle.lie_rules.proofs.powers.triples_by_exponents.Given as goal

abbrev pub invariant-loop-triple : goal.invariant-loop-triple
invariant-loop-triple l = groups_of l.groups.items ≡ by_exponents l.var 0 (suc l.degree) (triples_of (take l.triple-index l.triple-items))
