use Rattle.std.proofs.Common.{map}
use Rattle.lie_lin.specs.Systems.{unknown_of}
use Rattle.lie_cross.proofs.DependentUnknowns.{both_kinds, one_kind}
use Rattle.lie_cross.proofs.isolate.is_mixed.Goals as goal

pub returns-then-some_is : goal.returns-then-some_is
returns-then-some_is c =
    both_kinds
    (map unknown_of c.args.unknowns.now) c.args.equation.now c.args.var c.some_is-then-some_is.result c.if-some_is.ensures
    c.some_is-then-some_is.ensures

pub returns-else-some_is : goal.returns-else-some_is
returns-else-some_is c =
    rw c.if-some_is.false (one_kind (map unknown_of c.args.unknowns.now) c.args.equation.now c.args.var c.if-some_is.ensures)
