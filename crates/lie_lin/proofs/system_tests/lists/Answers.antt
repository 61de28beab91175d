use Rattle.std.proofs.Common.{sym, subst, []}
use Rattle.std.specs.List.Sorted.{IsStrictlySortedBy}
use Rattle.lie_systems.specs.EquationOrder.{equation_cmp}
use Rattle.lie_lin.proofs.AddedEquations.{no_equations_sorted}
use Rattle.lie_lin.proofs.system_tests.lists.Goals as goal

pub put-requires : goal.put-requires
put-requires c = subst (IsStrictlySortedBy equation_cmp) (sym c.new-list.ensures.items) no_equations_sorted
