use Rattle.std.proofs.Common.{subst, sym}
use Rattle.std.specs.List.Sorted.{IsStrictlySortedBy}
use Rattle.lie_systems.specs.EquationOrder.{equation_cmp}
use Rattle.lie_lin.proofs.AddedEquations.{no_equations_sorted}
use Rattle.lie_replace.proofs.cleaning_tests.cleans.Goals as goal

pub put_cleaned-requires-clause-ordered : goal.put_cleaned-requires-clause-ordered
put_cleaned-requires-clause-ordered c = subst (IsStrictlySortedBy equation_cmp) (sym c.new-list.ensures.items) no_equations_sorted
