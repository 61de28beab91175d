use Rattle.std.proofs.Common.{◌≡◌, take}
use Rattle.std.specs.List.{Any}
use Rattle.lie_replace.specs.Cleaning.{taken_back, AreFilled}
use Rattle.lie_lin.specs.EquationLists.{Adds, IsEquationOf}
use Rattle.lie_tables.specs.Tables.{Follows}
use Rattle.lie_replace.proofs.cleaning.put_each.Given as goal

abbrev pub invariant-loop-form : goal.invariant-loop-form
invariant-loop-form l = record {
  added : Adds (λ e. Any (λ E. IsEquationOf E e) (take l.form-index l.forms)) l.initial.equations.items l.equations.items;
  filled : AreFilled l.places.items l.equations.items;
  indexed : Follows l.initial.tables l.tables l.equations.items;
  back : taken_back l.places.items l.equations.items ≡ taken_back l.initial.places.items l.initial.equations.items;
}
