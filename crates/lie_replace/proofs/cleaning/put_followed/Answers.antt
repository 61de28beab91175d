use Rattle.std.proofs.Common.{sym, subst}
use Rattle.std.proofs.Common.{◌≡◌}
use Rattle.lie_lin.specs.EquationLists.{Adds}
use Rattle.lie_tables.specs.Tables.{IsIndexOf}
use Rattle.lie_replace.proofs.cleaning.put_followed.Goals as goal

pub follow-requires-clause-place : goal.follow-requires-clause-place
follow-requires-clause-place c = (rw c.in-Some.is at c.in_ok-insert_equation.ensures.place).within

pub follow-requires-clause-indexed : goal.follow-requires-clause-indexed
follow-requires-clause-indexed c =
    subst (IsIndexOf c.args.tables.now) (sym (rw c.in-Some.is at c.in_ok-insert_equation.ensures.place).without) c.requires.indexed

pub returns-in_ok-follow-in-Some-clause-added : goal.returns-in_ok-follow-in-Some-clause-added
returns-in_ok-follow-in-Some-clause-added c =
    subst (Adds (λ e. e ≡ c.args.eq) c.args.equations.now.items) (sym c.in_ok-follow-in-Some.ensures.noted) c.in_ok-insert_equation.ensures.added
