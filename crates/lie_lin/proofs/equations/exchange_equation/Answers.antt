use Rattle.std.proofs.Common.{◌≡◌, sym, subst, List, get_or}
use Rattle.std.specs.Prelude.{remove}
use Rattle.std.specs.List.{Contains}
use Rattle.lie_math.specs.LinearForm.{LinearForm}
use Rattle.lie_lin.specs.EquationLists.{HasAlso}
use Rattle.lie_lin.proofs.EquationPlaces.{also_same, also_other}
use Rattle.lie_lin.proofs.equations.exchange_equation.Goals as goal

pub returns-then-branch-clause-put : goal.returns-then-branch-clause-put
returns-then-branch-clause-put c =
    also_same c.args.equations.now.items c.args.eq c.args.place c.args.eq c.requires.ordered c.requires.place
    (subst (λ (es : List LinearForm). c.args.eq ≡ get_or es c.args.place c.args.eq) c.as_slice.ensures.value (rw c.if-branch.true at c.in_ok-is_at.ensures))

pub returns-in-None-clause-put : goal.returns-in-None-clause-put
returns-in-None-clause-put c =
    subst (HasAlso c.args.eq (remove c.args.equations.now.items c.args.place)) (sym c.remove.ensures.items)
    (also_other c.args.equations.now.items c.args.eq c.args.place c.args.eq c.requires.ordered c.requires.place
    (subst (λ (es : List LinearForm). ¬ (get_or es c.args.place c.args.eq ≡ c.args.eq)) c.as_slice.ensures.value (rw c.if-branch.false at c.in_ok-is_at.ensures))
    (subst (λ (es : List LinearForm). Contains es c.args.eq) c.as_slice-2.ensures.value (rw c.in-None.is at c.in_ok-goal.ensures)))
