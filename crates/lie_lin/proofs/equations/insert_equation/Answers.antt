use Rattle.std.proofs.Common.{◌≡◌, sym, subst, List}
use Rattle.std.specs.List.{Contains}
use Rattle.lie_math.specs.LinearForm.{LinearForm}
use Rattle.lie_systems.specs.EquationOrder.{equation_cmp}
use Rattle.lie_lin.specs.EquationLists.{Adds, IsInsertionPoint, IsOneMore}
use Rattle.lie_lin.proofs.AddedEquations.{adds_insert, adds_present, one_more-insert}
use Rattle.lie_lin.proofs.equations.insert_equation.Goals as goal

pub returns-in-None-clause-added : goal.returns-in-None-clause-added
returns-in-None-clause-added c =
    adds_present (λ e. e ≡ c.args.eq) c.args.equations.now.items c.requires
    (λ e q. subst (Contains c.args.equations.now.items) (sym q) (subst (λ (es : List LinearForm). Contains es c.args.eq) c.as_slice.ensures.value (rw c.in-None.is at c.in_ok-place_of.ensures)))

pub returns-in_ok-insert-in-Some-clause-added : goal.returns-in_ok-insert-in-Some-clause-added
returns-in_ok-insert-in-Some-clause-added c =
    subst (Adds (λ e. e ≡ c.args.eq) c.args.equations.now.items) (sym c.in_ok-insert-in-Some.ensures.items)
    (adds_insert c.args.equations.now.items c.args.eq c.in-Some.place c.requires (subst (λ (es : List LinearForm). IsInsertionPoint equation_cmp c.args.eq es c.in-Some.place) c.as_slice.ensures.value (rw c.in-Some.is at c.in_ok-place_of.ensures)))

pub returns-in_ok-insert-in-Some-clause-place : goal.returns-in_ok-insert-in-Some-clause-place
returns-in_ok-insert-in-Some-clause-place c =
    let p : IsInsertionPoint equation_cmp c.args.eq c.args.equations.now.items c.in-Some.place = subst (λ (es : List LinearForm). IsInsertionPoint equation_cmp c.args.eq es c.in-Some.place) c.as_slice.ensures.value (rw c.in-Some.is at c.in_ok-place_of.ensures) in
    subst (IsOneMore c.in-Some.place c.args.equations.now.items) (sym c.in_ok-insert-in-Some.ensures.items) (one_more-insert c.args.equations.now.items c.in-Some.place c.args.eq p.within)
