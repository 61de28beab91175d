use Rattle.std.proofs.Common.{arith, sym, subst, List, []}
use Rattle.lie_math.specs.LinearForm.{LinearForm}
use Rattle.lie_determining.specs.Equations.{IsPartOf, IsNormalisedPart}
use Rattle.lie_lin.specs.EquationLists.{Adds}
use Rattle.lie_lin.proofs.AddedEquations.{adds_more, adds_none, adds_all, no_equations_sorted}
use Rattle.lie_determining.proofs.EquationSteps.{equations_are}
use Rattle.lie_determining.proofs.equations.equations_of.Goals as goal

pub loop-condition-init : goal.loop-condition-init
loop-condition-init c = subst (λ (es : List LinearForm). Adds (IsNormalisedPart c.args.space []) [] es) (sym c.new-equations.ensures.items) (adds_none (IsPartOf c.args.space) [] no_equations_sorted)

pub loop-condition-preserved : goal.loop-condition-preserved
loop-condition-preserved c =
    adds_more (IsPartOf c.args.space) c.args.conditions.now c.loop-condition.condition-index c.condition-item.result [] c.loop-condition.equations.items c.put_condition.new.equations.items
    c.loop-condition-test.true c.condition-item.is c.loop-condition.invariant c.in_ok-put_condition.ensures

pub returns : goal.returns
returns c =
    equations_are c.args.space c.args.conditions.now c.loop-condition.equations.items
    (adds_all (IsPartOf c.args.space) c.args.conditions.now c.loop-condition.condition-index [] c.loop-condition.equations.items (omega (arith, c.loop-condition-test.false)) c.loop-condition.invariant)
