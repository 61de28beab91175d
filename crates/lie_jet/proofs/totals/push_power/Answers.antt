use Rattle.std.proofs.Common.{ap, subst, ◌∙◌}
use Rattle.std.specs.Prelude.{pos, unsigned_abs, ◌*ℤ◌}
use Rattle.lie_math.specs.Monomial.{◌·◌}
use Rattle.lie_math.specs.PartialDerivative.{lower}
use Rattle.lie_math.specs.Polynomial.{term, variable, ◌+ᴾ◌}
use Rattle.lie_geometry.specs.Prolongation.{total_derivative}
use Rattle.lie_ring.specs.Causes.{IsCause}
use Rattle.lie_jet.specs.Listed.{sum_listed, bulk_listed}
use Rattle.lie_jet.proofs.TotalSteps.{sum_one, bulk_one, slope_times, no_slope, size_times, on_ok, if_err}
use Rattle.lie_jet.proofs.totals.push_power.Goals as goal

pub returns-in-None-clause-sum : goal.returns-in-None-clause-sum
returns-in-None-clause-sum c = no_slope _ _ _ c.in-None.ensures

pub returns-in-None-clause-bulk : goal.returns-in-None-clause-bulk
returns-in-None-clause-bulk c = no_slope _ _ _ c.in-None.ensures

pub returns-clause-sum : goal.returns-clause-sum
returns-clause-sum c =
    let slope = c.in-Some.ensures in
    let z = c.args.term.now.1 *ℤ pos c.args.exponent in
    on_ok c.push_product.result (λ e. sum_one c.args.made.now.items c.push_product.new.made.items (c.in_ok-rest.rest · c.in-Some.slope) z e
    ∙ ap (λ p. sum_listed c.args.made.now.items +ᴾ p) (slope_times c.in-Some.slope c.in_ok-rest.rest (lower c.args.var c.args.term.now.0) z (total_derivative c.args.space c.args.i (variable c.args.var)) c.in_ok-rest.ensures slope))
    c.push_product.ensures.pushed

pub returns-clause-bulk : goal.returns-clause-bulk
returns-clause-bulk c =
    let slope = c.in-Some.ensures in
    let z = c.args.term.now.1 *ℤ pos c.args.exponent in
    on_ok c.push_product.result (λ e. bulk_one c.args.made.now.items c.push_product.new.made.items (c.in_ok-rest.rest · c.in-Some.slope) z e
    ∙ ap (λ p. bulk_listed c.args.made.now.items +ᴾ p) (ap (λ y. term (c.in_ok-rest.rest · c.in-Some.slope) y) (size_times c.args.term.now.1 c.args.exponent) ∙ slope_times c.in-Some.slope c.in_ok-rest.rest (lower c.args.var c.args.term.now.0) (pos (unsigned_abs c.args.term.now.1) *ℤ pos c.args.exponent) (total_derivative c.args.space c.args.i (variable c.args.var)) c.in_ok-rest.ensures slope))
    c.push_product.ensures.pushed

pub returns-clause-past : goal.returns-clause-past
returns-clause-past c =
    let slope = c.in-Some.ensures in
    if_err c.push_product.result (λ fail h. subst (IsCause fail) (slope_times c.in-Some.slope c.in_ok-rest.rest (lower c.args.var c.args.term.now.0) (pos (unsigned_abs c.args.term.now.1) *ℤ pos c.args.exponent) (total_derivative c.args.space c.args.i (variable c.args.var)) c.in_ok-rest.ensures slope) h) c.push_product.ensures.past
