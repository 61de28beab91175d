use Rattle.std.proofs.Common.{map, subst, sym}
use Rattle.lie_jet.specs.Derivatives.{derivative_of}
use Rattle.lie_jet.specs.declared.derivative.Der.{Der}
use Rattle.lie_lin.specs.Systems.{unknown_of}
use Rattle.lie_steps.specs.Equations.{IsGreatest}
use Rattle.lie_steps.specs.Integrate.{IsIntegrable}
use Rattle.lie_steps.proofs.NoneApplies.{solved_occurs}
use Rattle.lie_rules.proofs.GreatestSearch.{kept_coefficient, all_stand, first_greatest, stand_later, none_stands}
use Rattle.lie_rules.proofs.integrate.integrable_for_greatest.Goals as goal

pub loop-term-init : goal.loop-term-init
loop-term-init c =
    all_stand (IsIntegrable (map unknown_of c.args.unknowns.now) c.args.eq.now) c.args.eq.now c.terms-term-items.result.now
    c.terms-term-items.ensures.list (λ q h. solved_occurs (map unknown_of c.args.unknowns.now) c.args.eq.now q h.0 (h.3).solved)

pub integrable_for-requires-clause-form : goal.integrable_for-requires-clause-form
integrable_for-requires-clause-form c = c.requires

pub integrable_for-requires-clause-coefficient : goal.integrable_for-requires-clause-coefficient
integrable_for-requires-clause-coefficient c =
    kept_coefficient c.args.eq.now c.terms-term-items.result.now c.terms-term-items.ensures.list c.loop-term.term-index c.term-item.result
    c.loop-term-test.true c.term-item.is

pub returns-in-Some : goal.returns-in-Some
returns-in-Some c =
    let r = rw c.in-Some.is at c.in_ok-found.ensures in (
      r.1,
      subst (λ (x : Der). IsGreatest (IsIntegrable (map unknown_of c.args.unknowns.now) c.args.eq.now) (derivative_of x)) (sym r.0)
          (first_greatest (IsIntegrable (map unknown_of c.args.unknowns.now) c.args.eq.now) c.terms-term-items.result.now c.loop-term.term-index
          c.term-item.result c.terms-term-items.ensures.coefficients c.loop-term-test.true c.term-item.is c.loop-term.invariant
          (subst (λ (x : Der). IsIntegrable (map unknown_of c.args.unknowns.now) c.args.eq.now (derivative_of x)) r.0
          (c.in-Some.found.integration.number, c.in-Some.found.integration.var, c.in-Some.found.integration.times, r.1.is))),
    )

pub loop-term-preserved : goal.loop-term-preserved
loop-term-preserved c =
    stand_later (IsIntegrable (map unknown_of c.args.unknowns.now) c.args.eq.now) c.terms-term-items.result.now c.loop-term.term-index
    c.term-item.result c.terms-term-items.ensures.coefficients c.loop-term-test.true c.term-item.is c.loop-term.invariant
    (rw c.in_default.is at c.in_ok-found.ensures)

pub returns : goal.returns
returns c = none_stands (IsIntegrable (map unknown_of c.args.unknowns.now) c.args.eq.now) c.terms-term-items.result.now
    c.loop-term.term-index c.loop-term-test.false c.loop-term.invariant
