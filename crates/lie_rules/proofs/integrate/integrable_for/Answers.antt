use Rattle.std.proofs.Common.{◌≡◌, ◌∙◌, ap, map, subst, sym, true≢false}
use Rattle.lie_jet.specs.Derivatives.{derivative_of}
use Rattle.lie_jet.specs.declared.derivative.Der.{Der}
use Rattle.lie_lin.specs.Systems.{unknown_of}
use Rattle.lie_steps.specs.Equations.{IsIndependent, rest_of}
use Rattle.lie_steps.specs.Integrate.{counts_of}
use Rattle.lie_rules.proofs.IntegrationSteps.{rest_empty, same_variable, integrable, empty_rest, some_rest}
use Rattle.lie_rules.proofs.integrate.integrable_for.Goals as goal

pub returns-then-terms-eq0 : goal.returns-then-terms-eq0
returns-then-terms-eq0 c =
    let r = rw c.in-Some-2.is at c.in_ok-solved_for-in-Some.ensures in
    rest_empty (map unknown_of c.args.unknowns.now) c.args.eq.now (derivative_of c.args.term.now.0)
    (ap (λ (x : Der). rest_of (derivative_of x) c.args.eq.now) (sym r.0) ∙ sym r.1.rest
    ∙ empty_rest c.in-Some-2.solved.rest c.terms.result.now c.terms.ensures.list c.if-terms-eq0.true)

pub returns-then-not-is_independent : goal.returns-then-not-is_independent
returns-then-not-is_independent c =
    let r = rw c.in-Some-2.is at c.in_ok-solved_for-in-Some.ensures in
    same_variable (map unknown_of c.args.unknowns.now) c.args.eq.now
    (derivative_of c.args.term.now.0) c.in-Some.var c.in-Some.times c.in-Some.ensures.1 c.in-Some.ensures.2
    (λ i. true≢false (sym (c.is_independent.ensures.1
    (subst (IsIndependent (map unknown_of c.args.unknowns.now) c.in-Some.var)
    (ap (λ (x : Der). rest_of (derivative_of x) c.args.eq.now) (sym r.0) ∙ sym r.1.rest) i)) ∙ c.if-not-is_independent.true))

pub returns-else-not-is_independent : goal.returns-else-not-is_independent
returns-else-not-is_independent c =
    let r = rw c.in-Some-2.is at c.in_ok-solved_for-in-Some.ensures in (
      r.0,
      record {
        is = integrable (map unknown_of c.args.unknowns.now) c.args.eq.now
            (derivative_of c.in-Some-2.solved.der) c.in-Some-2.solved.number c.in-Some.var c.in-Some.times c.in-Some.ensures.1
            (subst (λ (x : Der). (derivative_of x).counts ≡ counts_of c.in-Some.var c.in-Some.times) (sym r.0) c.in-Some.ensures.2) r.1.solved
            (λ z. some_rest c.in-Some-2.solved.rest c.terms.result.now c.terms.ensures.list c.if-terms-eq0.false (r.1.rest ∙ z))
            (subst (IsIndependent (map unknown_of c.args.unknowns.now) c.in-Some.var) r.1.rest
            (c.is_independent.ensures.0 c.if-not-is_independent.false));
        rest = r.1.rest;
        low = c.in-Some.ensures.0;
      },
    )
