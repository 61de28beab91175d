use Rattle.std.proofs.Common.{sym, subst}
use Rattle.std.specs.Prelude.{map, ltb}
use Rattle.std.specs.List.{AllByRecursion as Every}
use Rattle.lie_math.specs.Counts.{Derivative}
use Rattle.lie_math.specs.Polynomial.{WholePolynomial}
use Rattle.lie_math.specs.Variables.{IsIn}
use Rattle.lie_systems.specs.ValidSystems.{IsOwned}
use Rattle.lie_lin.specs.Systems.{unknown_of}
use Rattle.lie_lin.proofs.ValidParts.{coefficients_at, coefficients_more}
use Rattle.lie_lin.proofs.validity.is_form_of.Goals as goal

pub returns-then-not-is_owned : goal.returns-then-not-is_owned
returns-then-not-is_owned c = λ h.
    c.if-not-is_owned.ensures (coefficients_at (λ (e : Derivative × WholePolynomial). IsOwned (map unknown_of c.args.unknowns.now) e.0 × IsIn (λ v. ltb v c.args.bound) e.1) c.terms-term-items.result.now c.loop-term.term-index c.term-item.result c.loop-term-test.true c.term-item.is
    (subst (Every (λ (e : Derivative × WholePolynomial). IsOwned (map unknown_of c.args.unknowns.now) e.0 × IsIn (λ v. ltb v c.args.bound) e.1)) (sym c.terms-term-items.ensures.list) h)).0

pub returns-then-not-low : goal.returns-then-not-low
returns-then-not-low c = λ h.
    (rw c.if-not-low.true at c.in_ok-low.ensures) (coefficients_at (λ (e : Derivative × WholePolynomial). IsOwned (map unknown_of c.args.unknowns.now) e.0 × IsIn (λ v. ltb v c.args.bound) e.1) c.terms-term-items.result.now c.loop-term.term-index c.term-item.result c.loop-term-test.true c.term-item.is
    (subst (Every (λ (e : Derivative × WholePolynomial). IsOwned (map unknown_of c.args.unknowns.now) e.0 × IsIn (λ v. ltb v c.args.bound) e.1)) (sym c.terms-term-items.ensures.list) h)).1

pub loop-term-preserved : goal.loop-term-preserved
loop-term-preserved c =
    coefficients_more (λ (e : Derivative × WholePolynomial). IsOwned (map unknown_of c.args.unknowns.now) e.0 × IsIn (λ v. ltb v c.args.bound) e.1) c.terms-term-items.result.now c.loop-term.term-index c.term-item.result c.loop-term-test.true c.term-item.is c.loop-term.invariant
    (c.if-not-is_owned.ensures, rw c.if-not-low.false at c.in_ok-low.ensures)
