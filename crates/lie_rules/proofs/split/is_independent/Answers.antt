use Rattle.std.proofs.Common.{◌≡◌, ◌∙◌, false, map, refl, subst, sym, true≢false}
use Rattle.std.specs.List.{AllByRecursion as Every}
use Rattle.lie_math.specs.Counts.{Derivative}
use Rattle.lie_math.specs.Polynomial.{WholePolynomial}
use Rattle.lie_jet.specs.declared.derivative.Der.{Der}
use Rattle.lie_lin.specs.Systems.{unknown_of}
use Rattle.lie_normal.proofs.LeadOrder.{every_taken}
use Rattle.lie_ring.proofs.Fronts.{all_taken}
use Rattle.lie_steps.specs.Equations.{depends}
use Rattle.lie_integral.proofs.KeptTerms.{entry_at, kept_entries}
use Rattle.lie_rules.proofs.split.is_independent.Goals as goal

pub returns-then-depends : goal.returns-then-depends
returns-then-depends c = (
  λ e. absurd (true≢false (sym e)),
  λ h. absurd (true≢false (c.if-depends.ensures
      ∙ entry_at (λ (e : Derivative × WholePolynomial). depends (map unknown_of c.args.unknowns.now) (e.0).unknown c.args.var ≡ false)
      c.terms-term-items.result.now c.loop-term.term-index c.term-item.result c.loop-term-test.true c.term-item.is
      (subst (Every (λ (e : Derivative × WholePolynomial). depends (map unknown_of c.args.unknowns.now) (e.0).unknown c.args.var ≡ false))
      (sym c.terms-term-items.ensures.list) h))),
)

pub loop-term-preserved : goal.loop-term-preserved
loop-term-preserved c =
    every_taken (λ (t : Der × WholePolynomial). depends (map unknown_of c.args.unknowns.now) (t.0).unknown c.args.var ≡ false)
    c.terms-term-items.result.now c.loop-term.term-index c.term-item.result c.loop-term-test.true c.term-item.is c.loop-term.invariant
    (sym c.if-depends.ensures)

pub returns : goal.returns
returns c = (
  λ e. subst (Every (λ (e : Derivative × WholePolynomial). depends (map unknown_of c.args.unknowns.now) (e.0).unknown c.args.var ≡ false))
      c.terms-term-items.ensures.list
      (kept_entries _ c.terms-term-items.result.now
      (subst (Every (λ (t : Der × WholePolynomial). depends (map unknown_of c.args.unknowns.now) (t.0).unknown c.args.var ≡ false))
      (all_taken c.terms-term-items.result.now c.loop-term.term-index c.loop-term-test.false) c.loop-term.invariant)),
  λ h. refl,
)
