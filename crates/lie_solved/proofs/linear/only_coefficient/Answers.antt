use Rattle.std.proofs.Common.{arith, sym, subst, ◌∙◌, ◌+◌, take}
use Rattle.lie_solved.proofs.LinearTerms.{IsFound, found_without, found_here, alone_without, alone_here, not_alone, all_found}
use Rattle.lie_solved.proofs.linear.only_coefficient.Goals as goal
use Rattle.lie_solved.proofs.linear.only_coefficient.Goals.{then-exponent-ne0+else-not-is_single, else-exponent-ne0}
use Rattle.lie_ring.proofs.Fronts.{all_taken}

pub returns-then-not-is_single : goal.returns-then-not-is_single
returns-then-not-is_single c = λ P e.
    not_alone c.args.number P c.args.terms.now e c.loop-term.term-index c.term-item.result c.loop-term-test.true c.term-item.is
    (λ z. c.if-exponent-ne0.true (c.exponent.ensures ∙ z)) (λ s. let t = c.is_single.ensures.1 s in cc)

pub loop-term-preserved : goal.loop-term-preserved
loop-term-preserved c =
    elim c.if-exponent-ne0.branch [
      | then-exponent-ne0+else-not-is_single w ↦
          let s = w.is_single.ensures.0 w.if-not-is_single.false in
          record {
            found = subst (IsFound c.args.number c.args.terms.now (take (c.loop-term.term-index + 1) c.args.terms.now)) (sym w.found-is)
                (found_here c.args.number c.args.terms.now c.loop-term.term-index c.term-item.result c.loop-term-test.true c.term-item.is s);
            alone = alone_here c.args.number c.args.terms.now c.loop-term.term-index c.term-item.result c.loop-term-test.true c.term-item.is s c.loop-term.invariant.alone;
          }
      | else-exponent-ne0 w ↦
          let z = sym c.exponent.ensures ∙ w.if-exponent-ne0.false in
          record {
            found = subst (IsFound c.args.number c.args.terms.now (take (c.loop-term.term-index + 1) c.args.terms.now)) (sym w.found-is)
                (found_without c.args.number c.args.terms.now c.loop-term.term-index c.term-item.result c.loop-term.found c.loop-term-test.true c.term-item.is z c.loop-term.invariant.found);
            alone = alone_without c.args.number c.args.terms.now c.loop-term.term-index c.term-item.result c.loop-term-test.true c.term-item.is z c.loop-term.invariant.alone;
          }
    ]

pub returns : goal.returns
returns c = λ P e.
    let all = all_taken c.args.terms.now c.loop-term.term-index (omega (arith, c.loop-term-test.false)) in
    all_found c.args.number P c.args.terms.now e _ all c.loop-term.found c.loop-term.invariant.found c.loop-term.invariant.alone
