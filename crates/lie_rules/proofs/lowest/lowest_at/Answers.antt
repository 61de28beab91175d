use Rattle.std.proofs.Common.{◌≡◌, ◌+◌, ◌-◌, suc, get_or, length, subst, arith}
use Rattle.std.specs.List.{AllByRecursion as Every}
use Rattle.lie_jet.specs.Derivatives.{derivative_of}
use Rattle.lie_normal.proofs.Falling.{get_same}
use Rattle.lie_normal.proofs.LeadOrder.{every_taken}
use Rattle.lie_ring.proofs.Fronts.{all_taken}
use Rattle.lie_rules.specs.LowestTerms.{IsConstantOver}
use Rattle.lie_rules.proofs.LowestSteps.{apart_at, some_terms, lowest_is, lowest_over}
use Rattle.lie_rules.proofs.lowest.lowest_at.Goals as goal

pub is_constant_over-requires : goal.is_constant_over-requires
is_constant_over-requires c =
    apart_at c.equation_at-eq.result.now c.terms-terms.result.now c.terms-terms.ensures.list c.loop-term.term-index c.term-item.result
    c.loop-term-test.true c.term-item.is

pub returns-then-not-over : goal.returns-then-not-over
returns-then-not-over c =
    let ts = c.terms-terms.result.now in
    let some = some_terms c.equation_at-eq.result.now ts c.terms-terms.ensures.list (omega (arith, c.form_triple_count.ensures.count)) in
    let k = length ts - 1 in
    let l : suc k ≡ length ts = omega arith in
    λ a. (rw c.if-not-over.true at c.in_ok-over.ensures)
    (lowest_over (c.args.system.now.space.p + c.args.system.now.space.q) c.args.system.now.system c.args.place c.requires
    c.equation_at-eq.result.now c.equation_at-eq.ensures.equation c.equation_at-eq.ensures.form ts c.terms-terms.ensures.list
    c.terms-terms.ensures.coefficients
    (get_or ts k c.index-terms-terms.result) k l
    (get_same ts k c.index-terms-terms.result (omega arith)) c.loop-term.term-index c.term-item.result c.loop-term-test.true
    c.term-item.is a)

pub loop-term-preserved : goal.loop-term-preserved
loop-term-preserved c =
    every_taken (IsConstantOver (derivative_of
    (get_or c.terms-terms.result.now (length c.terms-terms.result.now - 1) c.index-terms-terms.result).0)) c.terms-terms.result.now
    c.loop-term.term-index c.term-item.result c.loop-term-test.true c.term-item.is c.loop-term.invariant
    (rw c.if-not-over.false at c.in_ok-over.ensures)

pub returns : goal.returns
returns c =
    let ts = c.terms-terms.result.now in
    let some = some_terms c.equation_at-eq.result.now ts c.terms-terms.ensures.list (omega (arith, c.form_triple_count.ensures.count)) in
    let k = length ts - 1 in
    let last = get_or ts k c.index-terms-terms.result in
    lowest_is (c.args.system.now.space.p + c.args.system.now.space.q) c.args.system.now.system c.args.place c.requires
    c.equation_at-eq.result.now c.equation_at-eq.ensures.equation c.equation_at-eq.ensures.form ts c.terms-terms.ensures.list
    c.terms-terms.ensures.coefficients
    last k (omega arith) (get_same ts k c.index-terms-terms.result (omega arith)) (omega (arith, c.form_triple_count.ensures.count))
    (subst (Every (IsConstantOver (derivative_of last.0)))
    (all_taken ts c.loop-term.term-index (omega (arith, c.loop-term-test.false))) c.loop-term.invariant)
