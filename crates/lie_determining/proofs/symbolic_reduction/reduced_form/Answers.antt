use Rattle.std.proofs.Common.{ℕ}
use Rattle.std.proofs.lemmas.Result.{err_from_is_err_and}
use Rattle.lie_solved.specs.SolvedForms.{solved_equations}
use Rattle.lie_ring.specs.declared.failures.PolyFail.TheVariants.{NoMemory}
use Rattle.lie_form.proofs.FormSteps.{starved_cause}
use Rattle.lie_determining.specs.SymbolicBulks.{degree_in_form, symbolic_reduction_bulk}
use Rattle.lie_determining.proofs.ReducedForms.{exponents_are, terms_more, terms_cause}
use Rattle.lie_reduce.proofs.ReductionSteps.{reduction_bounded}
use Rattle.lie_determining.proofs.symbolic_reduction.reduced_form.Goals as goal

pub returns-in_err-polynomials-clause-past : goal.returns-in_err-polynomials-clause-past
returns-in_err-polynomials-clause-past c =
    let p = err_from_is_err_and c.from_residual.result c.from_residual.ensures.1 in
    rw (p.1, p.2) (starved_cause NoMemory (symbolic_reduction_bulk (solved_equations c.args.space c.args.rules.now) c.args.form.now) tt)

pub returns-in_err-greatest-clause-past : goal.returns-in_err-greatest-clause-past
returns-in_err-greatest-clause-past c =
    let p = err_from_is_err_and c.from_residual-in_err-greatest.result c.from_residual-in_err-greatest.ensures.1 in
    rw (p.1, p.2) (starved_cause NoMemory (symbolic_reduction_bulk (solved_equations c.args.space c.args.rules.now) c.args.form.now) tt)

pub returns-in_err-put_reduced-clause-past : goal.returns-in_err-put_reduced-clause-past
returns-in_err-put_reduced-clause-past c =
    let rs = solved_equations c.args.space c.args.rules.now in
    let e : ℕ → ℕ = λ w. degree_in_form w c.args.form.now in
    let p = err_from_is_err_and c.from_residual-in_err-put_reduced.result c.from_residual-in_err-put_reduced.ensures.1 in
    rw (p.1, p.2)
    (terms_cause rs e (λ a. (reduction_bounded rs e a)) c.args.form.now c.terms-term-items.result.now c.terms-term-items.ensures _ c.loop-term.sum c.loop-term.term-index c.term-item.result c.loop-term-test.true c.term-item.is c.loop-term.invariant
    (c.in_err-put_reduced.ensures.past e (exponents_are c.args.space c.args.rules.now c.as_slice-in-loop-term.result.now c.in_ok-greatest.greatest.items c.in_ok-polynomials.polynomials.items c.as_slice.result.now c.args.form.now c.in_ok-greatest.ensures c.as_slice.ensures.value c.in_ok-polynomials.ensures c.as_slice-in-loop-term.ensures.value)))

pub loop-term-preserved : goal.loop-term-preserved
loop-term-preserved c =
    let rs = solved_equations c.args.space c.args.rules.now in
    let e : ℕ → ℕ = λ w. degree_in_form w c.args.form.now in
    terms_more rs e (λ a. (reduction_bounded rs e a)) c.args.form.now c.terms-term-items.result.now c.terms-term-items.ensures c.loop-term.sum c.put_reduced.new.sum c.loop-term.term-index c.term-item.result c.loop-term-test.true c.term-item.is c.loop-term.invariant
    (c.in_ok-put_reduced.ensures.sum e (exponents_are c.args.space c.args.rules.now c.as_slice-in-loop-term.result.now c.in_ok-greatest.greatest.items c.in_ok-polynomials.polynomials.items c.as_slice.result.now c.args.form.now c.in_ok-greatest.ensures c.as_slice.ensures.value c.in_ok-polynomials.ensures c.as_slice-in-loop-term.ensures.value))
