use Rattle.std.proofs.Common.{refl, ap, sym, ◌∙◌, true≢false}
use Rattle.std.proofs.lemmas.Result.{err_from_is_err_and}
use Rattle.lie_jet.proofs.TotalSteps.{on_ok}
use Rattle.lie_math.specs.Limits.{absolute}
use Rattle.lie_math.specs.Polynomial.{◌+ᴾ◌}
use Rattle.lie_jet.specs.Listed.{sum_listed, bulk_listed}
use Rattle.lie_solved.specs.SolvedForms.{solved_equations}
use Rattle.lie_reduce.proofs.ReductionSteps.{removed_sum, removed_bulk, made_term, multiple_cause, product_term_cause, multiple_apart}
use Rattle.lie_reduce.proofs.reduction.push_reduced.Goals as goal

pub returns-then-has_removed-clause-sum : goal.returns-then-has_removed-clause-sum
returns-then-has_removed-clause-sum c = λ e h. removed_sum (solved_equations c.args.space c.args.rules.now) e c.args.term.now.0 c.args.term.now.1 (sum_listed c.args.made.now.items) c.pairs.result.now c.pairs.ensures (c.if-has_removed.ensures.found refl)

pub returns-then-has_removed-clause-bulk : goal.returns-then-has_removed-clause-bulk
returns-then-has_removed-clause-bulk c = λ e h. removed_bulk (solved_equations c.args.space c.args.rules.now) e c.args.term.now.0 c.args.term.now.1 (bulk_listed c.args.made.now.items) c.pairs.result.now c.pairs.ensures (c.if-has_removed.ensures.found refl)

pub returns-in_err-multiple-clause-past : goal.returns-in_err-multiple-clause-past
returns-in_err-multiple-clause-past c = λ e h.
    let p = err_from_is_err_and c.from_residual-in_err-multiple.result c.from_residual-in_err-multiple.ensures.1 in
    rw (p.1, p.2)
    (multiple_cause (solved_equations c.args.space c.args.rules.now) e c.args.term.now.0 c.args.term.now.1 c.in_err-multiple.field-0.0 c.in_ok-number.number c.pairs.result.now c.pairs.ensures (c.if-has_removed.ensures.none (λ z. true≢false (sym z))) c.in_ok-number.ensures (c.in_err-multiple.ensures.past e h))

pub times_all-requires-clause-poly : goal.times_all-requires-clause-poly
times_all-requires-clause-poly c =
    multiple_apart c.args.space c.args.rules.now c.requires.greatest.0 c.args.term.now.0 c.args.term.now.1 c.in_ok-number.number c.in_ok-multiple.multiple c.requires.not_zero c.requires.rules.factors c.in_ok-number.ensures (c.in_ok-multiple.ensures.product c.requires.greatest.0 c.requires.greatest.1)

pub returns-in_err-product-clause-past : goal.returns-in_err-product-clause-past
returns-in_err-product-clause-past c = λ e h.
    let p = err_from_is_err_and c.from_residual-in_err-product.result c.from_residual-in_err-product.ensures.1 in
    rw (p.1, p.2)
    (product_term_cause (solved_equations c.args.space c.args.rules.now) e c.args.term.now.0 c.args.term.now.1 c.in_err-product.field-0.0 c.in_ok-number.number c.in_ok-multiple.multiple c.pairs-2.result.now c.pairs-2.ensures c.in_ok-number.ensures (c.in_ok-multiple.ensures.product e h) c.in_err-product.ensures.past)

pub returns-clause-sum : goal.returns-clause-sum
returns-clause-sum c = λ e h.
    on_ok c.push_terms.result (λ s. s ∙ ap (λ x. sum_listed c.args.made.now.items +ᴾ x) (made_term (solved_equations c.args.space c.args.rules.now) e c.args.term.now.0 c.args.term.now.1 c.in_ok-number.number c.in_ok-multiple.multiple c.in_ok-product.product c.pairs-2.result.now c.pairs-2.ensures c.in_ok-number.ensures (c.in_ok-multiple.ensures.product e h) c.in_ok-product.ensures.product)) c.push_terms.ensures.sum

pub returns-clause-bulk : goal.returns-clause-bulk
returns-clause-bulk c = λ e h.
    on_ok c.push_terms.result (λ s. s ∙ ap (λ x. bulk_listed c.args.made.now.items +ᴾ absolute x) (made_term (solved_equations c.args.space c.args.rules.now) e c.args.term.now.0 c.args.term.now.1 c.in_ok-number.number c.in_ok-multiple.multiple c.in_ok-product.product c.pairs-2.result.now c.pairs-2.ensures c.in_ok-number.ensures (c.in_ok-multiple.ensures.product e h) c.in_ok-product.ensures.product)) c.push_terms.ensures.bulk
