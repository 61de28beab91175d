use Rattle.std.proofs.Common.{◌/◌, ℕ, subst, length, reverse}
use Rattle.std.proofs.lemmas.Result.{err_from_is_err_and, IfOk-weaker, IfErr-weaker}
use Rattle.lie_ring.specs.Causes.{IsCause}
use Rattle.lie_poly.proofs.SumSteps.{cause_covered, tells_same, halves_sum, halves_bulk, lower_covered, upper_covered, joined_sum, joined_bulk}
use Rattle.lie_poly.proofs.sum.+tally_terms.Goals as goal

pub returns-in_err-left-clause-past : goal.returns-in_err-left-clause-past
returns-in_err-left-clause-past g t c =
    let p = err_from_is_err_and c.from_residual.result c.from_residual.ensures.1 in
    rw (p.1, p.2) (cause_covered _ _ _ (lower_covered g.C.Ring.value c.args.terms.now (length c.args.terms.now / 2)) c.in_err-left.ensures.past)

pub returns-in_err-right-clause-past : goal.returns-in_err-right-clause-past
returns-in_err-right-clause-past g t c =
    let p = err_from_is_err_and c.from_residual-in_err-right.result c.from_residual-in_err-right.ensures.1 in
    rw (p.1, p.2) (cause_covered _ _ _ (upper_covered g.C.Ring.value c.args.terms.now (length c.args.terms.now / 2)) c.in_err-right.ensures.past)

pub returns-clause-sum : goal.returns-clause-sum
returns-clause-sum g t c =
    let value = g.C.Ring.value in
    let i : ℕ = length c.args.terms.now / 2 in
    IfOk-weaker c.merge.result _ _
    (λ v h. tells_same value (reverse v.items) _ _ _ _
    (joined_sum value _ _ _ _ _ _ _ c.in_ok-left.ensures.sum c.in_ok-right.ensures.sum (halves_sum value c.args.terms.now i))
    (joined_bulk value _ _ _ _ _ _ _ c.in_ok-left.ensures.sum c.in_ok-right.ensures.sum (halves_bulk value c.args.terms.now i)) h)
    c.merge.ensures.sum

pub returns-clause-past : goal.returns-clause-past
returns-clause-past g t c =
    let value = g.C.Ring.value in
    let i : ℕ = length c.args.terms.now / 2 in
    IfErr-weaker c.merge.result _ _
    (λ fail h. subst (IsCause fail) (joined_bulk value _ _ _ _ _ _ _ c.in_ok-left.ensures.sum c.in_ok-right.ensures.sum (halves_bulk value c.args.terms.now i)) h)
    c.merge.ensures.past
