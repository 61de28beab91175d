use Rattle.std.proofs.Common.{◌/◌, ℕ, subst, subst₂, sym, arith, length, reverse}
use Rattle.std.proofs.lemmas.List.{nil_from_length}
use Rattle.std.proofs.lemmas.Result.{err_from_is_err_and, IfOk-weaker, IfErr-weaker}
use Rattle.lie_math.specs.Polynomial.{polynomial_of, ◌*ᴾ◌}
use Rattle.lie_math.specs.Limits.{absolutes}
use Rattle.lie_ring.specs.Causes.{IsCause}
use Rattle.lie_ring.specs.Entries.{entries}
use Rattle.lie_poly.specs.Tallies.{Tells}
use Rattle.lie_poly.proofs.SumSteps.{cause_covered, tells_same, joined_sum, joined_bulk, one_entry}
use Rattle.lie_poly.proofs.TimesSteps.{halves_product, halves_product_bulk, lower_product_covered, upper_product_covered, product_none, single_product, single_bulk}
use Rattle.lie_poly.proofs.product.+multiply.Goals as goal

pub returns-then-left-eq0-clause-product : goal.returns-then-left-eq0-clause-product
returns-then-left-eq0-clause-product g t c =
    let value = g.C.Ring.value in
    let none = nil_from_length c.args.left.now (omega arith) in
    subst₂ (λ xs ls. Tells value (reverse xs) (polynomial_of (entries value ls) *ᴾ polynomial_of (entries value c.args.right.now)) (polynomial_of (absolutes (entries value ls)) *ᴾ polynomial_of (absolutes (entries value c.args.right.now)))) (sym c.new.ensures.items) (sym none)
    (product_none value (entries value c.args.right.now))

pub returns-then-left-eq1-clause-product : goal.returns-then-left-eq1-clause-product
returns-then-left-eq1-clause-product g t c =
    let value = g.C.Ring.value in
    let one = one_entry value c.args.left.now c.index-left-0.result c.if-left-eq1.true c.index-left-0.is in
    IfOk-weaker c.times_term.result _ _
    (λ v h. tells_same value (reverse v.items) _ _ _ _ (single_product value c.args.left.now c.index-left-0.result (entries value c.args.right.now) one) (single_bulk value c.args.left.now c.index-left-0.result (entries value c.args.right.now) one) h)
    c.times_term.ensures.product

pub returns-then-left-eq1-clause-past : goal.returns-then-left-eq1-clause-past
returns-then-left-eq1-clause-past g t c =
    let value = g.C.Ring.value in
    let one = one_entry value c.args.left.now c.index-left-0.result c.if-left-eq1.true c.index-left-0.is in
    IfErr-weaker c.times_term.result _ _
    (λ fail h. subst (IsCause fail) (single_bulk value c.args.left.now c.index-left-0.result (entries value c.args.right.now) one) h)
    c.times_term.ensures.past

pub returns-in_err-first-clause-past : goal.returns-in_err-first-clause-past
returns-in_err-first-clause-past g t c =
    let p = err_from_is_err_and c.from_residual.result c.from_residual.ensures.1 in
    rw (p.1, p.2) (cause_covered _ _ _ (lower_product_covered g.C.Ring.value c.args.left.now (length c.args.left.now / 2) (entries g.C.Ring.value c.args.right.now)) c.in_err-first.ensures.past)

pub returns-in_err-second-clause-past : goal.returns-in_err-second-clause-past
returns-in_err-second-clause-past g t c =
    let p = err_from_is_err_and c.from_residual-in_err-second.result c.from_residual-in_err-second.ensures.1 in
    rw (p.1, p.2) (cause_covered _ _ _ (upper_product_covered g.C.Ring.value c.args.left.now (length c.args.left.now / 2) (entries g.C.Ring.value c.args.right.now)) c.in_err-second.ensures.past)

pub returns-clause-product : goal.returns-clause-product
returns-clause-product g t c =
    let value = g.C.Ring.value in
    let i : ℕ = length c.args.left.now / 2 in
    IfOk-weaker c.merge.result _ _
    (λ v h. tells_same value (reverse v.items) _ _ _ _
    (joined_sum value _ _ _ _ _ _ _ c.in_ok-first.ensures.product c.in_ok-second.ensures.product (halves_product value c.args.left.now i (entries value c.args.right.now)))
    (joined_bulk value _ _ _ _ _ _ _ c.in_ok-first.ensures.product c.in_ok-second.ensures.product (halves_product_bulk value c.args.left.now i (entries value c.args.right.now))) h)
    c.merge.ensures.sum

pub returns-clause-past : goal.returns-clause-past
returns-clause-past g t c =
    let value = g.C.Ring.value in
    let i : ℕ = length c.args.left.now / 2 in
    IfErr-weaker c.merge.result _ _
    (λ fail h. subst (IsCause fail) (joined_bulk value _ _ _ _ _ _ _ c.in_ok-first.ensures.product c.in_ok-second.ensures.product (halves_product_bulk value c.args.left.now i (entries value c.args.right.now))) h)
    c.merge.ensures.past
