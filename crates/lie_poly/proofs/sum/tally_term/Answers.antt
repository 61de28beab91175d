use Rattle.std.proofs.Common.{sym, subst, ap, ◌∙◌, ℤ, pos, true≢false}
use Rattle.std.specs.Prelude.{unsigned_abs}
use Rattle.lie_math.specs.Monomial.{Monomial}
use Rattle.lie_math.specs.Limits.{HasHighExponent}
use Rattle.lie_math.proofs.Limits.{term_is}
use Rattle.lie_ring.proofs.Limits.{high_term}
use Rattle.lie_poly.proofs.SumSteps.{tells_zero, from_empty}
use Rattle.lie_poly.proofs.sum.tally_term.Goals as goal

pub returns-then-bulk-eq0-clause-sum : goal.returns-then-bulk-eq0-clause-sum
returns-then-bulk-eq0-clause-sum g c =
    from_empty g.C.Ring.value c.new-out.result.items _ _ c.new-out.ensures.items (tells_zero g.C.Ring.value c.args.term.now.0 (g.C.Ring.value c.args.term.now.1) (sym c.size-bulk.ensures.size ∙ c.if-bulk-eq0.true))

pub returns-then-not-has_low_exponents-clause-past : goal.returns-then-not-has_low_exponents-clause-past
returns-then-not-has_low_exponents-clause-past g c =
    let m : Monomial = c.args.term.now.0 in
    let z : ℤ = g.C.Ring.value c.args.term.now.1 in
    subst HasHighExponent (term_is m (pos (unsigned_abs z)))
    (high_term m (pos (unsigned_abs z)) (λ e. c.if-bulk-eq0.false (c.size-bulk.ensures.size ∙ ap unsigned_abs e)) (c.has_low_exponents.ensures.high (λ t. true≢false (sym t ∙ c.if-not-has_low_exponents.true))))
