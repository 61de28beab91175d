use Rattle.std.proofs.Common.{◌∙◌, ap}
use Rattle.lie_jet.specs.Derivatives.{derivative_of}
use Rattle.lie_lin.specs.Forms.{coefficients_of}
use Rattle.lie_ring.proofs.Fronts.{all_taken}
use Rattle.lie_rules.proofs.SolvedSteps.{others, others_more, rest_kept, rest_made}
use Rattle.lie_rules.proofs.solved.rest_of.Goals as goal

pub loop-term-preserved : goal.loop-term-preserved
loop-term-preserved c =
    others_more (derivative_of c.args.der.now) c.loop-term.out.items c.push_other.new.out.items c.terms-term-items.result.now
    c.loop-term.term-index c.term-item.result c.loop-term-test.true c.term-item.is c.in_ok-push_other.ensures c.loop-term.invariant

pub of_terms-requires : goal.of_terms-requires
of_terms-requires c =
    rest_kept (derivative_of c.args.der.now) c.args.eq.now c.loop-term.out.items
    (c.loop-term.invariant ∙ ap (λ ts. others (derivative_of c.args.der.now) (coefficients_of ts))
    (all_taken c.terms-term-items.result.now c.loop-term.term-index c.loop-term-test.false)
    ∙ ap (others (derivative_of c.args.der.now)) c.terms-term-items.ensures.list)

pub returns : goal.returns
returns c =
    rest_made (derivative_of c.args.der.now) c.args.eq.now c.of_terms.result c.loop-term.out.items c.of_terms.ensures
    (c.loop-term.invariant ∙ ap (λ ts. others (derivative_of c.args.der.now) (coefficients_of ts))
    (all_taken c.terms-term-items.result.now c.loop-term.term-index c.loop-term-test.false)
    ∙ ap (others (derivative_of c.args.der.now)) c.terms-term-items.ensures.list)
