use Rattle.std.proofs.Common.{sym, ◌∙◌, arith, eq-eqb}
use Rattle.lie_change.proofs.MentionSteps.{is_kept_of, mentions_kept, passed_at, none_passed}
use Rattle.lie_change.proofs.mentioning.mentions.Goals as goal

pub returns-then-term-number : goal.returns-then-term-number
returns-then-term-number c =
    sym (sym (mentions_kept c.args.number c.args.eq.now c.terms-term-items.result.now c.terms-term-items.ensures.list)
    ∙ passed_at (is_kept_of c.args.number) c.terms-term-items.result.now c.loop-term.term-index c.term-item.result c.loop-term-test.true
    c.term-item.is (eq-eqb _ _ c.if-term-number.true))

pub returns : goal.returns
returns c =
    sym (sym (mentions_kept c.args.number c.args.eq.now c.terms-term-items.result.now c.terms-term-items.ensures.list)
    ∙ none_passed (is_kept_of c.args.number) c.terms-term-items.result.now c.loop-term.term-index
    (omega (arith, c.loop-term-test.false)) c.loop-term.invariant)
