use Rattle.std.proofs.Common.{subst, take, ◌++◌, ◌∷◌, []}
use Rattle.lie_fieldtext.specs.FieldAnswers.{IsSized}
use Rattle.lie_fieldtext.proofs.FieldSizes.{past_front}
use Rattle.lie_fieldtext.proofs.field_terms.sizes_of.Goals as goal

pub returns-in-None : goal.returns-in-None
returns-in-None c =
    past_front c.args.denominator c.args.terms.now c.loop-term.term-index c.term-item.result c.loop-term-test.true c.term-item.is
    (subst (IsSized c.args.denominator (take c.loop-term.term-index c.args.terms.now ++ c.term-item.result ∷ [])) c.in-None.is (c.in_ok-more.ensures (take c.loop-term.term-index c.args.terms.now) c.loop-term.invariant))
