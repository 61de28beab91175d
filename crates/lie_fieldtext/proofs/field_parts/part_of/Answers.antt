use Rattle.std.proofs.Common.{sym, ap, ◌∙◌, ◌++◌, ◌∷◌, [], take}
use Rattle.lie_fieldtext.specs.FieldMeaning.{terms_over}
use Rattle.lie_fieldtext.proofs.FieldSteps.{terms_over-append}
use Rattle.lie_fieldtext.proofs.field_parts.part_of.Goals as goal
use Rattle.lie_ring.proofs.Fronts.{take_more}

pub loop-term-preserved : goal.loop-term-preserved
loop-term-preserved c =
    c.in_ok-list.ensures ∙ ap (λ l. l ++ terms_over c.args.denominator c.args.place (c.term-item.result ∷ [])) c.loop-term.invariant
    ∙ sym (terms_over-append c.args.denominator c.args.place (take c.loop-term.term-index c.args.terms.now) (c.term-item.result ∷ []))
    ∙ ap (terms_over c.args.denominator c.args.place) (take_more c.args.terms.now c.loop-term.term-index c.term-item.result c.loop-term-test.true c.term-item.is)
