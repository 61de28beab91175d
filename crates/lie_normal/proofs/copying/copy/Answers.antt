use Rattle.std.proofs.Common.{◌∙◌, ◌++◌, ◌∷◌, [], sym, ap, subst}
use Rattle.lie_math.specs.FiniteSum as finite
use Rattle.lie_math.specs.FiniteSumLaws.{of_list}
use Rattle.lie_math.specs.LinearForm.{forms}
use Rattle.lie_lin.specs.Forms.{coefficients_of, AreCoefficients}
use Rattle.lie_ring.proofs.Fronts.{take_more, all_taken}
use Rattle.lie_normal.proofs.copying.copy.Goals as goal

pub loop-term-preserved : goal.loop-term-preserved
loop-term-preserved c =
    c.in_ok-push_copy.ensures ∙ ap (λ xs. xs ++ c.term-item.result ∷ []) c.loop-term.invariant
    ∙ take_more c.terms-term-items.result.now c.loop-term.term-index c.term-item.result c.loop-term-test.true c.term-item.is

pub of_terms-requires : goal.of_terms-requires
of_terms-requires c =
    subst AreCoefficients (sym (c.loop-term.invariant ∙ all_taken c.terms-term-items.result.now c.loop-term.term-index c.loop-term-test.false)) c.terms-term-items.ensures.coefficients

pub returns : goal.returns
returns c =
    c.of_terms.ensures
    ∙ ap (λ es. finite.of forms (coefficients_of es)) (c.loop-term.invariant ∙ all_taken c.terms-term-items.result.now c.loop-term.term-index c.loop-term-test.false)
    ∙ ap (finite.of forms) c.terms-term-items.ensures.list ∙ of_list forms c.args.eq.now
