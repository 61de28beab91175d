use Rattle.std.proofs.Common.{◌∙◌, ap, sym, length}
use Rattle.lie_rules.proofs.SolvedSteps.{is_number, no_number, no_power, one_term, no_elements}
use Rattle.lie_rules.proofs.solved.number_of.Goals as goal

pub returns-then-terms-ne1 : goal.returns-then-terms-ne1
returns-then-terms-ne1 c P e = no_number P c.args.terms.now e c.if-terms-ne1.true

pub returns-then-pairs-ne0 : goal.returns-then-pairs-ne0
returns-then-pairs-ne0 c P e =
    no_power P c.index-terms-0.result (e ∙ one_term c.args.terms.now c.index-terms-0.result c.if-terms-ne1.false c.index-terms-0.is)
    (λ z. c.if-pairs-ne0.true (ap length c.pairs.ensures ∙ z))

pub returns : goal.returns
returns c P e =
    is_number P c.index-terms-0.result (e ∙ one_term c.args.terms.now c.index-terms-0.result c.if-terms-ne1.false c.index-terms-0.is)
    (no_elements (c.index-terms-0.result.0).list (ap length (sym c.pairs.ensures) ∙ c.if-pairs-ne0.false))
