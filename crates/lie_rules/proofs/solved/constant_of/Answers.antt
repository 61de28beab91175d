use Rattle.std.proofs.Common.{◌∙◌, refl, sym}
use Rattle.lie_jet.proofs.TotalParts.{entries_same}
use Rattle.lie_rules.proofs.SolvedSteps.{no_number}
use Rattle.lie_rules.proofs.solved.constant_of.Goals as goal

pub returns-then-len-ne1 : goal.returns-then-len-ne1
returns-then-len-ne1 c = no_number c.args.poly.now c.args.poly.now.list refl (λ e. c.if-len-ne1.true (c.len.ensures.count ∙ e))

pub returns : goal.returns
returns c = c.number_of.ensures c.args.poly.now
    (sym (c.as_slice.ensures.value ∙ sym (entries_same c.in_ok-terms.terms.items) ∙ c.in_ok-terms.ensures))
