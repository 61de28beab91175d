use Rattle.std.proofs.Common.{sym, ◌∙◌}
use Rattle.lie_reduce.proofs.Replacing.{first_lead}
use Rattle.lie_reduce.proofs.reduction.rule_at.Goals as goal

pub returns-then-jet_number-number : goal.returns-then-jet_number-number
returns-then-jet_number-number c = (c.loop-i-test.true, λ r. first_lead c.args.space c.args.rules.now c.loop-i.i c.args.number c.index-rules-i.result r c.loop-i.invariant c.loop-i-test.true c.index-rules-i.is (sym c.jet_number.ensures.number ∙ c.if-jet_number-number.true))
