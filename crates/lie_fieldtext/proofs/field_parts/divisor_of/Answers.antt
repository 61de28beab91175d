use Rattle.std.proofs.Common.{arith, sym, ◌∙◌}
use Rattle.lie_fieldtext.proofs.FieldSteps.{content_done}
use Rattle.lie_fieldtext.proofs.field_parts.divisor_of.Goals as goal
use Rattle.lie_jet.proofs.TotalParts.{entries_same}

pub returns-clause-value : goal.returns-clause-value
returns-clause-value c =
    content_done c.args.number c.loop-term.divisor c.loop-term.term-index c.as_slice-term-items.result.now c.args.part.now.list c.loop-term.invariant.same (omega (arith, c.loop-term-test.false))
    (c.as_slice-term-items.ensures.value ∙ sym (entries_same c.in_ok-terms.terms.items) ∙ c.in_ok-terms.ensures)
