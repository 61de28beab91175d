use Rattle.std.proofs.Common.{sym, ◌∙◌}
use Rattle.lie_readback.proofs.Grouping.{before_next}
use Rattle.lie_readback.proofs.forms.is_before.Goals as goal

pub returns-in-Less : goal.returns-in-Less
returns-in-Less c =
    before_next c.args.first.now c.next-item.result c.args.rest.now c.in-len1-up.len_at_least c.next-item.is (λ z. c.if-len-eq0.false (c.len.ensures.count ∙ z)) c.requires
    (sym c.compare_derivatives.ensures ∙ c.in-Less.is)
