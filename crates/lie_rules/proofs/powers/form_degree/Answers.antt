use Rattle.std.proofs.Common.{ap, ◌∙◌}
use Rattle.lie_math.specs.Counts.{Derivative}
use Rattle.lie_math.specs.Powers.{degree_in}
use Rattle.lie_jet.specs.declared.derivative.Der.{Der}
use Rattle.lie_rules.proofs.PowerParts.{most, most_end, kept_degree}
use Rattle.lie_rules.proofs.powers.form_degree.Goals as goal

pub returns : goal.returns
returns c =
    most_end (λ (d : Der) a. degree_in c.args.var a) c.terms-term-items.result.now c.loop-term.term-index c.loop-term.degree _
    c.loop-term-test.false c.loop-term.invariant
    ∙ kept_degree c.args.var c.terms-term-items.result.now
    ∙ ap (most (λ (d : Derivative) a. degree_in c.args.var a)) c.terms-term-items.ensures.list
