use Rattle.std.proofs.Common.{◌≡◌, drop, max}
use Rattle.lie_math.specs.Powers.{degree_in}
use Rattle.lie_jet.specs.declared.derivative.Der.{Der}
use Rattle.lie_rules.proofs.PowerParts.{most}
use Rattle.lie_rules.proofs.powers.form_degree.Given as goal

abbrev pub invariant-loop-term : goal.invariant-loop-term
invariant-loop-term l =
    max l.degree (most (λ (d : Der) a. degree_in l.var a) (drop l.term-index l.term-items)) ≡ most
    (λ (d : Der) a. degree_in l.var a) l.term-items
