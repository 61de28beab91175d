use Rattle.std.proofs.Common.{◌∙◌, ap, sym, is_eq}
use Rattle.lie_jet.specs.Derivatives.{derivative_of}
use Rattle.lie_rules.proofs.SolvedSteps.{other_pushed}
use Rattle.lie_rules.proofs.solved.push_other.Goals as goal

pub returns : goal.returns
returns c =
    other_pushed (derivative_of c.args.der.now) c.args.out.now.items c.push.new.self.items c.args.term.now c.in_ok-coefficient.coefficient
    c.in_ok-push.ensures.items c.in_ok-coefficient.ensures
    (ap is_eq (sym c.compare_derivatives.ensures) ∙ sym c.is_eq.ensures ∙ c.if-is_eq.false)
