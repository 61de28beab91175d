use Rattle.std.proofs.Common.{arith, sym, ap, ◌∙◌}
use Rattle.lie_geometry.specs.SolvedEquations.{is_lead}
use Rattle.lie_solved.specs.SolvedForms.{solved_equations}
use Rattle.lie_solved.proofs.RuleSteps.{lead_at}
use Rattle.lie_solved.proofs.form.is_lead.Goals as goal

pub returns-then-jet_number-number : goal.returns-then-jet_number-number
returns-then-jet_number-number c =
    sym (ap (is_lead (solved_equations c.args.space c.args.rules.now)) (sym c.if-jet_number-number.true ∙ c.jet_number.ensures.number)
    ∙ lead_at c.args.space c.args.rules.now c.loop-rule.rule-index c.rule-item.result (omega arith) c.rule-item.is)
