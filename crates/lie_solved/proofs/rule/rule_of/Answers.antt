use Rattle.std.proofs.Common.{sym, ap, ◌∙◌}
use Rattle.lie_math.specs.Polynomial.{polynomial_of}
use Rattle.lie_system.specs.Equations.{equation_read}
use Rattle.lie_solved.specs.Equations.{rest_of}
use Rattle.lie_solved.proofs.RuleSteps.{rule_is, not_linear}
use Rattle.lie_solved.proofs.rule.rule_of.Goals as goal
use Rattle.lie_jet.proofs.TotalParts.{entries_same}

pub lead_of-requires-clause-terms : goal.lead_of-requires-clause-terms
lead_of-requires-clause-terms c = sym (c.as_slice.ensures.value ∙ sym (entries_same c.in_ok-terms.terms.items) ∙ c.in_ok-terms.ensures)

pub returns-in-None-only_coefficient-clause-not : goal.returns-in-None-only_coefficient-clause-not
returns-in-None-only_coefficient-clause-not c =
    not_linear c.args.space (equation_read c.args.space c.args.equation.now) c.in-Some.lead c.jet_number-number.result c.in-Some.ensures c.jet_number-number.ensures.number
    (c.in-None-only_coefficient.ensures c.args.equation.now.diff (sym (c.as_slice-2.ensures.value ∙ sym (entries_same c.in_ok-terms.terms.items) ∙ c.in_ok-terms.ensures)))

pub rest_of-requires : goal.rest_of-requires
rest_of-requires c = sym (c.as_slice-3.ensures.value ∙ sym (entries_same c.in_ok-terms.terms.items) ∙ c.in_ok-terms.ensures)

pub returns-clause-rule : goal.returns-clause-rule
returns-clause-rule c =
    rule_is c.args.space (equation_read c.args.space c.args.equation.now) c.in-Some.lead c.jet_number-number.result c.in-Some-only_coefficient.c c.absolute_value.result c.in_ok-right.right c.in-Some.ensures c.jet_number-number.ensures.number
    (c.in-Some-only_coefficient.ensures c.args.equation.now.diff (sym (c.as_slice-2.ensures.value ∙ sym (entries_same c.in_ok-terms.terms.items) ∙ c.in_ok-terms.ensures))) c.absolute_value.ensures
    (c.in_ok-right.ensures ∙ ap (λ b. polynomial_of (rest_of c.jet_number-number.result b c.args.equation.now.diff.list)) c.is_plain.ensures)
