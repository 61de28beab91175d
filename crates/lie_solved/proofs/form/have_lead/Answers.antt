use Rattle.std.proofs.Common.{sym, ap, ◌∙◌}
use Rattle.std.specs.List.{list_any}
use Rattle.lie_geometry.specs.SolvedEquations.{is_lead}
use Rattle.lie_solved.specs.SolvedForms.{solved_equations}
use Rattle.lie_solved.specs.Equations.{variables_in}
use Rattle.lie_solved.proofs.RuleSteps.{any_of_at, none_of_more}
use Rattle.lie_solved.proofs.form.have_lead.Goals as goal

pub returns-then-has_lead : goal.returns-then-has_lead
returns-then-has_lead c =
    sym (any_of_at (is_lead (solved_equations c.args.space c.args.rules.now)) c.args.terms.now c.loop-term.term-index c.term-item.result c.loop-term-test.true c.term-item.is
    (ap (λ ps. list_any (is_lead (solved_equations c.args.space c.args.rules.now)) (variables_in ps)) (sym c.pairs.ensures) ∙ sym c.has_lead.ensures ∙ c.if-has_lead.true))

pub loop-term-preserved : goal.loop-term-preserved
loop-term-preserved c =
    none_of_more (is_lead (solved_equations c.args.space c.args.rules.now)) c.args.terms.now c.loop-term.term-index c.term-item.result c.loop-term-test.true c.term-item.is c.loop-term.invariant
    (ap (λ ps. list_any (is_lead (solved_equations c.args.space c.args.rules.now)) (variables_in ps)) (sym c.pairs.ensures) ∙ sym c.has_lead.ensures ∙ c.if-has_lead.false)
