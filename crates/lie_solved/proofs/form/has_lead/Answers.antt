use Rattle.std.proofs.Common.{sym, ◌∙◌}
use Rattle.lie_geometry.specs.SolvedEquations.{is_lead}
use Rattle.lie_solved.specs.SolvedForms.{solved_equations}
use Rattle.lie_solved.proofs.RuleSteps.{any_in_at, none_in_more}
use Rattle.lie_solved.proofs.form.has_lead.Goals as goal

pub returns-then-is_lead : goal.returns-then-is_lead
returns-then-is_lead c = sym (any_in_at (is_lead (solved_equations c.args.space c.args.rules.now)) c.args.pairs.now c.loop-pair.pair-index (0, 0) c.loop-pair-test.true (sym c.is_lead.ensures ∙ c.if-is_lead.true))

pub loop-pair-preserved : goal.loop-pair-preserved
loop-pair-preserved c = none_in_more (is_lead (solved_equations c.args.space c.args.rules.now)) c.args.pairs.now c.loop-pair.pair-index (0, 0) c.loop-pair-test.true c.loop-pair.invariant (sym c.is_lead.ensures ∙ c.if-is_lead.false)
