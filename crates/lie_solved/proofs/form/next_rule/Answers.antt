use Rattle.std.proofs.Common.{sym, ap, subst, ◌∙◌}
use Rattle.lie_geometry.specs.SolvedEquations.{is_lead}
use Rattle.lie_system.specs.Equations.{equation_read}
use Rattle.lie_solved.specs.SolvedForms.{solved_equation, solved_equations}
use Rattle.lie_solved.specs.Refusals.{IsSolveFormCause}
use Rattle.lie_solved.proofs.RuleSteps.{cause_at}
use Rattle.lie_solved.proofs.form.next_rule.Goals as goal

pub returns-then-is_lead-clause-refusal : goal.returns-then-is_lead-clause-refusal
returns-then-is_lead-clause-refusal c = λ es at. (
  solved_equations c.args.space c.args.rules.now,
  equation_read c.args.space c.args.equation.now,
  at,
  record {
    rule = solved_equation c.args.space c.in-Ok.rule;
    solves = c.in-Ok.ensures.rule.solves;
    repeated = ap (is_lead (solved_equations c.args.space c.args.rules.now)) (sym c.jet_number.ensures.number) ∙ sym c.is_lead.ensures ∙ c.if-is_lead.true;
  },
)

pub returns-in-Err-clause-refusal : goal.returns-in-Err-clause-refusal
returns-in-Err-clause-refusal c = λ es at.
    subst (IsSolveFormCause c.args.space es) (sym c.failed_at.ensures)
    (cause_at c.args.space (equation_read c.args.space c.args.equation.now) c.in-Err.fail c.args.place c.in-Err.ensures.not es (solved_equations c.args.space c.args.rules.now) at)
