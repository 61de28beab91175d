-- The text is the report of the basis up to the degree, and a failure tells why there is none.
use Rattle.std.proofs.Common.{sym, subst}
use Rattle.lie_system.specs.KeptSystems.{system_read}
use Rattle.lie_solved.specs.SolvedForms.{solved_equations}
use Rattle.lie_work.specs.Degree.{IsDegreeRefusal}
use Rattle.lie_work.specs.Outcomes.{IsRefusalOr, untold}
use Rattle.lie_work.specs.Work.{IsAnswered}
use Rattle.lie_work.proofs.DueDegrees.{degree_refusal, degree_done, degree_failed}
use Rattle.lie_work.proofs.degree.degree_of.Goals as goal

pub returns-in-Err-clause-cause : goal.returns-in-Err-clause-cause
returns-in-Err-clause-cause c = λ bytes h. subst (IsRefusalOr (IsDegreeRefusal bytes c.args.highest)) (sym c.no_basis.ensures)
    (degree_refusal c.in-Err.fail (system_read c.args.solved.now.system) (solved_equations c.args.solved.now.system.space c.args.solved.now.rules.items) c.args.highest
    c.in-Err.ensures.stop bytes h)

pub returns-in-Err-clause-due : goal.returns-in-Err-clause-due
returns-in-Err-clause-due c = λ bytes due h d. subst (λ none. IsAnswered due (untold none)) (sym c.no_basis.ensures)
    (degree_failed c.answers_differ.ensures bytes (system_read c.args.solved.now.system) (solved_equations c.args.solved.now.system.space c.args.solved.now.rules.items) c.args.highest h
    c.in-Err.fail due c.in-Err.ensures.stop d)

pub returns-in_ok-write_report-in-Ok-clause-due : goal.returns-in_ok-write_report-in-Ok-clause-due
returns-in_ok-write_report-in-Ok-clause-due c = λ bytes due h d.
    degree_done c.answers_differ.ensures bytes (system_read c.args.solved.now.system) (solved_equations c.args.solved.now.system.space c.args.solved.now.rules.items) c.args.highest h
    due c.in-Ok.ensures.fits d
