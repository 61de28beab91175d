-- The text is the report of the opening system, and a failure tells what is past.
use Rattle.std.proofs.Common.{◌∙◌, sym, ap₂, subst}
use Rattle.lie_system.specs.KeptSystems.{system_read}
use Rattle.lie_solved.specs.SolvedForms.{solved_equations}
use Rattle.lie_report.specs.Report.{report}
use Rattle.lie_work.specs.Determine.{IsReportRefusal}
use Rattle.lie_work.specs.Outcomes.{IsRefusalOr, untold}
use Rattle.lie_work.specs.Work.{IsAnswered}
use Rattle.lie_work.proofs.DueReports.{opening_refusal, opening_done, opening_failed}
use Rattle.lie_work.proofs.determine.report_of.Goals as goal

pub returns-in_ok-determining_report-in-Ok-clause-text : goal.returns-in_ok-determining_report-in-Ok-clause-text
returns-in_ok-determining_report-in-Ok-clause-text c = λ bytes h. record {
  system = system_read c.args.solved.now.system;
  rules = solved_equations c.args.solved.now.system.space c.args.solved.now.rules.items;
  opening = c.in-Ok.system.system;
  solved = h;
  made = c.in-Ok.ensures.opening;
  within = c.in-Ok.ensures.fits;
  printed = c.in_ok-determining_report-in-Ok.ensures ∙ ap₂ (λ S names. report S names c.in-Ok.system.system) c.in-Ok.ensures.space c.bytes.ensures;
  meaning = c.in-Ok.ensures.meaning;
}

pub returns-in-Err-clause-cause : goal.returns-in-Err-clause-cause
returns-in-Err-clause-cause c = λ bytes h. subst (IsRefusalOr (IsReportRefusal bytes)) (sym c.not_done.ensures)
    (opening_refusal c.in-Err.fail (system_read c.args.solved.now.system) (solved_equations c.args.solved.now.system.space c.args.solved.now.rules.items) c.in-Err.ensures.past bytes h)

pub returns-in_ok-determining_report-in-Ok-clause-due : goal.returns-in_ok-determining_report-in-Ok-clause-due
returns-in_ok-determining_report-in-Ok-clause-due c = λ bytes due h d.
    opening_done bytes (system_read c.args.solved.now.system) (solved_equations c.args.solved.now.system.space c.args.solved.now.rules.items) due h c.in-Ok.ensures.fits d

pub returns-in-Err-clause-due : goal.returns-in-Err-clause-due
returns-in-Err-clause-due c = λ bytes due h d. subst (λ none. IsAnswered due (untold none)) (sym c.not_done.ensures)
    (opening_failed bytes (system_read c.args.solved.now.system) (solved_equations c.args.solved.now.system.space c.args.solved.now.rules.items) c.in-Err.fail due h c.in-Err.ensures.past d)
