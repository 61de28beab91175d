-- A failure tells why the analysis has no end.
use Rattle.std.proofs.Common.{sym, subst}
use Rattle.std.specs.Prelude.{option_map}
use Rattle.lie_system.specs.KeptSystems.{system_read}
use Rattle.lie_solved.specs.SolvedForms.{solved_equations}
use Rattle.lie_report.specs.Reports.{found_of}
use Rattle.lie_work.specs.Analyse.{IsAnalyseRefusal}
use Rattle.lie_work.specs.Outcomes.{IsRefusalOr, untold}
use Rattle.lie_work.specs.Work.{IsAnswered}
use Rattle.lie_work.proofs.DueSymmetries.{analysis_refusal, analysis_done, analysis_failed}
use Rattle.lie_work.proofs.analyse.analysis_of.Goals as goal

pub returns-in-Err-clause-cause : goal.returns-in-Err-clause-cause
returns-in-Err-clause-cause c = λ bytes h. subst (IsRefusalOr (IsAnalyseRefusal bytes c.args.budget)) (sym c.not_analysed.ensures)
    (analysis_refusal c.in-Err.fail (system_read c.args.solved.now.system) (solved_equations c.args.solved.now.system.space c.args.solved.now.rules.items) c.args.budget
    c.in-Err.ensures.unfinished bytes h)

pub returns-in-Err-clause-due : goal.returns-in-Err-clause-due
returns-in-Err-clause-due c = λ bytes due h d. subst (λ none. IsAnswered due (untold none)) (sym c.not_analysed.ensures)
    (analysis_failed c.answers_differ.ensures bytes (system_read c.args.solved.now.system) (solved_equations c.args.solved.now.system.space c.args.solved.now.rules.items) c.args.budget h
    c.in-Err.fail due c.in-Err.ensures.unfinished d)

pub returns-in-Ok-clause-due : goal.returns-in-Ok-clause-due
returns-in-Ok-clause-due c = λ bytes due h d.
    analysis_done c.answers_differ.ensures bytes (system_read c.args.solved.now.system) (solved_equations c.args.solved.now.system.space c.args.solved.now.rules.items) c.args.budget h
    c.in-Ok.analysis.system.system (option_map found_of c.in-Ok.analysis.found) due c.in-Ok.ensures.analysed d
