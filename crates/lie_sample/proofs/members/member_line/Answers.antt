-- The line tells the numbers of the report that the analysis of the member's file has.
use Rattle.std.specs.Prelude.{option_map}
use Rattle.std.proofs.Common.{refl, subst, ◌∙◌}
use Rattle.lie_system.specs.KeptSystems.{system_read}
use Rattle.lie_solved.specs.SolvedForms.{solved_equations}
use Rattle.lie_report.specs.Reports.{found_of, symmetries}
use Rattle.lie_report.specs.Report.{report_text}
use Rattle.lie_work.specs.Outcomes.{IsRefusalOr}
use Rattle.lie_work.specs.SolvedFile.{IsSolvedFile, IsFileRefusal}
use Rattle.lie_work.specs.declared.command.FileCommand.TheVariants.{Analyse}
use Rattle.lie_work.proofs.Outcomes.{file_is_work, file_made}
use Rattle.lie_sample.specs.Family.{family_file}
use Rattle.lie_sample.proofs.members.member_line.Goals as goal

pub returns-in-Err-clause-cause : goal.returns-in-Err-clause-cause
returns-in-Err-clause-cause c =
    file_is_work (Analyse c.args.budget) (family_file c.args.k) c.in-Err.none
    (subst (λ bytes. IsRefusalOr (IsFileRefusal bytes) c.in-Err.none) (c.deref.ensures.value ∙ c.in_ok-file.ensures) c.in-Err.ensures.cause)

pub returns-in-Err-clause-due : goal.returns-in-Err-clause-due
returns-in-Err-clause-due c = λ due d.
    let file = c.deref.ensures.value ∙ c.in_ok-file.ensures in
    file_made (Analyse c.args.budget) (family_file c.args.k) c.in-Err.none due
    (subst (λ bytes. IsRefusalOr (IsFileRefusal bytes) c.in-Err.none) file c.in-Err.ensures.cause) d

pub returns-clause-line : goal.returns-clause-line
returns-clause-line c =
    let s = system_read c.in-Ok.solved.system in
    let analysis = c.in-Ok-analysis_of.analysis in
    let told = analysis.system.system in
    let found = option_map found_of analysis.found in
    record {
      report = report_text (symmetries (record { space = s.space; names = s.names }) told found);
      made = record {
        system = s;
        rules = solved_equations c.in-Ok.solved.system.space c.in-Ok.solved.rules.items;
        told = told;
        found = found;
        solved = subst (λ bytes. IsSolvedFile bytes s (solved_equations c.in-Ok.solved.system.space c.in-Ok.solved.rules.items))
            (c.deref.ensures.value ∙ c.in_ok-file.ensures) c.in-Ok.ensures.solved;
        analysed = c.in-Ok-analysis_of.ensures.analysed;
        printed = refl;
        meaning = c.in-Ok-analysis_of.ensures.meaning;
      };
      printed = c.in_ok-numbers_line.ensures;
    }
