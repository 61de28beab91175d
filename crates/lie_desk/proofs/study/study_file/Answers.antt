-- What follows of the answer of a study.
use Rattle.lie_desk.proofs.HonestRows.{report_is_of_file, study_keeps_honest}
use Rattle.lie_desk.proofs.DueStudies.{study_is_given}
use Rattle.lie_desk.proofs.study.study_file.Goals as goal

pub returns-clause-report : goal.returns-clause-report
returns-clause-report g c = report_is_of_file c.canonical_text_fixes_report.ensures c.args.name.now c.args.file.now c.args.budget _ _ _ c.study_plainly.ensures.rows

pub returns-clause-honest : goal.returns-clause-honest
returns-clause-honest g c = study_keeps_honest c.args.name.now c.args.file.now c.args.budget _ _ _ c.study_plainly.ensures.rows

pub returns-clause-due : goal.returns-clause-due
returns-clause-due g c =
    study_is_given c.canonical_text_is_one.ensures c.answers_differ.ensures c.args.name.now c.args.file.now c.args.budget _ _ _ c.study_plainly.ensures.rows c.study_plainly.ensures.cause
