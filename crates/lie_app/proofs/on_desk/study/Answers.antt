-- What is so of a study of the bytes that were read is so of the file.
use Rattle.std.proofs.Common.{sym, subst}
use Rattle.lie_app.specs.OnDesk.{HasRefusal, IsStudyRefused, IsStudyCommandDue, no_file}
use Rattle.lie_app.specs.OnFile.{IsContent}
use Rattle.lie_app.specs.Outside.{outside}
use Rattle.lie_app.proofs.StudiesOnFiles.{study_refused, study_due, missing_due, long_due, long_refused}
use Rattle.lie_app.proofs.on_desk.study.Goals as goal

pub returns-in-Ok-read-clause-cause : goal.returns-in-Ok-read-clause-cause
returns-in-Ok-read-clause-cause g c =
    let held = g.F.Files.held c.args.files.now in
    let rows = g.K.Keeper.held c.args.keeper.now in
    let content : IsContent held c.args.path.now c.bytes-in-Ok-read.result.now = subst (IsContent held c.args.path.now) (sym c.bytes-in-Ok-read.ensures) c.in-Ok-read.ensures.content in
    subst (λ n. HasRefusal (IsStudyRefused (outside held rows) n c.args.path.now c.args.budget) c.study_bytes.result) c.in-Ok.ensures
    (study_refused held rows c.in-Ok.name c.args.path.now c.args.budget c.bytes-in-Ok-read.result.now c.study_bytes.result content c.study_bytes.ensures.cause)

pub returns-in-Ok-read-clause-due : goal.returns-in-Ok-read-clause-due
returns-in-Ok-read-clause-due g c = λ due d.
    let held = g.F.Files.held c.args.files.now in
    let rows = g.K.Keeper.held c.args.keeper.now in
    let content : IsContent held c.args.path.now c.bytes-in-Ok-read.result.now = subst (IsContent held c.args.path.now) (sym c.bytes-in-Ok-read.ensures) c.in-Ok-read.ensures.content in
    study_due held rows c.in-Ok.name c.args.path.now c.args.budget c.bytes-in-Ok-read.result.now c.study_bytes.result due content c.study_bytes.ensures.due
    (subst (λ n. IsStudyCommandDue (outside held rows) n c.args.path.now c.args.budget due) (sym c.in-Ok.ensures) d)

pub returns-in-Err-Missing-clause-cause : goal.returns-in-Err-Missing-clause-cause
returns-in-Err-Missing-clause-cause g c = no_file (rw c.in-Err-Missing.field-0-is at c.in-Err-Missing.ensures.content)

pub returns-in-Err-Missing-clause-due : goal.returns-in-Err-Missing-clause-due
returns-in-Err-Missing-clause-due g c = λ due d.
    missing_due (g.F.Files.held c.args.files.now) (g.K.Keeper.held c.args.keeper.now) _ c.args.path.now c.args.budget due
    (rw c.in-Err-Missing.field-0-is at c.in-Err-Missing.ensures.content) d

pub returns-in-Err-TooLong-clause-cause : goal.returns-in-Err-TooLong-clause-cause
returns-in-Err-TooLong-clause-cause g c =
    long_refused (g.F.Files.held c.args.files.now) (g.K.Keeper.held c.args.keeper.now) c.args.name.now c.args.path.now c.args.budget
    (rw c.in-Err-TooLong.field-0-is at c.in-Err-TooLong.ensures.content)

pub returns-in-Err-TooLong-clause-due : goal.returns-in-Err-TooLong-clause-due
returns-in-Err-TooLong-clause-due g c = λ due d.
    long_due (g.F.Files.held c.args.files.now) (g.K.Keeper.held c.args.keeper.now) c.args.name.now c.args.path.now c.args.budget due
    (rw c.in-Err-TooLong.field-0-is at c.in-Err-TooLong.ensures.content) d
