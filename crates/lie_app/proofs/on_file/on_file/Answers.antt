-- What is so of the bytes that were read is so of the file.
use Rattle.std.proofs.Common.{sym, subst}
use Rattle.lie_app.specs.OnFile.{IsContent, missing}
use Rattle.lie_work.specs.Commands.{file_in_words}
use Rattle.lie_app.proofs.Outcomes.{no_keeper_fault, outcome_on_file, too_long_refused, due_when_read, due_when_long}
use Rattle.lie_app.proofs.on_file.on_file.Goals as goal

pub returns-in-Ok-clause-cause : goal.returns-in-Ok-clause-cause
returns-in-Ok-clause-cause g c =
    let told = g.F.Files.held c.args.files.now in
    let content : IsContent told c.args.path.now c.bytes-in-Ok.result.now = subst (IsContent told c.args.path.now) (sym c.bytes-in-Ok.ensures) c.in-Ok.ensures.content in
    outcome_on_file told c.args.path.now (file_in_words (λ w. w.now) c.args.command.now) c.bytes-in-Ok.result.now c.answer.result content c.answer.ensures.cause

pub returns-in-Ok-clause-due : goal.returns-in-Ok-clause-due
returns-in-Ok-clause-due g c = λ due d.
    let told = g.F.Files.held c.args.files.now in
    let content : IsContent told c.args.path.now c.bytes-in-Ok.result.now = subst (IsContent told c.args.path.now) (sym c.bytes-in-Ok.ensures) c.in-Ok.ensures.content in
    c.answer.ensures.due due (due_when_read told c.args.path.now (file_in_words (λ w. w.now) c.args.command.now) c.bytes-in-Ok.result.now due content d)

pub returns-in-Err-Missing-clause-cause : goal.returns-in-Err-Missing-clause-cause
returns-in-Err-Missing-clause-cause g c = missing (rw c.in-Err-Missing.field-0-is at c.in-Err-Missing.ensures.content)

pub returns-in-Err-TooLong-clause-cause : goal.returns-in-Err-TooLong-clause-cause
returns-in-Err-TooLong-clause-cause g c =
    too_long_refused (g.F.Files.held c.args.files.now) c.args.path.now (file_in_words (λ w. w.now) c.args.command.now) (rw c.in-Err-TooLong.field-0-is at c.in-Err-TooLong.ensures.content)

pub returns-in-Err-TooLong-clause-due : goal.returns-in-Err-TooLong-clause-due
returns-in-Err-TooLong-clause-due g c = λ due d.
    due_when_long (g.F.Files.held c.args.files.now) c.args.path.now (file_in_words (λ w. w.now) c.args.command.now) due
    (rw c.in-Err-TooLong.field-0-is at c.in-Err-TooLong.ensures.content) d

pub returns-in-Ok-clause-no_keeper : goal.returns-in-Ok-clause-no_keeper
returns-in-Ok-clause-no_keeper g c =
    no_keeper_fault (file_in_words (λ w. w.now) c.args.command.now) c.bytes-in-Ok.result.now c.answer.result c.answer.ensures.cause
