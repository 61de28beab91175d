-- A text that is made is put, and a refusal is one of the work.
use Rattle.std.proofs.Common.{sym, subst}
use Rattle.lie_work.specs.Commands.{file_in_words}
use Rattle.lie_work.specs.Work.{IsWorkOutcome, refused, no_memory}
use Rattle.lie_work.proofs.Outcomes.{put_is_outcome}
use Rattle.lie_app.proofs.on_file.answer.Goals as goal

pub returns-in-Ok-clause-cause : goal.returns-in-Ok-clause-cause
returns-in-Ok-clause-cause g c =
    let asked = file_in_words (λ w. w.now) c.args.command.now in
    subst (IsWorkOutcome asked c.args.bytes.now) (sym c.put_outcome.ensures) (put_is_outcome asked c.args.bytes.now c.put.result)

pub returns-in-Err-Refused-clause-cause : goal.returns-in-Err-Refused-clause-cause
returns-in-Err-Refused-clause-cause g c = rw c.in-Err-Refused.refusal-is (refused c.in-Err-Refused.refusal (rw c.in-Err-Refused.field-0-is at c.in-Err-Refused.ensures.cause))

pub returns-in-Err-NoMemory-clause-cause : goal.returns-in-Err-NoMemory-clause-cause
returns-in-Err-NoMemory-clause-cause g c = no_memory
