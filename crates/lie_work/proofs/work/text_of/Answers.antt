-- The work on the system of a file is that of its command.
use Rattle.lie_work.specs.Commands.{file_in_words}
use Rattle.lie_work.proofs.Outcomes.{file_is_work, file_made, if_err}
use Rattle.lie_work.proofs.work.text_of.Goals as goal

pub returns-in-Err-clause-cause : goal.returns-in-Err-clause-cause
returns-in-Err-clause-cause c = file_is_work (file_in_words (λ w. w.now) c.args.command.now) c.args.bytes.now c.in-Err.none c.in-Err.ensures.cause

pub returns-in-Err-clause-due : goal.returns-in-Err-clause-due
returns-in-Err-clause-due c = λ due d. file_made (file_in_words (λ w. w.now) c.args.command.now) c.args.bytes.now c.in-Err.none due c.in-Err.ensures.cause d

pub returns-in-Determine-clause-cause : goal.returns-in-Determine-clause-cause
returns-in-Determine-clause-cause c = rw c.in-Determine.is (if_err c.report_of.result _ _ (λ none cause. cause c.args.bytes.now c.in-Ok.ensures.solved) c.report_of.ensures.cause)

pub returns-in-Determine-clause-due : goal.returns-in-Determine-clause-due
returns-in-Determine-clause-due c = rw c.in-Determine.is (λ due d. c.report_of.ensures.due c.args.bytes.now due c.in-Ok.ensures.solved d)

pub returns-in-Check-clause-cause : goal.returns-in-Check-clause-cause
returns-in-Check-clause-cause c = rw (c.in-Check.is, ← c.as_bytes.ensures.value) (if_err c.check_of.result _ _ (λ none cause. cause c.args.bytes.now c.in-Ok.ensures.solved) c.check_of.ensures.cause)

pub returns-in-Check-clause-due : goal.returns-in-Check-clause-due
returns-in-Check-clause-due c = rw (c.in-Check.is, ← c.as_bytes.ensures.value) (λ due d. c.check_of.ensures.due c.args.bytes.now due c.in-Ok.ensures.solved d)

pub returns-in-Analyse-clause-cause : goal.returns-in-Analyse-clause-cause
returns-in-Analyse-clause-cause c = rw c.in-Analyse.is (if_err c.symmetries_of.result _ _ (λ none cause. cause c.args.bytes.now c.in-Ok.ensures.solved) c.symmetries_of.ensures.cause)

pub returns-in-Analyse-clause-due : goal.returns-in-Analyse-clause-due
returns-in-Analyse-clause-due c = rw c.in-Analyse.is (λ due d. c.symmetries_of.ensures.due c.args.bytes.now due c.in-Ok.ensures.solved d)

pub returns-clause-cause : goal.returns-clause-cause
returns-clause-cause c = rw c.in-Degree.is (if_err c.degree_of.result _ _ (λ none cause. cause c.args.bytes.now c.in-Ok.ensures.solved) c.degree_of.ensures.cause)

pub returns-clause-due : goal.returns-clause-due
returns-clause-due c = rw c.in-Degree.is (λ due d. c.degree_of.ensures.due c.args.bytes.now due c.in-Ok.ensures.solved d)
