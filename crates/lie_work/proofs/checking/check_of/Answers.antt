-- A text has one field or one fault, as reading it shows.
use Rattle.std.proofs.Common.{sym, subst}
use Rattle.lie_system.specs.KeptSystems.{system_read}
use Rattle.lie_solved.specs.SolvedForms.{solved_equations}
use Rattle.lie_work.specs.Checking.{IsCheckRefusal}
use Rattle.lie_work.specs.Outcomes.{IsRefusalOr, untold}
use Rattle.lie_work.specs.Work.{IsAnswered}
use Rattle.lie_work.proofs.DueChecks.{one_when_ok, field_failed, field_refusal}
use Rattle.lie_work.proofs.checking.check_of.Goals as goal

pub returns-in-Ok-clause-due : goal.returns-in-Ok-clause-due
returns-in-Ok-clause-due c = λ bytes due h d.
    c.line_of.ensures.due bytes c.args.text.now due h (record { spelled = c.in-Ok.ensures.found.0; short = c.in-Ok.ensures.found.1 })
    (one_when_ok (system_read c.args.solved.now.system) c.args.text.now c.in-Ok.field c.in-Ok.ensures.only c.in-Ok.ensures.stops) d

pub returns-in-Err-clause-cause : goal.returns-in-Err-clause-cause
returns-in-Err-clause-cause c = λ bytes h. subst (IsRefusalOr (IsCheckRefusal bytes c.args.text.now)) (sym c.not_read.ensures)
    (field_refusal c.in-Err.fail (system_read c.args.solved.now.system) (solved_equations c.args.solved.now.system.space c.args.solved.now.rules.items) c.args.text.now c.in-Err.ensures.fault bytes h)

pub returns-in-Err-clause-due : goal.returns-in-Err-clause-due
returns-in-Err-clause-due c = λ bytes due h d. subst (λ none. IsAnswered due (untold none)) (sym c.not_read.ensures)
    (field_failed bytes c.args.text.now (system_read c.args.solved.now.system) (solved_equations c.args.solved.now.system.space c.args.solved.now.rules.items) c.in-Err.fail due
    c.in-Err.ensures.only c.in-Err.ensures.stops c.in-Err.ensures.fault h d)
