-- A refusal of the system of a file is one of the file.
use Rattle.std.proofs.Common.{sym, subst}
use Rattle.lie_system.specs.KeptSystems.{system_read}
use Rattle.lie_system.specs.declared.system.System.{System}
use Rattle.lie_work.specs.Outcomes.{IsRefusalOr}
use Rattle.lie_work.specs.SolvedFile.{IsFileRefusal}
use Rattle.lie_work.proofs.FileRefusals.{fault_refuses, refusal_refuses}
use Rattle.lie_work.proofs.solved_file.solved_file.Goals as goal

pub returns-in-Err-clause-cause : goal.returns-in-Err-clause-cause
returns-in-Err-clause-cause c = subst (IsRefusalOr (IsFileRefusal c.args.bytes.now)) (sym c.not_read.ensures) (fault_refuses System c.args.bytes.now c.in-Err.fail c.in-Err.ensures.fault)

pub returns-in-Err-solve_form-clause-cause : goal.returns-in-Err-solve_form-clause-cause
returns-in-Err-solve_form-clause-cause c = subst (IsRefusalOr (IsFileRefusal c.args.bytes.now)) (sym c.not_solved.ensures)
    (refusal_refuses c.args.bytes.now (system_read c.in-Ok.system) c.in-Err-solve_form.fail c.in-Ok.ensures.found.0 c.in-Ok.ensures.found.1 c.in-Err-solve_form.ensures.refusal)
