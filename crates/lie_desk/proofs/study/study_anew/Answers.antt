-- Why a study of a free name is refused: for its run, or for want of room.
use Rattle.lie_system.specs.KeptSystems.{system_read}
use Rattle.lie_solved.specs.SolvedForms.{solved_equations}
use Rattle.lie_outer.specs.declared.rows.Row.{Row}
use Rattle.lie_desk.proofs.Entering.{entered_cause, new_report, run_cause}
use Rattle.lie_desk.proofs.study.study_anew.Goals as goal

pub returns-in-Err-clause-cause : goal.returns-in-Err-clause-cause
returns-in-Err-clause-cause g c = λ file h.
    rw c.not_made.ensures (run_cause c.args.name.now file c.args.budget _ c.in-Err.none c.requires.free (c.in-Err.ensures.cause file h))

pub returns-clause-cause : goal.returns-clause-cause
returns-clause-cause g c = λ file h.
    let solved = c.args.solved.now in
    let row : Row = record { name = c.in_ok-name.name; text = c.args.text; report = c.in-Ok.report } in
    entered_cause c.args.name.now file c.args.budget row c.in_ok-name.ensures
    (record {
      system = system_read solved.system;
      rules = solved_equations solved.system.space solved.rules.items;
      solved = h;
      printed = c.requires.canonical;
    })
    (c.in-Ok.ensures.report file h) _ _ c.enter.ensures.cause

pub returns-clause-new : goal.returns-clause-new
returns-clause-new g c = λ file h. new_report file c.args.budget c.in-Ok.report _ (c.in-Ok.ensures.report file h) c.enter.ensures.told
