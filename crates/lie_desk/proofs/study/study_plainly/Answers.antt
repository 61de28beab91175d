-- Why a study is refused: for its file, or for another text under its name.
use Rattle.lie_system.specs.KeptSystems.{system_read}
use Rattle.lie_solved.specs.SolvedForms.{solved_equations}
use Rattle.lie_desk.proofs.Entering.{file_cause, settled_cause}
use Rattle.lie_desk.proofs.study.study_plainly.Goals as goal

pub returns-in-Err-clause-cause : goal.returns-in-Err-clause-cause
returns-in-Err-clause-cause g c = rw c.not_made.ensures (file_cause c.args.name.now c.args.file.now c.args.budget _ c.in-Err.none c.in-Err.ensures.cause)

pub returns-in-Ok-Some-clause-cause : goal.returns-in-Ok-Some-clause-cause
returns-in-Ok-Some-clause-cause g c =
    let solved = c.in-Ok.solved in
    settled_cause c.args.name.now c.args.file.now c.in_ok-text.text c.args.budget c.in-Ok-Some.row _ _
    (record {
      system = system_read solved.system;
      rules = solved_equations solved.system.space solved.rules.items;
      solved = c.in-Ok.ensures.solved;
      printed = c.in_ok-text.ensures.text;
    })
    (rw c.in-Ok-Some.field-0-is at c.in-Ok-Some.ensures.content) c.settle.ensures
