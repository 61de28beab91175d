-- The line is that of the verdict, and a failure tells what is past.
use Rattle.std.proofs.Common.{◌∙◌, sym, ap, subst}
use Rattle.lie_math.specs.VectorField.{component}
use Rattle.lie_system.specs.KeptSystems.{system_read}
use Rattle.lie_solved.specs.SolvedForms.{solved_equations}
use Rattle.lie_work.specs.Checking.{verdict_line, IsCheckRefusal}
use Rattle.lie_work.specs.Outcomes.{IsRefusalOr, untold}
use Rattle.lie_work.specs.Work.{IsAnswered}
use Rattle.lie_work.proofs.DueChecks.{check_refusal, check_done, check_failed, yes_means_invariant}
use Rattle.lie_work.proofs.checking.line_of.Goals as goal

pub returns-in_ok-verdict_line-in-Ok-clause-text : goal.returns-in_ok-verdict_line-in-Ok-clause-text
returns-in_ok-verdict_line-in-Ok-clause-text c = λ bytes field_text h is.
    let S = c.args.solved.now.system.space in
    let rs = solved_equations S c.args.solved.now.rules.items in
    let printed = c.in_ok-verdict_line-in-Ok.ensures ∙ ap (λ names. verdict_line S names c.in-Ok.verdict) c.bytes.ensures in
    let means = yes_means_invariant S c.args.solved.now.system.names rs (component c.args.field.now) c.in-Ok.verdict c.in-Ok.ensures.verdict in
    record {
      system = system_read c.args.solved.now.system;
      rules = rs;
      read = c.args.field.now;
      verdict = c.in-Ok.verdict;
      solved = h;
      is_field = is;
      found = c.in-Ok.ensures.verdict;
      within = c.in-Ok.ensures.fits;
      printed = printed;
      meaning = (λ e. means.0 (sym printed ∙ e), λ invariant. printed ∙ means.1 invariant);
    }

pub returns-in-Err-clause-cause : goal.returns-in-Err-clause-cause
returns-in-Err-clause-cause c = λ bytes field h is. subst (IsRefusalOr (IsCheckRefusal bytes field)) (sym c.not_done.ensures)
    (check_refusal c.in-Err.fail (system_read c.args.solved.now.system) (solved_equations c.args.solved.now.system.space c.args.solved.now.rules.items) c.args.field.now c.in-Err.ensures.past bytes field h is)

pub returns-in_ok-verdict_line-in-Ok-clause-due : goal.returns-in_ok-verdict_line-in-Ok-clause-due
returns-in_ok-verdict_line-in-Ok-clause-due c = λ bytes field due h is one d.
    check_done bytes field (system_read c.args.solved.now.system) (solved_equations c.args.solved.now.system.space c.args.solved.now.rules.items) c.args.field.now due h is one c.in-Ok.ensures.fits d

pub returns-in-Err-clause-due : goal.returns-in-Err-clause-due
returns-in-Err-clause-due c = λ bytes field due h is one d. subst (λ none. IsAnswered due (untold none)) (sym c.not_done.ensures)
    (check_failed bytes field (system_read c.args.solved.now.system) (solved_equations c.args.solved.now.system.space c.args.solved.now.rules.items) c.args.field.now c.in-Err.fail due h is one c.in-Err.ensures.past d)
