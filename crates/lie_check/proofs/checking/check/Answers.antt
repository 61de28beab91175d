use Rattle.std.proofs.Common.{subst, sym}
use Rattle.lie_math.specs.VectorField.{component}
use Rattle.lie_jet.proofs.TotalParts.{if_ok}
use Rattle.lie_jet.proofs.TotalSteps.{if_err}
use Rattle.lie_solved.specs.SolvedForms.{solved_equations}
use Rattle.lie_solved.specs.SolvedRules.{AreSolvedRules}
use Rattle.lie_check.specs.Actions.{IsActionCause}
use Rattle.lie_check.specs.Verdicts.{IsVerdict}
use Rattle.lie_check.proofs.checking.check.Goals as goal

pub verdict_of-requires-clause-rules : goal.verdict_of-requires-clause-rules
verdict_of-requires-clause-rules c = subst (AreSolvedRules c.args.solved.now.system.space) (sym c.as_slice.ensures.value) c.args.solved.now.ready

pub returns-clause-verdict : goal.returns-clause-verdict
returns-clause-verdict c =
    let S = c.args.solved.now.system.space in
    if_ok c.verdict_of.result (λ v h. subst (λ rules. IsVerdict S (solved_equations S rules) (component c.args.field.now) v) c.as_slice.ensures.value h) c.verdict_of.ensures.verdict

pub returns-clause-past : goal.returns-clause-past
returns-clause-past c =
    let S = c.args.solved.now.system.space in
    if_err c.verdict_of.result (λ fail h. subst (λ rules. IsActionCause S (solved_equations S rules) (component c.args.field.now) fail) c.as_slice.ensures.value h) c.verdict_of.ensures.past
