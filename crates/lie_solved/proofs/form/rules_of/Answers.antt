use Rattle.std.proofs.Common.{◌≡◌, ◌+◌, sym, subst, map, take, false}
use Rattle.std.proofs.lemmas.Result.{err_from_is_err_and}
use Rattle.lie_geometry.specs.SolvedEquations.{is_lead}
use Rattle.lie_system.specs.Equations.{equation_read}
use Rattle.lie_solved.specs.SolvedForms.{solved_equation, solved_equations}
use Rattle.lie_solved.specs.Refusals.{IsReached}
use Rattle.lie_solved.specs.Equations.{AreRules}
use Rattle.lie_solved.proofs.RuleSteps.{written_at, reached_at, rules_more}
use Rattle.lie_solved.proofs.form.rules_of.Goals as goal

pub next_rule-requires-clause-written : goal.next_rule-requires-clause-written
next_rule-requires-clause-written c = written_at c.args.space (equation_read c.args.space) c.args.equations.now c.loop-i.i c.index-equations-i.result c.loop-i-test.true c.index-equations-i.is c.requires.equations

pub returns-in_err-rule-clause-refusal : goal.returns-in_err-rule-clause-refusal
returns-in_err-rule-clause-refusal c =
    let p = err_from_is_err_and c.from_residual.result c.from_residual.ensures.1 in
    rw (p.1, p.2)
    (c.in_err-rule.ensures.refusal (map (equation_read c.args.space) c.args.equations.now)
    (subst (λ rs. IsReached c.args.space (map (equation_read c.args.space) c.args.equations.now) (c.loop-i.i + 1) (solved_equations c.args.space rs) (equation_read c.args.space c.index-equations-i.result)) (sym c.as_slice.ensures.value)
    (reached_at c.args.space (equation_read c.args.space) c.args.equations.now c.loop-i.i c.index-equations-i.result c.loop-i.rules.items c.loop-i-test.true c.index-equations-i.is c.loop-i.invariant)))

pub loop-i-preserved : goal.loop-i-preserved
loop-i-preserved c =
    subst (AreRules c.args.space (map (equation_read c.args.space) (take (c.loop-i.i + 1) c.args.equations.now))) (sym c.in_ok-push.ensures.items)
    (rules_more c.args.space (equation_read c.args.space) c.args.equations.now c.loop-i.i c.index-equations-i.result c.loop-i.rules.items c.in_ok-rule.rule c.loop-i-test.true c.index-equations-i.is c.loop-i.invariant c.in_ok-rule.ensures.rule.0
    (subst (λ rs. is_lead (solved_equations c.args.space rs) (solved_equation c.args.space c.in_ok-rule.rule).lead ≡ false) c.as_slice.ensures.value c.in_ok-rule.ensures.rule.1))
