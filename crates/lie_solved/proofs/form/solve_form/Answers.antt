use Rattle.std.proofs.Common.{sym, subst, map}
use Rattle.lie_system.specs.Equations.{equation_read}
use Rattle.lie_system.specs.Written.{AreWritten}
use Rattle.lie_system.proofs.KeptEquations.{kept_written}
use Rattle.lie_solved.specs.Equations.{AreRules}
use Rattle.lie_solved.proofs.ReadyRules.{ready_rules}
use Rattle.lie_solved.proofs.RuleSteps.{few_rules, form_of_rules}
use Rattle.lie_solved.proofs.form.solve_form.Goals as goal

pub rules_of-requires : goal.rules_of-requires
rules_of-requires c =
    subst (λ es. AreWritten c.args.system.space (map (equation_read c.args.system.space) es)) (sym c.as_slice.ensures.value)
    (kept_written c.args.system.space c.args.system.equations.items c.args.system.kept)

pub first_inside-requires-clause-few : goal.first_inside-requires-clause-few
first_inside-requires-clause-few c =
    few_rules c.args.system.space (map (equation_read c.args.system.space) c.args.system.equations.items) c.in_ok-rules.rules.items c.as_slice-2.result.now (kept_written c.args.system.space c.args.system.equations.items c.args.system.kept).few
    (subst (λ es. AreRules c.args.system.space (map (equation_read c.args.system.space) es) c.in_ok-rules.rules.items) c.as_slice.ensures.value c.in_ok-rules.ensures.rules) c.as_slice-2.ensures.value

pub returns-in-None-clause-form : goal.returns-in-None-clause-form
returns-in-None-clause-form c =
    form_of_rules c.args.system.space (map (equation_read c.args.system.space) c.args.system.equations.items) c.in_ok-rules.rules.items c.as_slice-2.result.now
    (subst (λ es. AreRules c.args.system.space (map (equation_read c.args.system.space) es) c.in_ok-rules.rules.items) c.as_slice.ensures.value c.in_ok-rules.ensures.rules) c.as_slice-2.ensures.value
    (rw c.in-None.is at c.in_ok-place.ensures)

pub invariant_of-result : goal.invariant_of-result
invariant_of-result c = record {
  ready =
      ready_rules c.args.system.space (map (equation_read c.args.system.space) c.args.system.equations.items) c.in_ok-rules.rules.items c.as_slice-2.result.now (kept_written c.args.system.space c.args.system.equations.items c.args.system.kept)
      (few_rules c.args.system.space (map (equation_read c.args.system.space) c.args.system.equations.items) c.in_ok-rules.rules.items c.as_slice-2.result.now (kept_written c.args.system.space c.args.system.equations.items c.args.system.kept).few
      (subst (λ es. AreRules c.args.system.space (map (equation_read c.args.system.space) es) c.in_ok-rules.rules.items) c.as_slice.ensures.value c.in_ok-rules.ensures.rules) c.as_slice-2.ensures.value)
      (subst (λ es. AreRules c.args.system.space (map (equation_read c.args.system.space) es) c.in_ok-rules.rules.items) c.as_slice.ensures.value c.in_ok-rules.ensures.rules) c.as_slice-2.ensures.value
      (rw c.in-None.is at c.in_ok-place.ensures);
}
