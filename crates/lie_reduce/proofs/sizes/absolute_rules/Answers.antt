use Rattle.std.proofs.Common.{subst}
use Rattle.lie_reduce.proofs.AbsoluteRules.{AreAbsoluteRules, rules_more, absolute_equations_are, absolute_rules_ready}
use Rattle.lie_reduce.proofs.sizes.absolute_rules.Goals as goal
use Rattle.lie_ring.proofs.Fronts.{all_taken}

pub loop-rule-preserved : goal.loop-rule-preserved
loop-rule-preserved c = rules_more c.args.rules.now c.loop-rule.made.items c.push.new.self.items c.loop-rule.rule-index c.rule-item.result c.in_ok-absolute_rule.field-0 c.loop-rule-test.true c.rule-item.is c.loop-rule.invariant c.in_ok-absolute_rule.ensures.rule c.in_ok-push.ensures.items

pub returns-clause-equations : goal.returns-clause-equations
returns-clause-equations c = λ S. absolute_equations_are S c.args.rules.now c.loop-rule.made.items (subst (λ rs. AreAbsoluteRules rs c.loop-rule.made.items) (all_taken c.args.rules.now c.loop-rule.rule-index c.loop-rule-test.false) c.loop-rule.invariant)

pub returns-clause-ready : goal.returns-clause-ready
returns-clause-ready c = λ S h. absolute_rules_ready S c.args.rules.now c.loop-rule.made.items (subst (λ rs. AreAbsoluteRules rs c.loop-rule.made.items) (all_taken c.args.rules.now c.loop-rule.rule-index c.loop-rule-test.false) c.loop-rule.invariant) h
