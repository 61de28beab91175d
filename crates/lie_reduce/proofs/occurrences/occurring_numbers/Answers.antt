use Rattle.std.proofs.Common.{◌++◌, ap, sym, ◌∙◌}
use Rattle.lie_jet.specs.Jets.{IsJet}
use Rattle.lie_solved.specs.declared.solved.LeadRule.{LeadRule}
use Rattle.lie_ring.proofs.Fronts.{all_taken}
use Rattle.lie_reduce.specs.Occurrences.{numbers_of_rule}
use Rattle.lie_reduce.proofs.Factors.{every_rest}
use Rattle.lie_reduce.proofs.OccurringNumbers.{numbers_of_rules, numbers_more, all_among}
use Rattle.lie_reduce.proofs.occurrences.occurring_numbers.Goals as goal

pub push_coordinates-requires : goal.push_coordinates-requires
push_coordinates-requires c = (every_rest (λ (r : LeadRule). IsJet c.args.space 6 r.lead) c.args.rules.now c.loop-rule.rule-index c.rule-item.result c.loop-rule-test.true c.rule-item.is c.requires).0

pub loop-rule-preserved : goal.loop-rule-preserved
loop-rule-preserved c =
    c.in_ok-push_coordinates.ensures ∙ ap (λ ns. ns ++ numbers_of_rule c.args.space c.rule-item.result) c.loop-rule.invariant
    ∙ sym (numbers_more c.args.space c.args.rules.now c.loop-rule.rule-index c.rule-item.result c.loop-rule-test.true c.rule-item.is)

pub returns : goal.returns
returns c = all_among c.args.space c.args.rules.now c.loop-rule.numbers.items (c.loop-rule.invariant ∙ ap (numbers_of_rules c.args.space) (all_taken c.args.rules.now c.loop-rule.rule-index c.loop-rule-test.false))
