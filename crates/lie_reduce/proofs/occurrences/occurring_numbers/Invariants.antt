use Rattle.std.proofs.Common.{◌≡◌, take}
use Rattle.lie_reduce.proofs.OccurringNumbers.{numbers_of_rules}
use Rattle.lie_reduce.proofs.occurrences.occurring_numbers.Given as goal

abbrev pub invariant-loop-rule : goal.invariant-loop-rule
invariant-loop-rule l = l.numbers.items ≡ numbers_of_rules l.space (take l.rule-index l.rules)
