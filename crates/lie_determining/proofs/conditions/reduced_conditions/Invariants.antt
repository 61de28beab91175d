use Rattle.std.specs.List.{AllByRecursion as Every}
use Rattle.lie_systems.specs.Bulk.{IsFormWithinLimits}
use Rattle.lie_determining.proofs.ConditionSteps.{AreMade, AreDone}
use Rattle.lie_determining.proofs.conditions.reduced_conditions.Given as goal

abbrev pub invariant-loop-place : goal.invariant-loop-place
invariant-loop-place l = record {
  made : AreMade l.space l.rules l.place l.made.items;
  done : AreDone l.space l.rules l.place;
  within : Every IsFormWithinLimits l.made.items;
}
