use Rattle.std.proofs.Common.{◌≡◌, take}
use Rattle.lie_jet.specs.Listed.{sum_listed, bulk_listed}
use Rattle.lie_reduce.specs.Applications.{sides, applied_to}
use Rattle.lie_reduce.proofs.ApplicationSteps.{sized}
use Rattle.lie_reduce.proofs.application.applied.Given as goal

abbrev pub invariant-loop-coefficient : goal.invariant-loop-coefficient
invariant-loop-coefficient l =
    (sum_listed l.made.items ≡ applied_to (take l.coefficient-index l.coefficients) (sides l.lead l.rule.c l.sign l.rule.right))
    × (bulk_listed l.made.items ≡ sized l.lead l.rule.c l.sign l.rule.right (take l.coefficient-index l.coefficients))
