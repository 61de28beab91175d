use Rattle.lie_geometry.specs.SymbolicProlongation.{unknown}
use Rattle.lie_jet.specs.Derivatives.{derivative_of}
use Rattle.lie_symbolic.proofs.SymbolicSteps.{unknown_put, unknown_cause, unknown_within}
use Rattle.lie_symbolic.proofs.SymbolicWithin.{never_past}
use Rattle.lie_symbolic.proofs.symbolic_coefficient.component.Goals as goal
use Rattle.lie_ring.specs.declared.failures.PolyFail.TheVariants.{Past}

pub unreachable-requires : goal.unreachable-requires
unreachable-requires c =
    never_past c.in-Err-Past.field-0-0 (unknown c.args.variable) (unknown_within c.args.variable)
    (unknown_cause c.args.variable (Past c.in-Err-Past.field-0-0) c.zero-form.result (derivative_of c.unknown.result) c.one.result c.in_ok-one.one c.zero-form.ensures c.one.ensures c.in_ok-one.ensures
    (rw c.in-Err-Past.field-0-is at c.in-Err-Past.ensures.past))

pub returns-in-Ok : goal.returns-in-Ok
returns-in-Ok c = unknown_put c.args.variable c.zero-form.result c.put.new.self (derivative_of c.unknown.result) c.one.result c.in_ok-one.one c.zero-form.ensures c.unknown.ensures c.one.ensures c.in_ok-one.ensures c.in-Ok.ensures.sum
