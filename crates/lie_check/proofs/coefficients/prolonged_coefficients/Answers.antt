use Rattle.std.proofs.Common.{subst, sym}
use Rattle.lie_math.specs.VectorField.{component}
use Rattle.lie_geometry.specs.Prolongation.{coefficient_at}
use Rattle.lie_jet.specs.JetLists.{AreValuesUpTo}
use Rattle.lie_check.proofs.NumberedCoefficients.{value_jet, value_more, all_values}
use Rattle.lie_check.proofs.coefficients.prolonged_coefficients.Goals as goal
use Rattle.lie_check.proofs.coefficients.prolonged_coefficients.Goals.{After-deref-value-items}

values : (c : After-deref-value-items) → AreValuesUpTo c.args.space c.args.order (coefficient_at c.args.space (component c.args.field.now)) c.deref-value-items.result.now
values c = subst (AreValuesUpTo c.args.space c.args.order (coefficient_at c.args.space (component c.args.field.now))) (sym c.deref-value-items.ensures.value) c.in_ok-prolonged.ensures.coefficients

pub jet_number-requires : goal.jet_number-requires
jet_number-requires c = value_jet c.args.space (component c.args.field.now) c.args.order c.deref-value-items.result.now (values (goal.at.jet_number-requires c).After-deref-value-items) c.loop-value.value-index c.value-item.result c.requires.low c.loop-value-test.true c.value-item.is

pub loop-value-preserved : goal.loop-value-preserved
loop-value-preserved c = value_more c.args.space (component c.args.field.now) c.args.order c.deref-value-items.result.now (values (goal.at.loop-value-preserved c).After-deref-value-items) c.args.numbers.now c.loop-value.value-index c.jet_number.result c.value-item.result c.loop-value.made.items c.push_copy.new.made.items c.loop-value-test.true c.value-item.is c.loop-value.invariant c.jet_number.ensures.number c.in_ok-push_copy.ensures

pub returns-clause-coefficients : goal.returns-clause-coefficients
returns-clause-coefficients c = all_values c.args.space (component c.args.field.now) c.args.order c.deref-value-items.result.now (values (goal.at.returns-clause-coefficients c).After-deref-value-items) c.args.numbers.now c.loop-value.value-index c.loop-value.made.items c.loop-value.auto.value-index-end c.loop-value-test.false c.loop-value.invariant
