use Rattle.std.proofs.Common.{arith, sym}
use Rattle.lie_lin.specs.Systems.{has_bit}
use Rattle.lie_lin.proofs.DecidingParts.{bits_more, high_variable, low_variables}
use Rattle.lie_lin.proofs.validity.are_bits_below.Goals as goal

pub loop-i-init : goal.loop-i-init
loop-i-init c = record { from = omega arith; clear = λ v le lt. absurd (omega arith) }

pub returns-then-has_bit : goal.returns-then-has_bit
returns-then-has_bit c = high_variable (has_bit c.args.bits) c.args.bound c.loop-i.i c.loop-i.invariant.from (omega arith) (sym c.if-has_bit.ensures)

pub loop-i-preserved : goal.loop-i-preserved
loop-i-preserved c = record { from = omega arith; clear = bits_more (has_bit c.args.bits) c.args.bound c.loop-i.i (sym c.if-has_bit.ensures) c.loop-i.invariant.clear }

pub returns : goal.returns
returns c = low_variables (has_bit c.args.bits) c.args.bound (λ v le lt. c.loop-i.invariant.clear v le (omega arith))
