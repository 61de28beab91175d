use Rattle.std.proofs.Common.{◌*◌}
use Rattle.std.specs.Prelude.{neg_ℤ, ◌*ℤ◌, unsigned_abs}
use Rattle.lie_systems.specs.Normalised.{sign}
use Rattle.lie_steps.specs.Integrate.{rising}
use Rattle.lie_integral.specs.Fractions.{IsFraction}
use Rattle.lie_integral.proofs.integral.integrated_fraction.Given as goal

abbrev pub invariant-loop-step : goal.invariant-loop-step
invariant-loop-step l = IsFraction (neg_ℤ (sign l.integration.number) *ℤ l.fn.number)
    (unsigned_abs l.integration.number * rising l.exponent l.step) l.fraction
