-- The powers of a monomial of a file can be printed and read again.
use Rattle.std.specs.Prelude.{ℕ, ◌≡◌, ◌≤◌, ◌<◌, ltb, Bool, true, false, zero, suc, refl}
use Rattle.std.specs.List.{AllByRecursion as Every}
use Rattle.std.proofs.Common.{sym, subst, ◌∙◌, arith}
use Rattle.std.proofs.lemmas.Bool.Decides.{nat_tests}
use Rattle.lie_math.specs.Monomial.{Monomial, exponent, powers}
use Rattle.lie_math.proofs.FiniteSum.{entries_of}
use Rattle.lie_geometry.specs.Coordinates.{Space, coordinates_up_to}
use Rattle.lie_jet.specs.Listed.{HasVariablesBelow}
use Rattle.lie_system.specs.Exponents.{HasSmallExponents}
use Rattle.lie_canonical.proofs.PrintedPowers.{IsLowPower}

pub low_powers : (S : Space) (m : Monomial) → HasVariablesBelow (coordinates_up_to S 6) m → HasSmallExponents m → Every (IsLowPower S) m.list
low_powers S m below small = entries_of powers m (IsLowPower S) (λ p is apart. record { variable = low p.0 p.1 is apart; some = positive p.1 apart; low = subst (λ e. e ≤ 32) is (small p.0) })
  where
    positive : (e : ℕ) → ¬ (e ≡ 0) → 1 ≤ e
    positive zero n = absurd (n refl)
    positive (suc e) n = omega arith

    low : (v e : ℕ) → exponent m v ≡ e → ¬ (e ≡ 0) → v < coordinates_up_to S 6
    low v e is n = go (ltb v (coordinates_up_to S 6)) refl
      where
        go : (b : Bool) → ltb v (coordinates_up_to S 6) ≡ b → v < coordinates_up_to S 6
        go true t = grind (arith, nat_tests, t)
        go false t = let high : coordinates_up_to S 6 ≤ v = grind (arith, nat_tests, t) in absurd (n (sym is ∙ below v high))
