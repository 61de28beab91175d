-- The content and the common monomial of triples, from the last triple to the first.
use Rattle.std.specs.Prelude.{◌≡◌, ℕ, zero, suc, ◌<◌, ◌≤◌, ◌^◌, List, [], ◌∷◌, length, drop, get_or, ℤ}
use Rattle.std.specs.Int.{IsGcd}
use Rattle.std.proofs.Common.{sym, ap, arith}
use Rattle.std.proofs.lemmas.Nat.Gcd.{same_from_IsGcd, dvd_refl, le_of_dvd}
use Rattle.std.proofs.Math.Nat.{eq-zero_of_zero-dvd}
use Rattle.lie_math.specs.Monomial.{Monomial}
use Rattle.lie_jet.specs.declared.derivative.Der.{Der}
use Rattle.lie_math.specs.CommonDivisors.{common_divisor}
use Rattle.lie_systems.specs.Normalised.{common_monomial, common_factor}
use Rattle.lie_math.proofs.CommonDivisors.{common_divisor_is}
use Rattle.lie_lin.specs.Forms.{triples_of}

pub common_step : (list : List (Der × Monomial × ℤ)) (i : ℕ) (t : Der × Monomial × ℤ) → suc i < length list → t ≡ get_or list i t → common_monomial (triples_of (drop i list)) ≡ common_factor t.1 (common_monomial (triples_of (drop (suc i) list)))
common_step [] i t lt is = absurd (omega arith)
common_step (x ∷ []) i t lt is = absurd (omega arith)
common_step (x ∷ y ∷ list) zero t lt is = ap (λ (z : Der × Monomial × ℤ). common_factor z.1 (common_monomial (triples_of (y ∷ list)))) (sym is)
common_step (x ∷ y ∷ list) (suc i) t lt is = common_step (y ∷ list) i t (omega arith) is

pub divisor_is : (a b g : ℕ) → IsGcd a b g → g ≡ common_divisor a b
divisor_is a b g h = same_from_IsGcd a b g (common_divisor a b) h (common_divisor_is a b)

-- a divisor of numbers that fit is one
pub divisor_fits : (a b g : ℕ) → IsGcd a b g → a < 2 ^ 127 → b < 2 ^ 127 → g < 2 ^ 127
divisor_fits (suc a) b g h la lb = let k : g ≤ suc a = le_of_dvd (omega arith) h.0 in omega arith
divisor_fits zero (suc b) g h la lb = let k : g ≤ suc b = le_of_dvd (omega arith) h.1 in omega arith
divisor_fits zero zero g h la lb = let k : g ≡ 0 = eq-zero_of_zero-dvd (h.2 0 (dvd_refl 0) (dvd_refl 0)) in omega arith
