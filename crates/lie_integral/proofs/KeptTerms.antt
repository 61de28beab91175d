-- The terms of a form as they are kept: what each of them has.
use Rattle.std.specs.Prelude.{◌≡◌, ℕ, zero, suc, ◌<◌, List, [], ◌∷◌, length, get_or}
use Rattle.std.specs.List.{AllByRecursion as Every}
use Rattle.std.proofs.Common.{refl, sym, ap, subst, arith}
use Rattle.lie_math.specs.Counts.{Derivative}
use Rattle.lie_math.specs.Polynomial.{WholePolynomial}
use Rattle.lie_jet.specs.Derivatives.{derivative_of}
use Rattle.lie_jet.specs.declared.derivative.Der.{Der}
use Rattle.lie_lin.specs.Forms.{coefficients_of}

pub length-coefficients : (ts : List (Der × WholePolynomial)) → length (coefficients_of ts) ≡ length ts
length-coefficients [] = refl
length-coefficients (t ∷ ts) = ap suc (length-coefficients ts)

module _ (P : Derivative × WholePolynomial → Type 0) where
  pub kept_entries : (ts : List (Der × WholePolynomial)) → Every (λ (t : Der × WholePolynomial). P (derivative_of t.0, t.1)) ts
      → Every P (coefficients_of ts)
  kept_entries [] h = tt
  kept_entries (t ∷ ts) h = (h.0, kept_entries ts h.1)

  pub entry_at : (ts : List (Der × WholePolynomial)) (k : ℕ) (x : Der × WholePolynomial) → k < length ts → x ≡ get_or ts k x
      → Every P (coefficients_of ts) → P (derivative_of x.0, x.1)
  entry_at [] k x lt e h = absurd (omega arith)
  entry_at (t ∷ ts) zero x lt e h = subst (λ (y : Der × WholePolynomial). P (derivative_of y.0, y.1)) (sym e) h.0
  entry_at (t ∷ ts) (suc k) x lt e h = entry_at ts k x (omega arith) e h.1
