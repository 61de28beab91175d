-- Polynomials of one term are within the limits.
use Rattle.std.specs.Prelude.{◌≡◌, ℕ, ◌<◌, ◌≤◌, ◌^◌, Bool, true, false, cond, length, [], ◌∷◌, ℤ, pos, unsigned_abs}
use Rattle.std.proofs.Common.{refl, sym, ap, subst, ◌∙◌, arith, lit<}
use Rattle.std.specs.Ordering.{eq_by_cmp, nat_cmp}
use Rattle.lie_math.specs.FiniteSum as finite
use Rattle.lie_math.specs.FiniteSumLaws as finite_laws
use Rattle.lie_math.proofs.FiniteSum as finite_proofs
use Rattle.lie_math.specs.Integer.{is_zero_int}
use Rattle.lie_math.specs.Monomial.{Monomial, monomial_cmp, exponent, powers, single, unit}
use Rattle.lie_math.specs.Polynomial.{WholePolynomial, coefficient, polynomial_of, terms, term}
use Rattle.lie_math.specs.Limits.{FitsNumber, HasLowExponents, absolutes}
use Rattle.lie_math.proofs.Limits.{term_is}
use Rattle.lie_ring.specs.Causes.{IsPast}
use Rattle.lie_ring.specs.declared.failures.PastKind.{PastKind}
use Rattle.lie_ring.specs.declared.failures.PastKind.TheVariants.{Coefficient, Exponent, Terms, Order, Unknowns, Width}

pub low_unit : HasLowExponents unit
low_unit v = subst (λ n. n ≤ 65535) (sym (finite_laws.value-none powers v)) (omega arith)

pub low_single : (v : ℕ) → HasLowExponents (single v)
low_single v w = subst (λ n. n ≤ 65535) (sym (finite_laws.value-term powers v 1 w)) (by (eq_by_cmp nat_cmp w v))
  where
    by : (b : Bool) → cond b 1 0 ≤ 65535
    by true = omega arith
    by false = omega arith

module _ (m : Monomial) (a : ℤ) where
  fits_at : (n : Monomial) → FitsNumber a → FitsNumber (coefficient (term m a) n)
  fits_at n h = subst FitsNumber (sym (finite_laws.value-term terms m a n)) (by (eq_by_cmp monomial_cmp n m))
    where
      by : (b : Bool) → unsigned_abs (cond b a (pos 0)) < 2 ^ 127
      by true = h
      by false = lit< tt

  low_at : (n : Monomial) → HasLowExponents m → ¬ (coefficient (term m a) n ≡ pos 0) → HasLowExponents n
  low_at n h apart = by (eq_by_cmp monomial_cmp n m) refl
    where
      by : (b : Bool) → eq_by_cmp monomial_cmp n m ≡ b → HasLowExponents n
      by true e = subst HasLowExponents (sym (finite_proofs.key terms n m e)) h
      by false e = absurd (apart (finite_laws.value-term terms m a n ∙ ap (λ b. cond b a (pos 0)) e))

  few : length (term m a).list ≤ 1000000
  unfolding finite.term finite.of
  few = by (is_zero_int a)
    where
      by : (b : Bool) → length {A = Monomial × ℤ} (cond b [] ((m, a) ∷ [])) ≤ 1000000
      by true = omega arith
      by false = omega arith

  term_not_past : (kind : PastKind) → FitsNumber a → HasLowExponents m → ¬ (IsPast kind (term m a))
  term_not_past Coefficient f l h = let k : unsigned_abs (coefficient (term m a) h.0) < 2 ^ 127 = fits_at h.0 f in let w : 2 ^ 127 ≤ unsigned_abs (coefficient (term m a) h.0) = h.1 in absurd (omega arith)
  term_not_past Exponent f l h = let k : exponent h.0 (h.2).0 ≤ 65535 = low_at h.0 l h.1 (h.2).0 in let w : 65535 < exponent h.0 (h.2).0 = (h.2).1 in absurd (omega arith)
  term_not_past Terms f l h = let k = few in absurd (omega arith)
  term_not_past Order f l h = h
  term_not_past Unknowns f l h = h
  term_not_past Width f l h = h

-- the bulk of one term is not past a limit
pub bulk_not_past : (kind : PastKind) (m : Monomial) (a : ℤ) → FitsNumber a → HasLowExponents m → ¬ (IsPast kind (polynomial_of (absolutes ((m, a) ∷ []))))
bulk_not_past kind m a f l h = term_not_past m (pos (unsigned_abs a)) kind f l (subst (IsPast kind) (sym (term_is m (pos (unsigned_abs a)))) h)
