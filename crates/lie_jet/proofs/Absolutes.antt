-- Polynomials with the absolute values of their coefficients, and the number 1, are within the limits.
use Rattle.std.specs.Prelude.{◌≡◌, ◌<◌, ◌≤◌, ◌^◌, List, [], ◌∷◌, length, ℤ, pos, unsigned_abs}
use Rattle.std.specs.List.{AllByRecursion as Every}
use Rattle.std.proofs.Common.{refl, sym, ap, subst, ◌∙◌, arith, lit<}
use Rattle.lie_math.specs.FiniteSum as finite
use Rattle.lie_math.specs.Limits.{FitsNumber, HasLowExponents, IsWithinLimits, absolutes, absolute}
use Rattle.lie_poly.specs.Bulk.{AreWithin}
use Rattle.lie_math.specs.Monomial.{Monomial, exponent, unit}
use Rattle.lie_math.specs.Polynomial.{WholePolynomial, terms, constant, polynomial_of}
use Rattle.lie_math.proofs.FiniteSum.{entries_of}
use Rattle.lie_math.proofs.Limits.{canonical_absolutes, length-absolutes, term_is}
use Rattle.lie_ring.proofs.OneTerm.{low_unit}
use Rattle.lie_poly.proofs.BulkLists.{limits_of}
use Rattle.lie_ring.specs.Causes.{IsCause}
use Rattle.lie_ring.specs.declared.failures.PastKind.TheVariants.{Coefficient, Exponent, Terms, Order, Unknowns, Width}
use Rattle.lie_ring.specs.declared.failures.PolyFail.{PolyFail}
use Rattle.lie_ring.specs.declared.failures.PolyFail.TheVariants.{Past, NoMemory}
use Rattle.lie_poly.specs.Failures.{IsStarved}
use Rattle.lie_jet.specs.Listed.{sum_listed, bulk_listed}
use Rattle.lie_jet.proofs.TotalParts.{entries_same}

-- what is within the limits fails for want of memory alone
pub within_starved : (fail : PolyFail) (p : WholePolynomial) → IsWithinLimits p → IsCause fail p → IsStarved fail
within_starved (Past Coefficient) p w h = let fits : unsigned_abs (finite.value terms p h.0) < 2 ^ 127 = w.coefficients h.0 in let wide : 2 ^ 127 ≤ unsigned_abs (finite.value terms p h.0) = h.1 in absurd (omega arith)
within_starved (Past Exponent) p w h = let low : exponent h.0 (h.2).0 ≤ 65535 = w.exponents h.0 h.1 (h.2).0 in let high : 65535 < exponent h.0 (h.2).0 = (h.2).1 in absurd (omega arith)
within_starved (Past Terms) p w h = let few : length p.list ≤ 1000000 = w.terms in absurd (omega arith)
within_starved (Past Order) p w h = h
within_starved (Past Unknowns) p w h = h
within_starved (Past Width) p w h = h
within_starved NoMemory p w h = tt

absolutes_within : (es : List (Monomial × ℤ)) → Every (λ (e : Monomial × ℤ). FitsNumber e.1 × HasLowExponents e.0) es → AreWithin (absolutes es)
absolutes_within [] h = tt
absolutes_within (e ∷ es) h = ((h.0).0, (h.0).1, absolutes_within es h.1)

pub within_absolute : (p : WholePolynomial) → IsWithinLimits p → IsWithinLimits (absolute p)
unfolding absolute
within_absolute p w =
    limits_of (absolutes p.list) (canonical_absolutes p.list p.canonical)
    (absolutes_within p.list (entries_of terms p (λ e. FitsNumber e.1 × HasLowExponents e.0) (λ e is apart. (subst FitsNumber is (w.coefficients e.0), w.exponents e.0 (λ z. apart (sym is ∙ z))))))
    (let l = length-absolutes p.list in let few : length p.list ≤ 1000000 = w.terms in omega arith)

pub absolutes_twice : (es : List (Monomial × ℤ)) → absolutes (absolutes es) ≡ absolutes es
absolutes_twice [] = refl
absolutes_twice (e ∷ es) = ap (λ xs. (e.0, pos (unsigned_abs e.1)) ∷ xs) (absolutes_twice es)

pub absolute_twice : (p : WholePolynomial) → absolute (absolute p) ≡ absolute p
unfolding absolute
absolute_twice p = Rattle.lie_math.proofs.Limits.absolute_of (absolutes p.list) (canonical_absolutes p.list p.canonical) ∙ ap polynomial_of (absolutes_twice p.list)

-- the absolute values of the terms of p
module _ (p : WholePolynomial) (ts xs : List (Monomial × ℤ)) (all : ts ≡ p.list) (each : xs ≡ absolutes ts) where
  pub absolutes_sum : sum_listed xs ≡ absolute p
  unfolding absolute
  absolutes_sum = ap polynomial_of (entries_same xs ∙ each ∙ ap absolutes all)

  absolutes_bulk : bulk_listed xs ≡ absolute p
  unfolding absolute
  absolutes_bulk = ap (λ es. polynomial_of (absolutes es)) (entries_same xs ∙ each ∙ ap absolutes all) ∙ ap polynomial_of (absolutes_twice p.list)

  pub absolutes_starved : (fail : PolyFail) → IsWithinLimits p → IsCause fail (bulk_listed xs) → IsStarved fail
  absolutes_starved fail w h = within_starved fail (absolute p) (within_absolute p w) (subst (IsCause fail) absolutes_bulk h)

-- ---- the number 1
pub one_within : IsWithinLimits (constant (pos 1))
one_within = subst IsWithinLimits (sym (term_is unit (pos 1))) (limits_of ((unit, pos 1) ∷ []) tt (lit< tt, low_unit, tt) (omega arith))
