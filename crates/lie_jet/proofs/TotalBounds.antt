-- The total derivative of a polynomial is bounded by that of its absolute values.
use Rattle.std.specs.Prelude.{◌≡◌, ℕ, ◌<◌, List, [], ◌∷◌, Option, Some, None, ℤ, pos, ◌*ℤ◌, unsigned_abs}
use Rattle.std.proofs.Common.{sym, ap, subst, subst₂, ◌∙◌, arith}
use Rattle.lie_math.specs.FiniteSumLaws.{of_list}
use Rattle.lie_math.specs.Limits.{absolute, absolutes}
use Rattle.lie_math.specs.Monomial.{Monomial, single, ◌·◌}
use Rattle.lie_math.specs.PartialDerivative.{lower}
use Rattle.lie_math.specs.Polynomial.{WholePolynomial, polynomials, terms, term, polynomial_of, variable, ◌+ᴾ◌, ◌*ᴾ◌}
use Rattle.lie_math.specs.PolynomialRing.{*ᴾ_comm, 0ᴾ-*ᴾ, polynomial_of-none, term_times_term}
use Rattle.lie_math.specs.SortedSum.{sum_of_entries}
use Rattle.lie_math.proofs.Derivation.{derived-0ᴾ}
use Rattle.lie_math.proofs.Limits.{term_is}
use Rattle.lie_poly.specs.Bulk.{IsBulkOf}
use Rattle.lie_poly.proofs.BulkLists.{bulk_covers, bulk_nonneg, bulk_absolutes}
use Rattle.lie_math.proofs.CanonicalLists.{canonical_cons, of-cons}
use Rattle.lie_math.proofs.TermWise.{not_zero_test, times_list, polynomial_of-times, absolutes-times}
use Rattle.lie_geometry.specs.Coordinates.{Space}
use Rattle.lie_geometry.specs.Prolongation.{total_derivative}
use Rattle.lie_geometry.proofs.Derivations.{total_is_derivation}
use Rattle.lie_jet.specs.Jets.{IsSmall}
use Rattle.lie_jet.specs.Slopes.{IsSlope}
use Rattle.lie_jet.proofs.ChainRules.{part}
use Rattle.lie_jet.proofs.PolynomialBounds.{IsBound, sum_bound, none_bound}
use Rattle.lie_jet.proofs.TotalParts.{slope, some_slope, total_term}
use Rattle.lie_jet.proofs.TotalSteps.{size_times}
use Rattle.lie_math.specs.Integer.{*ℤ-idl}

bulk_bound : (es fs : List (Monomial × ℤ)) → IsBulkOf es fs → IsBound (polynomial_of es) (polynomial_of fs)
bulk_bound es fs h = record { covered = bulk_covers es fs h; plain = bulk_nonneg es fs h }

-- ---- one term
pub term_bound : (m : Monomial) (z : ℤ) → IsBound (term m z) (term m (pos (unsigned_abs z)))
term_bound m z = subst₂ IsBound (sym (term_is m z)) (sym (term_is m (pos (unsigned_abs z)))) (bulk_bound ((m, z) ∷ []) ((m, pos (unsigned_abs z)) ∷ []) (bulk_absolutes ((m, z) ∷ [])))

-- ---- a sum over entries
module _ {K A : Type 0} (φ ψ : K → A → WholePolynomial) (bound : (k : K) (a : A) → IsBound (φ k a) (ψ k a)) where
  entries_bound : (es : List (K × A)) → IsBound (sum_of_entries polynomials φ es) (sum_of_entries polynomials ψ es)
  entries_bound [] = none_bound
  entries_bound (e ∷ es) = sum_bound (φ e.0 e.1) (sum_of_entries polynomials φ es) (ψ e.0 e.1) (sum_of_entries polynomials ψ es) (bound e.0 e.1) (entries_bound es)

-- ---- the product with a variable
pub product_bound : (v : ℕ) (a : WholePolynomial) → IsBound (a *ᴾ variable v) (absolute a *ᴾ variable v)
unfolding absolute
product_bound v a =
    subst₂ IsBound (polynomial_of-times (single v) (pos 1) a.list ∙ ap (λ p. variable v *ᴾ p) (of_list terms a) ∙ *ᴾ_comm (variable v) a)
    (ap polynomial_of (absolutes-times (single v) (pos 1) a.list) ∙ polynomial_of-times (single v) (pos 1) (absolutes a.list) ∙ *ᴾ_comm (variable v) (polynomial_of (absolutes a.list)))
    (bulk_bound (times_list (single v) (pos 1) a.list) (absolutes (times_list (single v) (pos 1) a.list)) (bulk_absolutes (times_list (single v) (pos 1) a.list)))

pub absolute_term : (m : Monomial) (z : ℤ) → unsigned_abs z ≡ 1 → absolute (term m z) ≡ term m (pos 1)
absolute_term m z unit = ap absolute (term_is m z) ∙ Rattle.lie_math.proofs.Limits.absolute_of ((m, z) ∷ []) (canonical_cons terms (m, z) [] (not_zero_test z apart) tt tt) ∙ ap (λ n. polynomial_of ((m, pos n) ∷ [])) unit ∙ sym (term_is m (pos 1))
  where
    apart : ¬ (z ≡ pos 0)
    apart e = let h : ◌≡◌ {A = ℕ} 0 1 = sym (ap unsigned_abs e) ∙ unit in absurd (omega arith)

pub absolute_variable : (v : ℕ) → absolute (variable v) ≡ variable v
absolute_variable v = ap absolute (term_is (single v) (pos 1)) ∙ Rattle.lie_math.proofs.Limits.absolute_of ((single v, pos 1) ∷ []) tt ∙ sym (term_is (single v) (pos 1))

module _ (S : Space) (small : IsSmall S) (i : ℕ) (inside : i < S.p) where
  part_bound : (m : Monomial) (c : ℤ) (w e : ℕ) → IsBound (part (slope S small i inside) m c w e) (part (slope S small i inside) m (pos (unsigned_abs c)) w e)
  part_bound m c w e = go (some_slope S small i inside w).0 (some_slope S small i inside w).1
    where
      product : (f : Monomial) (z : ℤ) → term f (pos 1) *ᴾ term (lower w m) z ≡ term (f · lower w m) (pos 1 *ℤ z)
      product f z = term_times_term f (lower w m) (pos 1) z

      go : (o : Option Monomial) → IsSlope o (slope S small i inside w) → IsBound (part (slope S small i inside) m c w e) (part (slope S small i inside) m (pos (unsigned_abs c)) w e)
      go None q = subst (λ d. IsBound (d *ᴾ term (lower w m) (c *ℤ pos e)) (d *ᴾ term (lower w m) (pos (unsigned_abs c) *ℤ pos e))) q (subst₂ IsBound (sym (0ᴾ-*ᴾ _)) (sym (0ᴾ-*ᴾ _)) none_bound)
      go (Some f) q =
          subst (λ d. IsBound (d *ᴾ term (lower w m) (c *ℤ pos e)) (d *ᴾ term (lower w m) (pos (unsigned_abs c) *ℤ pos e))) q
          (subst₂ IsBound (sym (product f (c *ℤ pos e) ∙ ap (term (f · lower w m)) (*ℤ-idl (c *ℤ pos e))))
          (sym (product f (pos (unsigned_abs c) *ℤ pos e) ∙ ap (term (f · lower w m)) (*ℤ-idl (pos (unsigned_abs c) *ℤ pos e) ∙ sym (size_times c e))))
          (term_bound (f · lower w m) (c *ℤ pos e)))

  pub total_bound_of_term : (m : Monomial) (c : ℤ) → IsBound (total_derivative S i (term m c)) (total_derivative S i (term m (pos (unsigned_abs c))))
  total_bound_of_term m c = subst₂ IsBound (sym (total_term S i m c)) (sym (total_term S i m (pos (unsigned_abs c)))) (entries_bound (part (slope S small i inside) m c) (part (slope S small i inside) m (pos (unsigned_abs c))) (part_bound m c) m.list)

  of_terms : (es : List (Monomial × ℤ)) → IsBound (total_derivative S i (polynomial_of es)) (total_derivative S i (polynomial_of (absolutes es)))
  of_terms [] = let e = ap (total_derivative S i) polynomial_of-none ∙ derived-0ᴾ (total_is_derivation S i) in subst₂ IsBound (sym e) (sym e) none_bound
  of_terms (e ∷ es) =
      subst₂ IsBound (sym (more e.0 e.1 es)) (sym (more e.0 (pos (unsigned_abs e.1)) (absolutes es)))
      (sum_bound (total_derivative S i (term e.0 e.1)) (total_derivative S i (polynomial_of es)) (total_derivative S i (term e.0 (pos (unsigned_abs e.1)))) (total_derivative S i (polynomial_of (absolutes es))) (total_bound_of_term e.0 e.1) (of_terms es))
    where
      more : (m : Monomial) (z : ℤ) (es : List (Monomial × ℤ)) → total_derivative S i (polynomial_of ((m, z) ∷ es)) ≡ total_derivative S i (term m z) +ᴾ total_derivative S i (polynomial_of es)
      more m z es = ap (total_derivative S i) (of-cons terms (m, z) es ∙ ap (λ p. p +ᴾ polynomial_of es) (sym (term_is m z))) ∙ (total_is_derivation S i).plus (term m z) (polynomial_of es)

  pub total_bound : (a : WholePolynomial) → IsBound (total_derivative S i a) (total_derivative S i (absolute a))
  unfolding absolute
  total_bound a = subst (λ p. IsBound (total_derivative S i p) (total_derivative S i (polynomial_of (absolutes a.list)))) (of_list terms a) (of_terms a.list)
