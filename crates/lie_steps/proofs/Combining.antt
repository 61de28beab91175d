-- Two equations combined at a derivative: the factors are what they should be, and what the combination says.
use Rattle.std.specs.Prelude.{◌≡◌, ℕ, ◌-◌, Bool, true, false, cond, List, [], ◌∷◌, ℤ, pos, int_div, unsigned_abs, negsuc}
use Rattle.std.proofs.Common.{refl, sym, ap, ap₂, subst, ◌∙◌, arith}
use Rattle.std.specs.Int.{◌∣◌}
use Rattle.std.specs.List.{AllByRecursion as Every}
use Rattle.std.proofs.lemmas.Nat.Gcd.{dvd_refl}
use Rattle.lie_math.specs.FiniteSum as finite
use Rattle.lie_math.specs.FiniteSumLaws.{sum_of_terms, none_of_is, value-none, value-plus, value-term, is_none_none}
use Rattle.lie_math.specs.FiniteSumLaws as finite_laws
use mathlib.Core.Path.{fun_ext}
use Rattle.std.specs.Ordering.{eq_by_cmp}
use Rattle.lie_steps.proofs.RingIdentities.{crosswise}
use Rattle.lie_math.specs.SortedSum.{sum_of_entries}
use Rattle.lie_math.specs.Canonical.{sum_of_entries-map}
use Rattle.lie_math.specs.Counts.{Derivative, derivative_cmp}
use Rattle.lie_math.specs.LinearForm.{LinearForm, forms, form_term, times_form, apply}
use Rattle.lie_math.specs.Monomial.{Monomial, exponent}
use Rattle.lie_math.specs.Polynomial.{WholePolynomial, polynomials, terms, term, 0ᴾ, negᴾ, ◌+ᴾ◌, ◌*ᴾ◌}
use Rattle.lie_math.specs.PolynomialRing.{polynomial_ring, *ᴾ-dist, term_times_term}
use Rattle.lie_math.specs.Variables.{IsIn}
use Rattle.lie_math.proofs.FiniteSum.{sum_of_entries-same}
use Rattle.lie_math.proofs.Integer.{int_div_exact}
use Rattle.lie_math.proofs.LinearForm.{apply_plus, apply_times}
use Rattle.lie_math.proofs.Ring.{times_nil}
use Rattle.lie_math.proofs.Variables.{in-0ᴾ, in-+ᴾ, in-*ᴾ, in-constant}
use Rattle.lie_systems.specs.Laws.{DividesMonomial}
use Rattle.lie_systems.specs.Triples.{Triple, triples_with}
use Rattle.lie_systems.specs.Normalised.{content, common_monomial, without_factor}
use Rattle.lie_systems.proofs.Divisibility.{all_divided, all_common}
use Rattle.lie_systems.proofs.Exponents.{factor_back, exponent-without}
use Rattle.lie_steps.specs.NormalForm.{quotient, both_at, reduced_at, combined, coefficient_at}
use Rattle.lie_math.proofs.EveryElement.{every-front, every-back, every_both}
use Rattle.lie_math.proofs.FormEntries.{EachHas, each-plus, each-times}
use Rattle.lie_steps.proofs.FormTriples.{IsMonomialIn, in-term, entries_in}
use Rattle.lie_steps.proofs.LowestRule.{with_parts}
use Rattle.lie_steps.proofs.Rests.{coefficient_has}
use Rattle.std.proofs.Common.{true≢false}

-- ---- quotients
-- a number and a monomial that divide p, times the quotient
pub quotient_back : (g : ℕ) (m : Monomial) (p : WholePolynomial) → Every (λ (x : Monomial × ℤ). (g ∣ unsigned_abs x.1) × DividesMonomial m x.0) p.list → term m (pos g) *ᴾ quotient g m p ≡ p
unfolding quotient
quotient_back g m p h =
    sum_of_entries-map polynomials polynomials (λ q. term m (pos g) *ᴾ q) (times_nil polynomial_ring _) (*ᴾ-dist _) (λ n a. term (without_factor m n) (int_div a (pos g))) p.list
    ∙ sum_of_entries-same polynomials _ term p.list (go p.list h) ∙ sum_of_terms terms p
  where
    go : (es : List (Monomial × ℤ)) → Every (λ (x : Monomial × ℤ). (g ∣ unsigned_abs x.1) × DividesMonomial m x.0) es → Every (λ (x : Monomial × ℤ). term m (pos g) *ᴾ term (without_factor m x.0) (int_div x.1 (pos g)) ≡ term x.0 x.1) es
    go [] k = tt
    go (x ∷ es) k = (term_times_term m (without_factor m x.0) (pos g) (int_div x.1 (pos g)) ∙ ap₂ term (factor_back m x.0 (k.0).1) (int_div_exact x.1 g (k.0).0), go es k.1)

in_quotient : (V : ℕ → Bool) (g : ℕ) (m : Monomial) (p : WholePolynomial) → IsIn V p → IsIn V (quotient g m p)
unfolding quotient
in_quotient V g m p h = go p.list (entries_in V p h)
  where
    nothing : (a b : ℕ) → a ≡ 0 → a - b ≡ 0
    nothing a b e = omega arith

    go : (es : List (Monomial × ℤ)) → Every (λ (e : Monomial × ℤ). IsMonomialIn V e.0) es → IsIn V (sum_of_entries polynomials (λ n a. term (without_factor m n) (int_div a (pos g))) es)
    go [] k = in-0ᴾ V
    go (e ∷ es) k = in-+ᴾ V _ _ (in-term V (without_factor m e.0) (int_div e.1 (pos g)) (λ v out. exponent-without m e.0 v ∙ nothing (exponent e.0 v) (exponent m v) (k.0 v out))) (go es k.1)

-- the coefficient of a derivative in a multiple
at_times : (p : WholePolynomial) (E : LinearForm) (q : Derivative) → coefficient_at (times_form p E) q ≡ p *ᴾ coefficient_at E q
at_times p E q =
    sum_of_entries-map (finite_laws.adder forms) polynomials (λ G. coefficient_at G q) (value-none forms q) (λ x y. value-plus forms x y q) (λ d a. form_term d (p *ᴾ a)) E.list
    ∙ ap (λ φ. sum_of_entries polynomials φ E.list) (fun_ext (λ d. fun_ext (λ a. value-term forms d (p *ᴾ a) q ∙ out (eq_by_cmp derivative_cmp q d) a)))
    ∙ sym (sum_of_entries-map polynomials polynomials (λ x. p *ᴾ x) (times_nil polynomial_ring p) (*ᴾ-dist p) (λ d a. cond (eq_by_cmp derivative_cmp q d) a 0ᴾ) E.list)
  where
    out : (t : Bool) (a : WholePolynomial) → cond t (p *ᴾ a) 0ᴾ ≡ p *ᴾ cond t a 0ᴾ
    out true a = refl
    out false a = sym (times_nil polynomial_ring p)

module _ (d : Derivative) (E L : LinearForm) where
  abbrev ts : List Triple
  ts = both_at d E L

  pub divides_second : Every (λ (x : Monomial × ℤ). (content (both_at d E L) ∣ unsigned_abs x.1) × DividesMonomial (common_monomial (both_at d E L)) x.0) (coefficient_at L d).list
  divides_second = every_both (λ (x : Monomial × ℤ). content ts ∣ unsigned_abs x.1) (λ (x : Monomial × ℤ). DividesMonomial (common_monomial ts) x.0) _ (λ x p q. (p, q)) (coefficient_at L d).list
      (with_parts (λ (t : Triple). content ts ∣ unsigned_abs t.2) d (coefficient_at L d).list (every-back _ (triples_with d (coefficient_at E d).list) (triples_with d (coefficient_at L d).list) (all_divided (content ts) ts (dvd_refl (content ts)))))
      (with_parts (λ (t : Triple). DividesMonomial (common_monomial ts) t.1) d (coefficient_at L d).list (every-back _ (triples_with d (coefficient_at E d).list) (triples_with d (coefficient_at L d).list) (all_common (common_monomial ts) ts (λ v. omega arith))))

  pub divides_first : Every (λ (x : Monomial × ℤ). (content (both_at d E L) ∣ unsigned_abs x.1) × DividesMonomial (common_monomial (both_at d E L)) x.0) (coefficient_at E d).list
  divides_first = every_both (λ (x : Monomial × ℤ). content ts ∣ unsigned_abs x.1) (λ (x : Monomial × ℤ). DividesMonomial (common_monomial ts) x.0) _ (λ x p q. (p, q)) (coefficient_at E d).list
      (with_parts (λ (t : Triple). content ts ∣ unsigned_abs t.2) d (coefficient_at E d).list (every-front _ (triples_with d (coefficient_at E d).list) (triples_with d (coefficient_at L d).list) (all_divided (content ts) ts (dvd_refl (content ts)))))
      (with_parts (λ (t : Triple). DividesMonomial (common_monomial ts) t.1) d (coefficient_at E d).list (every-front _ (triples_with d (coefficient_at E d).list) (triples_with d (coefficient_at L d).list) (all_common (common_monomial ts) ts (λ v. omega arith))))

  pub at_combined : (q : Derivative) → coefficient_at (combined d E L) q ≡ reduced_at d E L (coefficient_at L d) *ᴾ coefficient_at E q +ᴾ negᴾ (reduced_at d E L (coefficient_at E d)) *ᴾ coefficient_at L q
  at_combined q = value-plus forms _ _ q ∙ ap₂ ◌+ᴾ◌ (at_times (reduced_at d E L (coefficient_at L d)) E q) (at_times (negᴾ (reduced_at d E L (coefficient_at E d))) L q)

  -- d is gone
  pub combined_gone : coefficient_at (combined d E L) d ≡ 0ᴾ
  combined_gone =
      at_combined d
      ∙ ap₂ (λ x y. reduced_at d E L (coefficient_at L d) *ᴾ x +ᴾ negᴾ (reduced_at d E L (coefficient_at E d)) *ᴾ y)
      (sym (quotient_back (content ts) (common_monomial ts) (coefficient_at E d) divides_first)) (sym (quotient_back (content ts) (common_monomial ts) (coefficient_at L d) divides_second))
      ∙ crosswise (reduced_at d E L (coefficient_at L d)) (reduced_at d E L (coefficient_at E d)) (term (common_monomial ts) (pos (content ts)))

  -- the factor of E is not 0 where d occurs in L
  pub factor_apart : ¬ (coefficient_at L d ≡ 0ᴾ) → ¬ (reduced_at d E L (coefficient_at L d) ≡ 0ᴾ)
  factor_apart n z = n (sym (quotient_back (content ts) (common_monomial ts) (coefficient_at L d) divides_second) ∙ ap (λ q. term (common_monomial ts) (pos (content ts)) *ᴾ q) z ∙ times_nil polynomial_ring _)

  pub combined_says : (F : ℕ → WholePolynomial) → apply F (combined d E L) ≡ reduced_at d E L (coefficient_at L d) *ᴾ apply F E +ᴾ negᴾ (reduced_at d E L (coefficient_at E d)) *ᴾ apply F L
  combined_says F =
      apply_plus F (times_form (reduced_at d E L (coefficient_at L d)) E) (times_form (negᴾ (reduced_at d E L (coefficient_at E d))) L)
      ∙ ap₂ ◌+ᴾ◌ (apply_times F (reduced_at d E L (coefficient_at L d)) E) (apply_times F (negᴾ (reduced_at d E L (coefficient_at E d))) L)

  module _ (P : Derivative → Type 0) (V : ℕ → Bool) where
    coefficient_in : (G : LinearForm) → EachHas P V G → IsIn V (coefficient_at G d)
    coefficient_in G h = go (finite.is_none terms (coefficient_at G d)) refl
      where
        go : (t : Bool) → finite.is_none terms (coefficient_at G d) ≡ t → IsIn V (coefficient_at G d)
        go true e = subst (IsIn V) (sym (none_of_is terms (coefficient_at G d) e)) (in-0ᴾ V)
        go false e = (coefficient_has (λ (x : Derivative × WholePolynomial). P x.0 × IsIn V x.1) G h d (λ z. true≢false (sym (ap (finite.is_none terms) z ∙ is_none_none terms) ∙ e))).1

    pub combined-form : EachHas P V E → EachHas P V L → EachHas P V (combined d E L)
    combined-form h g = each-plus P V _ _
        (each-times P V _ (in_quotient V (content ts) (common_monomial ts) (coefficient_at L d) (coefficient_in L g)) E h)
        (each-times P V _ (in-*ᴾ V _ _ (in-constant V (negsuc 0)) (in_quotient V (content ts) (common_monomial ts) (coefficient_at E d) (coefficient_in E h))) L g)
