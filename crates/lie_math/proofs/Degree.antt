-- The degree of a polynomial is the greatest degree of a term; the same for the exponents of one variable.
use Rattle.std.specs.Prelude.{◌≡◌, ℕ, ◌≤◌, ◌<◌, Bool, true, false, cond, ltb, max, List, [], ◌∷◌, ℤ, pos, ◌+ℤ◌}
use Rattle.std.proofs.Common.{refl, sym, ap, ◌∙◌, arith, ltb-true, ltb-false}
use lib.IntN.{+ℤ_idl}
use Rattle.std.specs.List.{AllByRecursion as Every}
use Rattle.std.specs.Ordering.{eq_by_cmp}
use Rattle.lie_math.specs.Natural.{maxima}
use Rattle.lie_math.specs.Integer.{coefficients}
use Rattle.lie_math.specs.SortedSum.{sum_of_entries, value_at}
use Rattle.lie_math.specs.FiniteSum as finite
use Rattle.lie_math.specs.FiniteSumLaws.{same_list}
use Rattle.lie_math.proofs.FiniteSum.{key, entries_of}
use Rattle.lie_math.specs.Monomial.{Monomial, monomial_cmp}
use Rattle.lie_math.specs.Polynomial.{WholePolynomial, terms, coefficient, 0ᴾ}

module _ (f : Monomial → ℕ) where
  -- the greatest value of f at a term
  abbrev pub greatest : List (Monomial × ℤ) → ℕ
  greatest es = sum_of_entries maxima (λ m a. f m) es

  pub bounded : (es : List (Monomial × ℤ)) (m : Monomial) → ¬ (value_at monomial_cmp coefficients m es ≡ pos 0) → f m ≤ greatest es
  bounded [] m h = absurd (h refl)
  bounded (e ∷ es) m h = go (eq_by_cmp monomial_cmp m e.0) refl (bounded es m)
    where
      first_of : (k : ℕ) → m ≡ e.0 → f m ≤ max (f e.0) k
      first_of k is = let s : f m ≡ f e.0 = ap f is in omega arith

      later : (k : ℕ) → f m ≤ k → f m ≤ max (f e.0) k
      later k le = omega arith

      go : (t : Bool) → eq_by_cmp monomial_cmp m e.0 ≡ t → (¬ (value_at monomial_cmp coefficients m es ≡ pos 0) → f m ≤ greatest es) → f m ≤ max (f e.0) (greatest es)
      go true is ih = first_of (greatest es) (key terms m e.0 is)
      go false is ih = later (greatest es) (ih (λ z. h (ap (λ t. cond t e.1 (pos 0) +ℤ value_at monomial_cmp coefficients m es) is ∙ +ℤ_idl _ ∙ z)))

  Reached : WholePolynomial → List (Monomial × ℤ) → Type 0
  Reached p es = (m : Monomial) × (¬ (coefficient p m ≡ pos 0)) × (f m ≡ greatest es)

  reached_in : (p : WholePolynomial) (e : Monomial × ℤ) (es : List (Monomial × ℤ)) → Every (λ (x : Monomial × ℤ). ¬ (coefficient p x.0 ≡ pos 0)) (e ∷ es) → Reached p (e ∷ es)
  unfolding Reached
  reached_in p e [] h = (e.0, h.0, plain (f e.0))
    where
      plain : (n : ℕ) → n ≡ max n 0
      plain n = omega arith
  reached_in p e (x ∷ es) h = go (ltb (greatest (x ∷ es)) (f e.0)) refl (reached_in p x es h.1)
    where
      above : greatest (x ∷ es) < f e.0 → f e.0 ≡ max (f e.0) (greatest (x ∷ es))
      above lt = omega arith

      below : (n : ℕ) → f e.0 ≤ greatest (x ∷ es) → n ≡ greatest (x ∷ es) → n ≡ max (f e.0) (greatest (x ∷ es))
      below n le is = omega arith

      go : (t : Bool) → ltb (greatest (x ∷ es)) (f e.0) ≡ t → Reached p (x ∷ es) → Reached p (e ∷ x ∷ es)
      go true is r = (e.0, h.0, above (ltb-true (greatest (x ∷ es)) (f e.0) is))
      go false is r = (r.0, r.1, below (f r.0) (ltb-false (greatest (x ∷ es)) (f e.0) is) r.2)

  pub reached : (p : WholePolynomial) → ¬ (p ≡ 0ᴾ) → (m : Monomial) × (¬ (coefficient p m ≡ pos 0)) × (f m ≡ greatest p.list)
  unfolding Reached finite.none finite.of
  reached p n = go p.list refl (entries_of terms p (λ e. ¬ (coefficient p e.0 ≡ pos 0)) (λ e is apart z. apart (sym is ∙ z)))
    where
      go : (es : List (Monomial × ℤ)) → p.list ≡ es → Every (λ (x : Monomial × ℤ). ¬ (coefficient p x.0 ≡ pos 0)) es → Reached p es
      go [] is h = absurd (n (same_list terms p 0ᴾ is))
      go (e ∷ es) is h = reached_in p e es h
