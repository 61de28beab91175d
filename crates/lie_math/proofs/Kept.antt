-- Putting 0 in place of all variables but those of S. What it keeps is closed under sums, products and partial derivatives; values and derivations look at these variables only.
use Rattle.lie_math.specs.Canonical.{first, second}
use Rattle.std.specs.Prelude.{◌≡◌, ℕ, Bool, true, false, cond, ℤ, pos, T, List, [], ◌∷◌, ◌&&◌}
use Rattle.std.proofs.Common.{refl, sym, ap, ap₂, ◌∙◌, eqb, true≢false}
use mathlib.Core.Path.{fun_ext}
use Rattle.lie_math.specs.Ring.{Algebra}
use Rattle.lie_math.proofs.PartialDerivative.{partial-*ᴾ, partial-+ᴾ, partial-0ᴾ}
use Rattle.lie_math.specs.Polynomial.{polynomials, 0ᴾ, WholePolynomial, constant, variable, ◌*ᴾ◌, ◌+ᴾ◌}
use Rattle.lie_math.specs.PolynomialRing.{polynomial_algebra}
use Rattle.lie_math.proofs.Evaluation.{generated, value_in-0ᴾ, value_in-constant, value_in-plus, value_in-times, value_in-variable}
use Rattle.lie_math.specs.Monomial.{Monomial}
use Rattle.lie_math.specs.PartialDerivative.{partial}
use Rattle.lie_math.specs.Evaluation.{value_in, factors, to_power, monomial_value}
use Rattle.lie_math.specs.Derivation.{IsDerivation}
use Rattle.lie_math.specs.SortedSum.{sum_of_entries}
use Rattle.lie_math.proofs.Derivation.{derived-0ᴾ, derived_inside}
use Rattle.lie_math.proofs.PartialDerivation.{partial_is_derivation, partial-other, partial-variable, zero_is_derivation}
use Rattle.lie_math.proofs.Substitution.{value_in-inside, value_in_itself}

-- the variables of S, and 0 for the others
abbrev pub keep : (ℕ → Bool) → ℕ → WholePolynomial
keep S w = cond (S w) (variable w) 0ᴾ

abbrev pub IsKept : (ℕ → Bool) → WholePolynomial → Type 0
IsKept S p = value_in polynomial_algebra (keep S) p ≡ p

agree : {X : Type 0} (f g : WholePolynomial → X) (S : ℕ → Bool) (w : ℕ) → f 0ᴾ ≡ g 0ᴾ → (S w ≡ true → f (variable w) ≡ g (variable w)) → f (keep S w) ≡ g (keep S w)
agree {X} f g S w z h = go (S w) h
  where
    go : (t : Bool) → (t ≡ true → f (variable w) ≡ g (variable w)) → f (cond t (variable w) 0ᴾ) ≡ g (cond t (variable w) 0ᴾ)
    go true h = h refl
    go false h = z

module _ (S : ℕ → Bool) where
  pub kept-+ᴾ : (p q : WholePolynomial) → IsKept S p → IsKept S q → IsKept S (p +ᴾ q)
  kept-+ᴾ p q h k = value_in-plus polynomial_algebra (keep S) p q ∙ ap₂ ◌+ᴾ◌ h k

  pub kept-*ᴾ : (p q : WholePolynomial) → IsKept S p → IsKept S q → IsKept S (p *ᴾ q)
  kept-*ᴾ p q h k = value_in-times polynomial_algebra (keep S) p q ∙ ap₂ ◌*ᴾ◌ h k

  pub kept-constant : (c : ℤ) → IsKept S (constant c)
  kept-constant c = value_in-constant polynomial_algebra (keep S) c

  pub kept-0ᴾ : IsKept S 0ᴾ
  kept-0ᴾ = value_in-0ᴾ polynomial_algebra (keep S)

  pub kept-variable : (w : ℕ) → S w ≡ true → IsKept S (variable w)
  kept-variable w h = value_in-variable polynomial_algebra (keep S) w ∙ ap (λ t. cond t (variable w) 0ᴾ) h

  -- the value is told by the values at S
  pub value_in_kept : {B : Type 0} (A : Algebra B) (at to : ℕ → B) → ((w : ℕ) → S w ≡ true → at w ≡ to w) → (p : WholePolynomial) → IsKept S p → value_in A at p ≡ value_in A to p
  value_in_kept A at to is p h =
      ap (value_in A at) (sym h) ∙ value_in-inside A at (keep S) p
      ∙ ap (λ f. value_in A f p) (fun_ext (λ w. agree (value_in A at) (value_in A to) S w (value_in-0ᴾ A at ∙ sym (value_in-0ᴾ A to)) (λ e. value_in-variable A at w ∙ is w e ∙ sym (value_in-variable A to w))))
      ∙ sym (value_in-inside A to (keep S) p) ∙ ap (value_in A to) h

  pub derived_kept : {D E : WholePolynomial → WholePolynomial} → IsDerivation D → IsDerivation E → ((w : ℕ) → S w ≡ true → D (variable w) ≡ E (variable w)) → (p : WholePolynomial) → IsKept S p → D p ≡ E p
  derived_kept {D} {E} d e is p h = ap D (sym h) ∙ derived_inside d e (keep S) (λ w. agree D E S w (derived-0ᴾ d ∙ sym (derived-0ᴾ e)) (is w)) p ∙ ap E h

-- a variable that is not there
pub partial-kept : (S : ℕ → Bool) (v : ℕ) → S v ≡ false → (p : WholePolynomial) → IsKept S p → partial v p ≡ 0ᴾ
partial-kept S v out p h = derived_kept S (partial_is_derivation v) zero_is_derivation (λ w e. partial-other v w (λ q. true≢false (sym e ∙ ap S (sym q) ∙ out))) p h

-- what is put in commutes with the derivative by a variable of its own
pub kept-partial : (S : ℕ → Bool) (v : ℕ) (p : WholePolynomial) → IsKept S p → IsKept S (partial v p)
kept-partial S v p h = go (S v) refl
  where
    kept : (S v ≡ true) → (q : WholePolynomial) → value_in polynomial_algebra (keep S) (partial v q) ≡ partial v (value_in polynomial_algebra (keep S) q)
    kept t = generated (λ q. value_in polynomial_algebra (keep S) (partial v q) ≡ partial v (value_in polynomial_algebra (keep S) q))
        (λ c. ap (value_in polynomial_algebra (keep S)) ((partial_is_derivation v).whole c) ∙ value_in-0ᴾ polynomial_algebra (keep S) ∙ sym (ap (partial v) (value_in-constant polynomial_algebra (keep S) c) ∙ (partial_is_derivation v).whole c))
        (λ w. ap (value_in polynomial_algebra (keep S)) (partial-variable v w) ∙ at_var w ∙ sym (ap (partial v) (value_in-variable polynomial_algebra (keep S) w)))
        (λ a b x y. ap (value_in polynomial_algebra (keep S)) (partial-+ᴾ v a b) ∙ value_in-plus polynomial_algebra (keep S) _ _ ∙ ap₂ ◌+ᴾ◌ x y ∙ sym (ap (partial v) (value_in-plus polynomial_algebra (keep S) a b) ∙ partial-+ᴾ v _ _))
        (λ a b x y. ap (value_in polynomial_algebra (keep S)) (partial-*ᴾ v a b) ∙ value_in-plus polynomial_algebra (keep S) _ _
        ∙ ap₂ ◌+ᴾ◌ (value_in-times polynomial_algebra (keep S) _ _ ∙ ap (λ z. z *ᴾ value_in polynomial_algebra (keep S) b) x) (value_in-times polynomial_algebra (keep S) _ _ ∙ ap (λ z. value_in polynomial_algebra (keep S) a *ᴾ z) y)
        ∙ sym (ap (partial v) (value_in-times polynomial_algebra (keep S) a b) ∙ partial-*ᴾ v _ _))
      where
        of_one : (b : Bool) → value_in polynomial_algebra (keep S) (cond b (constant (pos 1)) 0ᴾ) ≡ cond b (constant (pos 1)) 0ᴾ
        of_one true = kept-constant S (pos 1)
        of_one false = kept-0ᴾ S

        at_var : (w : ℕ) → value_in polynomial_algebra (keep S) (cond (eqb v w) (constant (pos 1)) 0ᴾ) ≡ partial v (cond (S w) (variable w) 0ᴾ)
        at_var w = of_one (eqb v w) ∙ sym (partial-variable v w) ∙ by (S w) refl
          where
            by : (b : Bool) → S w ≡ b → partial v (variable w) ≡ partial v (cond b (variable w) 0ᴾ)
            by true e = refl
            by false e = partial-other v w (λ q. true≢false (sym t ∙ ap S q ∙ e)) ∙ sym (partial-0ᴾ v)

    go : (b : Bool) → S v ≡ b → IsKept S (partial v p)
    go true e = kept e p ∙ ap (partial v) h
    go false e = ap (value_in polynomial_algebra (keep S)) (partial-kept S v e p h) ∙ kept-0ᴾ S ∙ sym (partial-kept S v e p h)

abbrev pub pairs_in : (ℕ → Bool) → List (ℕ × ℕ) → Bool
pairs_in S [] = true
pairs_in S (e ∷ es) = S e.0 && pairs_in S es

abbrev pub terms_in : (ℕ → Bool) → List (Monomial × ℤ) → Bool
terms_in S [] = true
terms_in S (e ∷ es) = pairs_in S (e.0).list && terms_in S es

pub to_true : (b : Bool) → T b → b ≡ true
to_true true h = refl
to_true false h = absurd h

module _ (S : ℕ → Bool) where
  mono_in : (es : List (ℕ × ℕ)) → T (pairs_in S es) → sum_of_entries (factors polynomial_algebra) (λ w e. to_power polynomial_algebra (keep S w) e) es ≡ sum_of_entries (factors polynomial_algebra) (λ w e. to_power polynomial_algebra (variable w) e) es
  mono_in [] h = refl
  mono_in (e ∷ es) h = ap₂ ◌*ᴾ◌ (ap (λ t. to_power polynomial_algebra (cond t (variable e.0) 0ᴾ) e.1) (to_true (S e.0) (first (S e.0) (pairs_in S es) h))) (mono_in es (second (S e.0) (pairs_in S es) h))

  -- each variable that stands in a term is in S
  pub kept-terms : (p : WholePolynomial) → T (terms_in S p.list) → IsKept S p
  unfolding value_in
  kept-terms p h = go p.list h ∙ value_in_itself p
    where
      go : (es : List (Monomial × ℤ)) → T (terms_in S es) → sum_of_entries polynomials (λ m a. constant a *ᴾ monomial_value polynomial_algebra (keep S) m) es ≡ sum_of_entries polynomials (λ m a. constant a *ᴾ monomial_value polynomial_algebra variable m) es
      go [] h = refl
      go (e ∷ es) h = ap₂ ◌+ᴾ◌ (ap (λ z. constant e.1 *ᴾ z) (mono_in (e.0).list (first (pairs_in S (e.0).list) (terms_in S es) h))) (go es (second (pairs_in S (e.0).list) (terms_in S es) h))
