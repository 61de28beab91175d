-- Polynomials in some variables alone: what 0 in place of the other variables keeps. They are closed under sums, products and partial derivatives; values and derivations look at these variables only.
use Rattle.std.specs.Prelude.{◌≡◌, ℕ, suc, ◌<◌, ◌≤◌, Bool, true, false, T, List, [], ◌∷◌, ℤ, max, ltb}
use Rattle.std.proofs.Common.{refl, sym, subst, ◌∙◌, arith, lt-ltb, true≢false}
use Rattle.std.specs.List.{AllByRecursion as Every}
use Rattle.lie_math.specs.Canonical.{both}
use Rattle.lie_math.proofs.FiniteSum.{entries_of}
use Rattle.lie_math.specs.SortedSum.{sum_of_entries}
use Rattle.lie_math.specs.Natural.{maxima}
use Rattle.lie_math.specs.Ring.{Algebra}
use Rattle.lie_math.specs.Monomial.{Monomial, exponent, powers}
use Rattle.lie_math.specs.Polynomial.{WholePolynomial, terms, constant, variable, 0ᴾ, ◌*ᴾ◌, ◌+ᴾ◌}
use Rattle.lie_math.specs.Evaluation.{value_in}
use Rattle.lie_math.specs.Derivation.{IsDerivation, is_below, bound}
use Rattle.lie_math.specs.PartialDerivative.{partial}
use Rattle.lie_math.specs.Variables.{IsIn}
use Rattle.lie_math.proofs.Dependence.{free_of_partial}
use Rattle.lie_math.proofs.Kept.{IsKept, kept-+ᴾ, kept-*ᴾ, kept-constant, kept-0ᴾ, kept-variable, kept-partial, value_in_kept, derived_kept, partial-kept, kept-terms, pairs_in, terms_in}

module _ (S : ℕ → Bool) where
  T_of : (b : Bool) → ¬ (b ≡ false) → T b
  T_of true h = tt
  T_of false h = absurd (h refl)

  pairs_in_of : (m : Monomial) → ((v : ℕ) → S v ≡ false → exponent m v ≡ 0) → T (pairs_in S m.list)
  pairs_in_of m h = go m.list (entries_of powers m (λ e. T (S e.0)) (λ e is apart. T_of (S e.0) (λ f. apart (sym is ∙ h e.0 f))))
    where
      go : (es : List (ℕ × ℕ)) → Every (λ (e : ℕ × ℕ). T (S e.0)) es → T (pairs_in S es)
      go [] k = tt
      go (e ∷ es) k = both (S e.0) _ k.0 (go es k.1)

  terms_in_of : (p : WholePolynomial) → IsIn S p → T (terms_in S p.list)
  terms_in_of p h = go p.list (entries_of terms p (λ e. T (pairs_in S (e.0).list)) (λ e is apart. pairs_in_of e.0 (λ v f. h v f e.0 (λ z. apart (sym is ∙ z)))))
    where
      go : (es : List (Monomial × ℤ)) → Every (λ (e : Monomial × ℤ). T (pairs_in S (e.0).list)) es → T (terms_in S es)
      go [] k = tt
      go (e ∷ es) k = both (pairs_in S (e.0).list) _ k.0 (go es k.1)

  -- the two ways of saying it
  pub in_kept : (p : WholePolynomial) → IsIn S p → IsKept S p
  in_kept p h = kept-terms S p (terms_in_of p h)

  pub kept_in : (p : WholePolynomial) → IsKept S p → IsIn S p
  kept_in p h v out = free_of_partial v p (partial-kept S v out p h)

  pub in-+ᴾ : (p q : WholePolynomial) → IsIn S p → IsIn S q → IsIn S (p +ᴾ q)
  in-+ᴾ p q h k = kept_in (p +ᴾ q) (kept-+ᴾ S p q (in_kept p h) (in_kept q k))

  pub in-*ᴾ : (p q : WholePolynomial) → IsIn S p → IsIn S q → IsIn S (p *ᴾ q)
  in-*ᴾ p q h k = kept_in (p *ᴾ q) (kept-*ᴾ S p q (in_kept p h) (in_kept q k))

  pub in-constant : (c : ℤ) → IsIn S (constant c)
  in-constant c = kept_in (constant c) (kept-constant S c)

  pub in-0ᴾ : IsIn S 0ᴾ
  in-0ᴾ = kept_in 0ᴾ (kept-0ᴾ S)

  pub in-variable : (w : ℕ) → S w ≡ true → IsIn S (variable w)
  in-variable w h = kept_in (variable w) (kept-variable S w h)

  -- the value is told by the values at S
  pub value_in_agrees : {B : Type 0} (A : Algebra B) (at to : ℕ → B) → ((w : ℕ) → S w ≡ true → at w ≡ to w) → (p : WholePolynomial) → IsIn S p → value_in A at p ≡ value_in A to p
  value_in_agrees A at to is p h = value_in_kept S A at to is p (in_kept p h)

  pub derived_agrees : {D E : WholePolynomial → WholePolynomial} → IsDerivation D → IsDerivation E → ((w : ℕ) → S w ≡ true → D (variable w) ≡ E (variable w)) → (p : WholePolynomial) → IsIn S p → D p ≡ E p
  derived_agrees d e is p h = derived_kept S d e is p (in_kept p h)

  pub in-wider : (R : ℕ → Bool) → ((w : ℕ) → S w ≡ true → R w ≡ true) → (p : WholePolynomial) → IsIn S p → IsIn R p
  in-wider R is p h v out = h v (go (S v) refl)
    where
      go : (t : Bool) → S v ≡ t → t ≡ false
      go true e = absurd (true≢false (sym (is v e) ∙ out))
      go false e = refl

-- a variable that is not there
pub partial-outside : (S : ℕ → Bool) (v : ℕ) → S v ≡ false → (p : WholePolynomial) → IsIn S p → partial v p ≡ 0ᴾ
partial-outside S v out p h = partial-kept S v out p (in_kept S p h)

pub in-partial : (S : ℕ → Bool) (v : ℕ) (p : WholePolynomial) → IsIn S p → IsIn S (partial v p)
in-partial S v p h = kept_in S (partial v p) (kept-partial S v p (in_kept S p h))

-- ---- the variables below the bound of a polynomial
abbrev pairs_bound : List (ℕ × ℕ) → ℕ
pairs_bound es = sum_of_entries maxima (λ w e. suc w) es

abbrev terms_bound : List (Monomial × ℤ) → ℕ
terms_bound es = sum_of_entries maxima (λ m a. pairs_bound m.list) es

pub max_left : (a b n : ℕ) → max a b ≤ n → a ≤ n
max_left a b n h = omega arith

pub max_right : (a b n : ℕ) → max a b ≤ n → b ≤ n
max_right a b n h = omega arith

pub T_of_true : (b : Bool) → b ≡ true → T b
T_of_true b e = subst T (sym e) tt

pairs_below : (n : ℕ) (es : List (ℕ × ℕ)) → pairs_bound es ≤ n → T (pairs_in (is_below n) es)
pairs_below n [] h = tt
pairs_below n (e ∷ es) h = both (ltb e.0 n) _ (T_of_true _ (lt-ltb e.0 n (less (max_left (suc e.0) (pairs_bound es) n h)))) (pairs_below n es (max_right (suc e.0) (pairs_bound es) n h))
  where
    less : suc e.0 ≤ n → e.0 < n
    less h = omega arith

terms_below : (n : ℕ) (es : List (Monomial × ℤ)) → terms_bound es ≤ n → T (terms_in (is_below n) es)
terms_below n [] h = tt
terms_below n (e ∷ es) h = both (pairs_in (is_below n) (e.0).list) _ (pairs_below n (e.0).list (max_left (pairs_bound (e.0).list) (terms_bound es) n h)) (terms_below n es (max_right (pairs_bound (e.0).list) (terms_bound es) n h))

pub in-bound : (p : WholePolynomial) → IsIn (is_below (bound p)) p
in-bound p = kept_in (is_below (bound p)) p (kept-terms (is_below (bound p)) p (terms_below (bound p) p.list (itself (bound p))))
  where
    itself : (n : ℕ) → n ≤ n
    itself n = omega arith
