-- Derivatives of equations: what they say, and that their derivatives are owned.
use Rattle.std.specs.Prelude.{◌≡◌, ℕ, zero, suc, Bool, true, false, cond, List, [], ◌∷◌, get_or, ltb}
use Rattle.std.proofs.Common.{refl, sym, ap, ap₂, ◌∙◌, true≢false}
use Rattle.std.specs.Fn.{iterate}
use Rattle.std.specs.List.{AllByRecursion as Every, Contains}
use Rattle.lie_math.specs.Canonical.{sum_of_entries-map}
use Rattle.lie_math.specs.PartialDerivative.{partial}
use Rattle.lie_math.specs.Polynomial.{WholePolynomial, polynomials, 0ᴾ, ◌+ᴾ◌, ◌*ᴾ◌}
use Rattle.lie_math.specs.PolynomialRing.{polynomial_ring}
use Rattle.lie_math.specs.Counts.{Derivative, raise, raised, derived, partials, partials_from}
use Rattle.lie_math.specs.LinearForm.{LinearForm, no_form, ◌+ᶠ◌, form_term, apply}
use Rattle.lie_math.specs.LinearSystem.{Unknown, has}
use Rattle.lie_math.specs.Variables.{IsIn}
use Rattle.lie_math.proofs.Counts.{partials_raise, trimmed_raise}
use Rattle.lie_math.proofs.LinearForm.{apply_over, apply_plus, apply_term, apply_none}
use Rattle.lie_math.proofs.FiniteSum.{sum_of_entries-same}
use Rattle.lie_math.proofs.PartialDerivative.{partial-+ᴾ, partial-0ᴾ, partial-*ᴾ, partial_commutes}
use Rattle.lie_math.proofs.Ring.{times_nil}
use Rattle.lie_math.proofs.Variables.{in-partial}
use Rattle.lie_systems.specs.ValidSystems.{count, IsOwned, IsFormOf}
use Rattle.lie_steps.specs.Derivatives.{derivative, derivatives, derivatives_from}
use Rattle.lie_steps.specs.Equations.{depends}
use Rattle.lie_math.proofs.EveryElement.{every-weaken}
use Rattle.lie_math.proofs.FormEntries.{each-over, each-plus, each-term, each-none}
use Rattle.lie_math.proofs.Tests.{same_number}
use Rattle.lie_steps.proofs.Unknowns.{IsOwn, independent_free, dependent_of, same_unknown}
use Rattle.std.specs.Prelude.{eqb}
use Rattle.std.proofs.Common.{eq-eqb}
use Rattle.std.specs.List.Sorted.{IsStrictlySortedBy}
use Rattle.std.specs.Ordering.{nat_cmp, on}

-- ---- what they say
-- the derivatives of 0 are 0
iterate_zero : (i c : ℕ) → iterate (partial i) c 0ᴾ ≡ 0ᴾ
iterate_zero i zero = refl
iterate_zero i (suc c) = ap (iterate (partial i) c) (partial-0ᴾ i) ∙ iterate_zero i c

iterate_commutes : (i v c : ℕ) (p : WholePolynomial) → partial v (iterate (partial i) c p) ≡ iterate (partial i) c (partial v p)
iterate_commutes i v zero p = refl
iterate_commutes i v (suc c) p = iterate_commutes i v c (partial i p) ∙ ap (iterate (partial i) c) (partial_commutes v i p)

partial_passes_from : (i v : ℕ) (J : List ℕ) (p : WholePolynomial) → partial v (partials_from i J p) ≡ partials_from i J (partial v p)
partial_passes_from i v [] p = refl
partial_passes_from i v (c ∷ J) p = iterate_commutes i v c (partials_from (suc i) J p) ∙ ap (iterate (partial i) c) (partial_passes_from (suc i) v J p)

-- a derivative many times by one variable commutes with others
pub iterate_passes : (i j c : ℕ) (K : List ℕ) (p : WholePolynomial) → partials_from j K (iterate (partial i) c p) ≡ iterate (partial i) c (partials_from j K p)
iterate_passes i j zero K p = refl
iterate_passes i j (suc c) K p = iterate_passes i j c K (partial i p) ∙ ap (iterate (partial i) c) (sym (partial_passes_from j i K p))

-- a derivative commutes with others
pub partial_passes : (v : ℕ) (J : List ℕ) (p : WholePolynomial) → partial v (partials J p) ≡ partials J (partial v p)
partial_passes v J p = partial_passes_from 0 v J p

pub partials_from-zero : (i : ℕ) (J : List ℕ) → partials_from i J 0ᴾ ≡ 0ᴾ
partials_from-zero i [] = refl
partials_from-zero i (c ∷ J) = ap (iterate (partial i) c) (partials_from-zero (suc i) J) ∙ iterate_zero i c

pub partials-zero : (J : List ℕ) → partials J 0ᴾ ≡ 0ᴾ
partials-zero J = partials_from-zero 0 J

-- a polynomial without v has derivatives without v
pub free_partials : (v : ℕ) (J : List ℕ) (p : WholePolynomial) → partial v p ≡ 0ᴾ → partial v (partials J p) ≡ 0ᴾ
free_partials v J p h = partial_passes v J p ∙ ap (partials J) h ∙ partials-zero J

-- the unknown of each derivative that occurs is listed
abbrev pub IsListed : List Unknown → Derivative → Type 0
IsListed us d = (u : Unknown) × Contains us u × (u.number ≡ d.unknown)

module _ (F : ℕ → WholePolynomial) (us : List Unknown) (own : Every (IsOwn F) us) where
  pub apply_derivative : (i : ℕ) (E : LinearForm) → Every (λ (e : Derivative × WholePolynomial). IsListed us e.0) E.list → apply F (derivative us i E) ≡ partial i (apply F E)
  unfolding derivative apply
  apply_derivative i E h =
      apply_over F (λ d a. form_term d (partial i a) +ᶠ cond (depends us d.unknown i) (form_term (raised i d) a) no_form) E
      ∙ sum_of_entries-same polynomials _ (λ d a. partial i (a *ᴾ derived F d)) E.list (every-weaken (λ (e : Derivative × WholePolynomial). IsListed us e.0) _ (λ e k. one e.0 e.1 k) E.list h)
      ∙ sym (sum_of_entries-map polynomials polynomials (partial i) (partial-0ᴾ i) (partial-+ᴾ i) (λ d a. a *ᴾ derived F d) E.list)
    where
      other : (d : Derivative) (a : WholePolynomial) → IsListed us d → (t : Bool) → depends us d.unknown i ≡ t → apply F (cond t (form_term (raised i d) a) no_form) ≡ a *ᴾ partial i (derived F d)
      other d a l true e = apply_term F (raised i d) a ∙ ap (λ q. a *ᴾ q) (partials_raise i d.counts (F d.unknown))
      other d a l false e =
          apply_none F ∙ sym (ap (λ q. a *ᴾ q) (free_partials i d.counts (F d.unknown) (ap (λ f. partial i (F f)) (sym l.2) ∙ independent_free us F l.0 i own l.1 (ap (λ f. depends us f i) l.2 ∙ e))) ∙ times_nil polynomial_ring a)

      one : (d : Derivative) (a : WholePolynomial) → IsListed us d → apply F (form_term d (partial i a) +ᶠ cond (depends us d.unknown i) (form_term (raised i d) a) no_form) ≡ partial i (a *ᴾ derived F d)
      one d a l =
          apply_plus F (form_term d (partial i a)) (cond (depends us d.unknown i) (form_term (raised i d) a) no_form)
          ∙ ap₂ ◌+ᴾ◌ (apply_term F d (partial i a)) (other d a l (depends us d.unknown i) refl)
          ∙ sym (partial-*ᴾ i a (derived F d))

-- ---- they are owned
pub count_raised : (i v : ℕ) (J : List ℕ) → ¬ (v ≡ i) → get_or (raise i J) v 0 ≡ get_or J v 0
count_raised zero zero J n = absurd (n refl)
count_raised zero (suc v) [] n = refl
count_raised zero (suc v) (c ∷ J) n = refl
count_raised (suc i) zero [] n = refl
count_raised (suc i) zero (c ∷ J) n = refl
count_raised (suc i) (suc v) [] n = count_raised i v [] (λ e. n (ap suc e)) ∙ nothing v
  where
    nothing : (v : ℕ) → get_or {A = ℕ} [] v 0 ≡ 0
    nothing v = refl
count_raised (suc i) (suc v) (c ∷ J) n = count_raised i v J (λ e. n (ap suc e))

abbrev pub IsRising : List Unknown → Type 0
IsRising us = IsStrictlySortedBy (on (λ (u : Unknown). u.number) nat_cmp) us

raised_owned : (us : List Unknown) → IsRising us → (i : ℕ) (d : Derivative) → IsOwned us d → depends us d.unknown i ≡ true → IsOwned us (raised i d)
raised_owned us r i d o e = record { unknown = o.unknown; listed = o.listed; number = o.number; own = own; short = trimmed_raise i d.counts ∙ ap (raise i) o.short }
  where
    same : has o.unknown i ≡ true
    same = let p = dependent_of us d.unknown i e in ap (λ u. has u i) (same_unknown us o.unknown p.0 r o.listed p.1 (o.number ∙ sym p.2)) ∙ p.3

    own : (v : ℕ) → ¬ (count (raised i d) v ≡ 0) → has o.unknown v ≡ true
    own v n = go (eqb v i) refl
      where
        go : (t : Bool) → eqb v i ≡ t → has o.unknown v ≡ true
        go true k = ap (has o.unknown) (same_number v i k) ∙ same
        go false k = o.own v (λ z. n (count_raised i v d.counts (λ f. true≢false (sym (eq-eqb v i f) ∙ k)) ∙ z))

module _ (n : ℕ) (us : List Unknown) (r : IsRising us) where
  pub derivative-form : (i : ℕ) (E : LinearForm) → IsFormOf n us E → IsFormOf n us (derivative us i E)
  unfolding derivative
  derivative-form i E h =
      each-over (IsOwned us) (λ v. ltb v n) (λ (e : Derivative × WholePolynomial). IsOwned us e.0 × IsIn (λ v. ltb v n) e.1) _ one E h
    where
      other : (d : Derivative) (a : WholePolynomial) → IsOwned us d → IsIn (λ v. ltb v n) a → (t : Bool) → depends us d.unknown i ≡ t → IsFormOf n us (cond t (form_term (raised i d) a) no_form)
      other d a o k true e = each-term (IsOwned us) (λ v. ltb v n) (raised i d) a (raised_owned us r i d o e) k
      other d a o k false e = each-none (IsOwned us) (λ v. ltb v n)

      one : (d : Derivative) (a : WholePolynomial) → IsOwned us d × IsIn (λ v. ltb v n) a → IsFormOf n us (form_term d (partial i a) +ᶠ cond (depends us d.unknown i) (form_term (raised i d) a) no_form)
      one d a k =
          each-plus (IsOwned us) (λ v. ltb v n) (form_term d (partial i a)) _ (each-term (IsOwned us) (λ v. ltb v n) d (partial i a) k.0 (in-partial (λ v. ltb v n) i a k.1))
          (other d a k.0 k.1 (depends us d.unknown i) refl)

  pub iterated-form : (i c : ℕ) (E : LinearForm) → IsFormOf n us E → IsFormOf n us (iterate (derivative us i) c E)
  iterated-form i zero E h = h
  iterated-form i (suc c) E h = iterated-form i c (derivative us i E) (derivative-form i E h)

  derivatives_from-form : (i : ℕ) (K : List ℕ) (E : LinearForm) → IsFormOf n us E → IsFormOf n us (derivatives_from us i K E)
  derivatives_from-form i [] E h = h
  derivatives_from-form i (c ∷ K) E h = derivatives_from-form (suc i) K (iterate (derivative us i) c E) (iterated-form i c E h)

  pub derivatives-form : (K : List ℕ) (E : LinearForm) → IsFormOf n us E → IsFormOf n us (derivatives us K E)
  derivatives-form K E h = derivatives_from-form 0 K E h

  -- ---- and what they say
  pub all_listed : (E : LinearForm) → IsFormOf n us E → Every (λ (e : Derivative × WholePolynomial). IsListed us e.0) E.list
  all_listed E h = every-weaken (λ (e : Derivative × WholePolynomial). IsOwned us e.0 × IsIn (λ v. ltb v n) e.1) _ (λ e k. ((k.0).unknown, (k.0).listed, (k.0).number)) E.list h

  module _ (F : ℕ → WholePolynomial) (own : Every (IsOwn F) us) where
    pub apply_iterated : (i c : ℕ) (E : LinearForm) → IsFormOf n us E → apply F (iterate (derivative us i) c E) ≡ iterate (partial i) c (apply F E)
    apply_iterated i zero E h = refl
    apply_iterated i (suc c) E h = apply_iterated i c (derivative us i E) (derivative-form i E h) ∙ ap (iterate (partial i) c) (apply_derivative F us own i E (all_listed E h))

    apply_derivatives_from : (i : ℕ) (K : List ℕ) (E : LinearForm) → IsFormOf n us E → apply F (derivatives_from us i K E) ≡ partials_from i K (apply F E)
    apply_derivatives_from i [] E h = refl
    apply_derivatives_from i (c ∷ K) E h =
        apply_derivatives_from (suc i) K (iterate (derivative us i) c E) (iterated-form i c E h) ∙ ap (partials_from (suc i) K) (apply_iterated i c E h) ∙ iterate_passes i (suc i) c K (apply F E)

    pub apply_derivatives : (K : List ℕ) (E : LinearForm) → IsFormOf n us E → apply F (derivatives us K E) ≡ partials K (apply F E)
    apply_derivatives K E h = apply_derivatives_from 0 K E h
