-- The equations have derivatives of the unknowns by variables z, with polynomials in z.
use Rattle.std.specs.Prelude.{◌≡◌, ℕ, ◌-◌, ◌⊎◌, Bool, true, false, cond, not, List, [], ◌∷◌, ◌++◌, map, pos, ℤ}
use Rattle.std.proofs.Common.{refl, sym, ap, subst, ◌∙◌, arith, inl, inr}
use Rattle.std.specs.List.{AllByRecursion as Every}
use Rattle.std.specs.Ordering.{eq_by_cmp}
use Rattle.lie_math.proofs.EveryElement.{every-append}
use Rattle.lie_math.specs.FiniteSumLaws.{value-term, plus_comm, plus_idl}
use Rattle.lie_math.specs.Counts.{Derivative, derivative_cmp}
use Rattle.lie_math.specs.LinearForm.{forms, LinearForm, no_form}
use Rattle.lie_math.specs.Monomial.{Monomial, monomial_cmp, exponent, unit}
use Rattle.lie_math.specs.Polynomial.{WholePolynomial, terms, term, polynomial_of}
use Rattle.lie_math.specs.PolynomialRing.{polynomial_of-none}
use Rattle.lie_math.specs.Variables.{IsIn}
use Rattle.lie_math.proofs.CanonicalLists.{of-cons}
use Rattle.lie_math.proofs.FiniteSum.{key, entries_of}
use Rattle.lie_math.proofs.Limits.{term_is}
use Rattle.lie_math.proofs.Variables.{in-+ᴾ, in-0ᴾ}
use Rattle.lie_geometry.specs.Coordinates.{Space}
use Rattle.lie_geometry.specs.DeterminingEquations.{restrict}
use Rattle.lie_geometry.specs.Prolongation.{is_in_z}
use Rattle.lie_geometry.proofs.Parts.{exponent-restrict}
use Rattle.lie_systems.specs.Normalised.{primitive, primitive_of, primitive_triples, divided, derivative_alone, first_sign, content, common_monomial}
use Rattle.lie_systems.specs.Triples.{Triple, triples, triples_in, triples_with, sum_of_triples, form_of_triple}
use Rattle.lie_systems.proofs.Exponents.{exponent-without, exponent-unit}
use Rattle.lie_systems.proofs.Primitive.{no_derivative}
use Rattle.lie_lin.specs.Forms.{terms_at, coefficient_at}
use Rattle.lie_lin.proofs.Gathering.{value-sum}
use Rattle.lie_determining.specs.Equations.{IsDerivativeInZ, HasDerivativesInZ, IsNormalisedPart, part_of_form}
use Rattle.lie_parts.specs.Parts.{triples_at, split_triples}
use Rattle.lie_parts.proofs.PartForms.{sum_at}
use Rattle.lie_determining.proofs.SortedLists.{every_of}
use Rattle.lie_math.proofs.EveryElement.{every_picked}

module _ (A : ℕ → Bool) where
  -- no variable outside A
  abbrev pub IsMonomialIn : Monomial → Type 0
  IsMonomialIn m = (v : ℕ) → A v ≡ false → exponent m v ≡ 0

  term_in : (m : Monomial) (a : ℤ) → IsMonomialIn m → IsIn A (term m a)
  term_in m a h v out n apart = go (eq_by_cmp monomial_cmp n m) refl
    where
      go : (b : Bool) → eq_by_cmp monomial_cmp n m ≡ b → exponent n v ≡ 0
      go true e = ap (λ k. exponent k v) (key terms n m e) ∙ h v out
      go false e = absurd (apart (value-term terms m a n ∙ ap (λ b. cond b a (pos 0)) e))

  coefficient_in : (d : Derivative) (us : List Triple) → Every (λ (t : Triple). IsMonomialIn t.1) us → IsIn A (coefficient_at d us)
  coefficient_in d [] h = subst (IsIn A) (sym polynomial_of-none) (in-0ᴾ A)
  coefficient_in d (t ∷ us) h = go (eq_by_cmp derivative_cmp d t.0) (coefficient_in d us h.1)
    where
      go : (b : Bool) → IsIn A (coefficient_at d us) → IsIn A (polynomial_of (cond b ((t.1, t.2) ∷ terms_at d us) (terms_at d us)))
      go true i = subst (IsIn A) (sym (of-cons terms (t.1, t.2) (terms_at d us))) (in-+ᴾ A (polynomial_of ((t.1, t.2) ∷ [])) (coefficient_at d us) (subst (IsIn A) (term_is t.1 t.2) (term_in t.1 t.2 h.0)) i)
      go false i = i

  monomials_in : (d : Derivative) (p : WholePolynomial) → IsIn A p → Every (λ (t : Triple). IsMonomialIn t.1) (triples_with d p.list)
  monomials_in d p h = go p.list (entries_of terms p (λ e. IsMonomialIn e.0) (λ e is apart. λ v out. h v out e.0 (λ z. apart (sym is ∙ z))))
    where
      go : (es : List (Monomial × ℤ)) → Every (λ (e : Monomial × ℤ). IsMonomialIn e.0) es → Every (λ (t : Triple). IsMonomialIn t.1) (triples_with d es)
      go [] k = tt
      go (e ∷ es) k = (k.0, go es k.1)

module _ (P : Derivative → Type 0) (A : ℕ → Bool) where
  -- triples with derivatives of P and monomials of A, and forms of them
  abbrev pub IsTripleIn : Triple → Type 0
  IsTripleIn t = P t.0 × IsMonomialIn A t.1

  abbrev pub IsFormIn : LinearForm → Type 0
  IsFormIn E = Every (λ (e : Derivative × WholePolynomial). P e.0 × IsIn A e.1) E.list

  derivative_found : (d : Derivative) (us : List Triple) → Every IsTripleIn us → (terms_at d us ≡ []) ⊎ P d
  derivative_found d [] h = inl refl
  derivative_found d (t ∷ us) h = go (eq_by_cmp derivative_cmp d t.0) refl (derivative_found d us h.1)
    where
      go : (b : Bool) → eq_by_cmp derivative_cmp d t.0 ≡ b → (terms_at d us ≡ []) ⊎ P d → (cond b ((t.1, t.2) ∷ terms_at d us) (terms_at d us) ≡ []) ⊎ P d
      go true e s = inr (subst P (sym (key forms d t.0 e)) h.0.0)
      go false e s = s

  seconds : (us : List Triple) → Every IsTripleIn us → Every (λ (t : Triple). IsMonomialIn A t.1) us
  seconds us h = every_of IsTripleIn (λ (t : Triple). IsMonomialIn A t.1) us (λ t k. k.1) h

  -- a sum of such triples is such a form
  pub sum_is_in : (us : List Triple) → Every IsTripleIn us → IsFormIn (sum_of_triples us)
  sum_is_in us h = entries_of forms (sum_of_triples us) (λ e. P e.0 × IsIn A e.1) (λ e is apart. (
    elim (derivative_found e.0 us h) [
      | inl z ↦ absurd (apart (sym is ∙ value-sum e.0 us ∙ ap polynomial_of z ∙ polynomial_of-none))
      | inr p ↦ p
    ],
    subst (IsIn A) (sym (value-sum e.0 us) ∙ is) (coefficient_in A e.0 us (seconds us h)),
  ))

  pub triples_are_in : (E : LinearForm) → IsFormIn E → Every IsTripleIn (triples E)
  triples_are_in E h = go E.list h
    where
      one : (d : Derivative) (ts : List (Monomial × ℤ)) → P d → Every (λ (t : Triple). IsMonomialIn A t.1) (triples_with d ts) → Every IsTripleIn (triples_with d ts)
      one d [] p k = tt
      one d (t ∷ ts) p k = ((p, k.0), one d ts p k.1)

      go : (es : List (Derivative × WholePolynomial)) → Every (λ (e : Derivative × WholePolynomial). P e.0 × IsIn A e.1) es → Every IsTripleIn (triples_in es)
      go [] k = tt
      go (e ∷ es) k = every-append IsTripleIn (triples_with e.0 e.1.list) (triples_in es) (one e.0 e.1.list k.0.0 (monomials_in A e.0 e.1 k.0.1)) (go es k.1)

  divided_in : (s : ℤ) (g : ℕ) (m : Monomial) (us : List Triple) → Every IsTripleIn us → Every IsTripleIn (map (divided s g m) us)
  divided_in s g m [] h = tt
  divided_in s g m (t ∷ us) h = ((h.0.0, (λ v out. exponent-without m t.1 v ∙ ap (λ n. n - exponent m v) (h.0.1 v out) ∙ nothing (exponent m v))), divided_in s g m us h.1)
    where
      nothing : (n : ℕ) → 0 - n ≡ 0
      nothing n = omega arith

  pub alone_is_in : (d : Derivative) → P d → IsFormIn (derivative_alone d)
  alone_is_in d p =
      subst IsFormIn (plus_comm forms (form_of_triple (d, unit, pos 1)) no_form ∙ plus_idl forms (form_of_triple (d, unit, pos 1)))
      (sum_is_in ((d, unit, pos 1) ∷ []) ((p, λ v out. exponent-unit v), tt))

  -- the normalised equation of such a form is one
  pub primitive_is_in : (E : LinearForm) → ¬ (E ≡ no_form) → IsFormIn E → IsFormIn (primitive E)
  unfolding primitive
  primitive_is_in E n h = go E.list refl h
    where
      go : (es : List (Derivative × WholePolynomial)) → E.list ≡ es → Every (λ (e : Derivative × WholePolynomial). P e.0 × IsIn A e.1) es → IsFormIn (primitive_of es (triples E))
      go [] is k = absurd (n (no_derivative E is))
      go (e ∷ []) is k = alone_is_in e.0 k.0.0
      go (e ∷ f ∷ es) is k = sum_is_in (primitive_triples (triples E)) (divided_in (first_sign (triples E)) (content (triples E)) (common_monomial (triples E)) (triples E) (triples_are_in E h))

-- ---- the parts of a form
module _ (S : Space) where
  derivatives_of_form : (E : LinearForm) → HasDerivativesInZ S E → Every (λ (t : Triple). IsDerivativeInZ S t.0) (triples E)
  derivatives_of_form E h = go E.list (entries_of forms E (λ e. IsDerivativeInZ S e.0) (λ e is apart. h e.0 (λ z. apart (sym is ∙ z))))
    where
      one : (d : Derivative) (ts us : List (Monomial × ℤ)) (more : List Triple) → IsDerivativeInZ S d → Every (λ (t : Triple). IsDerivativeInZ S t.0) more → Every (λ (t : Triple). IsDerivativeInZ S t.0) (triples_with d ts ++ more)
      one d [] us more p k = k
      one d (t ∷ ts) us more p k = (p, one d ts us more p k)

      go : (es : List (Derivative × WholePolynomial)) → Every (λ (e : Derivative × WholePolynomial). IsDerivativeInZ S e.0) es → Every (λ (t : Triple). IsDerivativeInZ S t.0) (triples_in es)
      go [] k = tt
      go (e ∷ es) k = one e.0 e.1.list [] (triples_in es) k.0 (go es k.1)

  split_in : (μ : Monomial) (ts : List Triple) → Every (λ (t : Triple). IsDerivativeInZ S t.0) ts → Every (IsTripleIn (IsDerivativeInZ S) (is_in_z S)) (triples_at μ (split_triples (is_in_z S) ts))
  split_in μ [] h = tt
  split_in μ (t ∷ ts) h = go (eq_by_cmp monomial_cmp μ (restrict (λ v. not (is_in_z S v)) t.1)) (split_in μ ts h.1)
    where
      go : (b : Bool) → Every (IsTripleIn (IsDerivativeInZ S) (is_in_z S)) (triples_at μ (split_triples (is_in_z S) ts))
          → Every (IsTripleIn (IsDerivativeInZ S) (is_in_z S)) (cond b ((t.0, restrict (is_in_z S) t.1, t.2) ∷ triples_at μ (split_triples (is_in_z S) ts)) (triples_at μ (split_triples (is_in_z S) ts)))
      go true i = ((h.0, λ v out. exponent-restrict (is_in_z S) t.1 v ∙ ap (λ b. cond b (exponent t.1 v) 0) out), i)
      go false i = i

  part_is_in : (E : LinearForm) (μ : Monomial) → HasDerivativesInZ S E → IsFormIn (IsDerivativeInZ S) (is_in_z S) (part_of_form S E μ)
  part_is_in E μ h = subst (IsFormIn (IsDerivativeInZ S) (is_in_z S)) (sum_at (is_in_z S) μ E) (sum_is_in (IsDerivativeInZ S) (is_in_z S) (triples_at μ (split_triples (is_in_z S) (triples E))) (split_in μ (triples E) (derivatives_of_form E h)))

  pub normalised_part_is_in : (Es : List LinearForm) → Every (HasDerivativesInZ S) Es → (e : LinearForm) → IsNormalisedPart S Es e → IsFormIn (IsDerivativeInZ S) (is_in_z S) e
  normalised_part_is_in Es h e a =
      subst (IsFormIn (IsDerivativeInZ S) (is_in_z S)) (sym a.4.2)
      (primitive_is_in (IsDerivativeInZ S) (is_in_z S) (part_of_form S a.1 a.4.0) a.4.1 (part_is_in a.1 a.4.0 (subst (HasDerivativesInZ S) a.3 (every_picked (HasDerivativesInZ S) Es a.0 a.1 a.2 h).0)))
