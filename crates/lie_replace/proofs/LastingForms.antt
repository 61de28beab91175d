-- Forms of which no term is lost by derivatives: they grow.
use Rattle.std.specs.Prelude.{◌≡◌, ℕ, zero, suc, ◌+◌, ◌-◌, ◌<◌, ◌≤◌, Bool, true, false, cond, eqb, ◌⊎◌, List, [], ◌∷◌, ℤ, pos, ◌*ℤ◌, ◌+ℤ◌, unsigned_abs}
use Rattle.std.proofs.Common.{refl, sym, ap, ap₂, subst, ◌∙◌, arith, eqb-true, eq-eqb, true≢false, inl, inr, Ordering, is_eq, add-suc}
use Rattle.std.specs.Cmp.{tied_itself}
use Rattle.lie_math.proofs.Integer.{unsigned_abs_zero}
use Rattle.lie_math.specs.DerivativeOrder.{derivative_cmp_total}
use Rattle.std.specs.List.{AllByRecursion as Every}
use Rattle.std.specs.Ordering.{eq_by_cmp, nat_cmp}
use Rattle.lie_math.specs.Counts.{Derivative, derivative_cmp, raise, raised, order}
use Rattle.lie_math.specs.FiniteSumLaws.{value-plus, value-none, value-term}
use Rattle.lie_math.specs.LinearForm.{forms, LinearForm, no_form, ◌+ᶠ◌, form_term}
use Rattle.lie_math.specs.LinearSystem.{Unknown}
use Rattle.lie_math.specs.Limits.{HasHighExponent}
use Rattle.lie_math.specs.Monomial.{Monomial, exponent, powers}
use Rattle.lie_math.specs.PartialDerivative.{partial, lower}
use Rattle.lie_math.specs.Polynomial.{WholePolynomial, terms, coefficient, 0ᴾ, ◌+ᴾ◌}
use Rattle.lie_math.proofs.CanonicalLists.{value_has}
use Rattle.lie_math.proofs.EveryElement.{every-weaken}
use Rattle.lie_math.proofs.FiniteSum.{key, entries_of, value-put}
use Rattle.lie_math.proofs.Limits.{IsCovered}
use Rattle.lie_math.proofs.Monomial.{exponent-lower}
use Rattle.lie_math.proofs.TermWise.{derived_list}
use Rattle.lie_steps.specs.Derivatives.{derivative}
use Rattle.lie_steps.specs.Equations.{depends, rest_of}
use Rattle.lie_steps.proofs.Rests.{apart_from}
use Rattle.lie_replace.specs.Growing.{GrowsTo, IsLasting, FormLasts}
use Rattle.lie_replace.specs.Replacing.{derivatives_by, occurrences}
use Rattle.lie_normal.specs.TermSums.{raised_term, derivative_term}
use Rattle.lie_jet.proofs.PolynomialBounds.{IsBound, none_bound, plain_bound}
use Rattle.lie_form.proofs.FormBounds.{at, IsFormBound, IsPlain, form_none, form_one, form_first, form_second, form_trans, over_entries}
use Rattle.lie_replace.proofs.GrowingCoefficients.{Has, grows_covered, grows_trans, grows_partial, list-partial, partial_plain}
use Rattle.lie_replace.proofs.DerivativesBy.{derivative-plus, derivative-term}
use Rattle.lie_replace.proofs.DerivativeBounds.{term_plain, derivative_plain}

module _ (us : List Unknown) where
  -- ---- polynomials
  -- each monomial lasts through the derivatives by the variables, as a coefficient of the unknown f
  abbrev pub Lasts : List ℕ → ℕ → WholePolynomial → Type 0
  Lasts vs f p = Every (λ (e : Monomial × ℤ). IsLasting us vs f e.0) p.list

  pub lasts_at : (vs : List ℕ) (f : ℕ) (p : WholePolynomial) → ((m : Monomial) → ¬ (coefficient p m ≡ pos 0) → IsLasting us vs f m) → Lasts vs f p
  lasts_at vs f p h = entries_of terms p (λ (e : Monomial × ℤ). IsLasting us vs f e.0) (λ e is n. h e.0 (λ z. n (sym is ∙ z)))

  pub lasting_of : (vs : List ℕ) (f : ℕ) (p : WholePolynomial) → Lasts vs f p → (m : Monomial) → ¬ (coefficient p m ≡ pos 0) → IsLasting us vs f m
  lasting_of vs f p h m n = value_has terms (λ (e : Monomial × ℤ). IsLasting us vs f e.0) m p.list p.canonical h n

  pub lasts_none : (vs : List ℕ) (f : ℕ) → Lasts vs f 0ᴾ
  lasts_none vs f = lasts_at vs f 0ᴾ (λ m n. absurd (n (value-none terms m)))

  pub lasts_plus : (vs : List ℕ) (f : ℕ) (p q : WholePolynomial) → Lasts vs f p → Lasts vs f q → Lasts vs f (p +ᴾ q)
  lasts_plus vs f p q h k = lasts_at vs f (p +ᴾ q) (λ m n. go m n (decide (coefficient p m)))
    where
      decide : (z : ℤ) → (z ≡ pos 0) ⊎ (¬ (z ≡ pos 0))
      decide z = by (eqb (unsigned_abs z) 0) refl
        where
          by : (t : Bool) → eqb (unsigned_abs z) 0 ≡ t → (z ≡ pos 0) ⊎ (¬ (z ≡ pos 0))
          by true e = inl (unsigned_abs_zero z (eqb-true (unsigned_abs z) 0 e))
          by false e = inr (λ y. true≢false (sym (eq-eqb (unsigned_abs z) 0 (ap unsigned_abs y)) ∙ e))

      go : (m : Monomial) → ¬ (coefficient (p +ᴾ q) m ≡ pos 0) → (coefficient p m ≡ pos 0) ⊎ (¬ (coefficient p m ≡ pos 0)) → IsLasting us vs f m
      go m n (inl z) = lasting_of vs f q k m (λ y. n (value-plus terms p q m ∙ ap₂ ◌+ℤ◌ z y))
      go m n (inr o) = lasting_of vs f p h m o

  -- one derivative more is taken of a coefficient
  lower_lasts : (v : ℕ) (vs : List ℕ) (f : ℕ) (m : Monomial) → IsLasting us (v ∷ vs) f m → IsLasting us vs f (lower v m)
  lower_lasts v vs f m h = record {
    often = λ w free. subst (λ n. occurrences w vs ≤ n) (sym (exponent-lower v w m)) (by w (eqb v w) refl (eq_by_cmp nat_cmp w v) refl (h.often w free));
    low = λ w. subst (λ n. n ≤ 65535) (sym (exponent-lower v w m)) (down (eq_by_cmp nat_cmp w v) (h.low v) (h.low w));
  }
    where
      down : {a b : ℕ} (t : Bool) → a ≤ 65535 → b ≤ 65535 → cond t (a - 1) b ≤ 65535
      down true h k = omega arith
      down false h k = k

      by : (w : ℕ) (s : Bool) → eqb v w ≡ s → (t : Bool) → eq_by_cmp nat_cmp w v ≡ t → cond s (suc (occurrences w vs)) (occurrences w vs) ≤ exponent m w → occurrences w vs ≤ cond t (exponent m v - 1) (exponent m w)
      by w true e true q h = let same : v ≡ w = eqb-true v w e in let k : suc (occurrences w vs) ≤ exponent m v = subst (λ x. suc (occurrences w vs) ≤ exponent m x) (sym same) h in omega arith
      by w true e false q h = omega arith
      by w false e true q h = absurd (true≢false (sym (eq-eqb v w (sym (key powers w v q))) ∙ e))
      by w false e false q h = h

  kept_lasts : (v : ℕ) (vs : List ℕ) (f : ℕ) (m : Monomial) → IsLasting us (v ∷ vs) f m → IsLasting us vs f m
  kept_lasts v vs f m h = record { often = λ w free. by w (eqb v w) (h.often w free); low = h.low }
    where
      by : (w : ℕ) (s : Bool) → cond s (suc (occurrences w vs)) (occurrences w vs) ≤ exponent m w → occurrences w vs ≤ exponent m w
      by w true h = omega arith
      by w false h = h

  pub lasts_partial : (v : ℕ) (vs : List ℕ) (f : ℕ) (p : WholePolynomial) → Lasts (v ∷ vs) f p → Lasts vs f (partial v p)
  lasts_partial v vs f p h = subst (Every (λ (e : Monomial × ℤ). IsLasting us vs f e.0)) (sym (list-partial v p)) (go p.list h)
    where
      go : (es : List (Monomial × ℤ)) → Every (λ (e : Monomial × ℤ). IsLasting us (v ∷ vs) f e.0) es → Every (λ (e : Monomial × ℤ). IsLasting us vs f e.0) (derived_list v es)
      go [] h = tt
      go (e ∷ es) h = by (eqb (exponent e.0 v) 0) (go es h.1)
        where
          by : (t : Bool) → Every (λ (e : Monomial × ℤ). IsLasting us vs f e.0) (derived_list v es)
              → Every (λ (e : Monomial × ℤ). IsLasting us vs f e.0) (cond t (derived_list v es) ((lower v e.0, e.1 *ℤ pos (exponent e.0 v)) ∷ derived_list v es))
          by true r = r
          by false r = (lower_lasts v vs f e.0 h.0, r)

  pub lasts_kept : (v : ℕ) (vs : List ℕ) (f : ℕ) (p : WholePolynomial) → Lasts (v ∷ vs) f p → Lasts vs f p
  lasts_kept v vs f p h = every-weaken (λ (e : Monomial × ℤ). IsLasting us (v ∷ vs) f e.0) (λ (e : Monomial × ℤ). IsLasting us vs f e.0) (λ e k. kept_lasts v vs f e.0 k) p.list h

  -- ---- forms
  pub form_lasts_none : (vs : List ℕ) → FormLasts us vs no_form
  form_lasts_none vs = record { each = λ d. subst (Lasts vs d.unknown) (sym (value-none forms d)) (lasts_none vs d.unknown) }

  pub form_lasts_plus : (vs : List ℕ) (X Y : LinearForm) → FormLasts us vs X → FormLasts us vs Y → FormLasts us vs (X +ᶠ Y)
  form_lasts_plus vs X Y h k = record { each = λ d. subst (Lasts vs d.unknown) (sym (value-plus forms X Y d)) (lasts_plus vs d.unknown (at X d) (at Y d) (h.each d) (k.each d)) }

  pub form_lasts_term : (vs : List ℕ) (d : Derivative) (a : WholePolynomial) → Lasts vs d.unknown a → FormLasts us vs (form_term d a)
  form_lasts_term vs d a h = record { each = λ k. subst (Lasts vs k.unknown) (sym (value-term forms d a k)) (by k (eq_by_cmp derivative_cmp k d) refl) }
    where
      by : (k : Derivative) (t : Bool) → eq_by_cmp derivative_cmp k d ≡ t → Lasts vs k.unknown (cond t a 0ᴾ)
      by k true e = subst (λ (j : Derivative). Lasts vs j.unknown a) (sym (key forms k d e)) h
      by k false e = lasts_none vs k.unknown

  pub form_lasts_derivative : (v : ℕ) (vs : List ℕ) (X : LinearForm) → FormLasts us (v ∷ vs) X → FormLasts us vs (derivative us v X)
  unfolding derivative
  form_lasts_derivative v vs X h = go X.list (entries_of forms X (λ (e : Derivative × WholePolynomial). Lasts (v ∷ vs) (e.0).unknown e.1) (λ e is n. subst (Lasts (v ∷ vs) (e.0).unknown) is (h.each e.0)))
    where
      one : (d : Derivative) (a : WholePolynomial) → Lasts (v ∷ vs) d.unknown a → FormLasts us vs (derivative_term us v d a)
      one d a k = form_lasts_plus vs (form_term d (partial v a)) (raised_term us v d a) (form_lasts_term vs d (partial v a) (lasts_partial v vs d.unknown a k)) (by (depends us d.unknown v))
        where
          by : (t : Bool) → FormLasts us vs (cond t (form_term (raised v d) a) no_form)
          by true = form_lasts_term vs (raised v d) a (lasts_kept v vs d.unknown a k)
          by false = form_lasts_none vs

      go : (es : List (Derivative × WholePolynomial)) → Every (λ (e : Derivative × WholePolynomial). Lasts (v ∷ vs) (e.0).unknown e.1) es → FormLasts us vs (over_entries (derivative_term us v) es)
      go [] k = form_lasts_none vs
      go (e ∷ es) k = form_lasts_plus vs (derivative_term us v e.0 e.1) (over_entries (derivative_term us v) es) (one e.0 e.1 k.0) (go es k.1)

  -- ---- where the coefficient of a derivative goes
  abbrev pub step : ℕ → Derivative → Derivative
  step v d = cond (depends us d.unknown v) (raised v d) d

  abbrev pub steps : List ℕ → Derivative → Derivative
  steps [] d = d
  steps (v ∷ vs) d = steps vs (step v d)

  rest_plain : (d : Derivative) (X : LinearForm) → IsPlain X → IsPlain (rest_of d X)
  rest_plain d X h = record { each = λ k. subst (λ p. IsBound p p) (sym (value-put forms d 0ᴾ X k)) (by (eq_by_cmp derivative_cmp k d) (h.each k)) }
    where
      by : {p : WholePolynomial} (t : Bool) → IsBound p p → IsBound (cond t 0ᴾ p) (cond t 0ᴾ p)
      by true k = none_bound
      by false k = k

  at_itself : (d : Derivative) (a : WholePolynomial) → at (form_term d a) d ≡ a
  at_itself d a = value-term forms d a d ∙ ap (λ (r : Ordering). cond (is_eq r) a 0ᴾ) (tied_itself derivative_cmp_total d)

  has_first : (v : ℕ) (vs : List ℕ) (f : ℕ) → depends us f v ≡ false → (p : WholePolynomial) → Lasts (v ∷ vs) f p → Has v p
  has_first v vs f free p h = every-weaken (λ (e : Monomial × ℤ). IsLasting us (v ∷ vs) f e.0) (λ (e : Monomial × ℤ). 1 ≤ exponent e.0 v) (λ e k. one e.0 (k.often v free)) p.list h
    where
      one : (m : Monomial) → cond (eqb v v) (suc (occurrences v vs)) (occurrences v vs) ≤ exponent m v → 1 ≤ exponent m v
      one m k = let l : suc (occurrences v vs) ≤ exponent m v = subst (λ t. cond t (suc (occurrences v vs)) (occurrences v vs) ≤ exponent m v) (eq-eqb v v refl) k in omega arith

  module _ (v : ℕ) (vs : List ℕ) (X : LinearForm) (d : Derivative) (plain : IsPlain X) (h : FormLasts us (v ∷ vs) X) where
    parts : derivative us v X ≡ derivative_term us v d (at X d) +ᶠ derivative us v (rest_of d X)
    parts = ap (derivative us v) (apart_from d X) ∙ derivative-plus us v (form_term d (at X d)) (rest_of d X) ∙ ap (λ G. G +ᶠ derivative us v (rest_of d X)) (derivative-term us v d (at X d))

    first_part : IsFormBound (derivative_term us v d (at X d)) (derivative us v X)
    first_part = subst (IsFormBound (derivative_term us v d (at X d))) (sym parts) (form_first (derivative_term us v d (at X d)) (derivative us v (rest_of d X)) (term_plain us v d (at X d) (plain.each d).plain) (derivative_plain us v (rest_of d X) (rest_plain d X plain)))

    lowered : IsPlain (form_term d (partial v (at X d)))
    lowered = form_one d (partial v (at X d)) (partial v (at X d)) (plain_bound (partial v (at X d)) (partial_plain v (at X d) (plain.each d).plain))

    pub grows_step : GrowsTo (at X d) (at (derivative us v X) (step v d))
    grows_step = by (depends us d.unknown v) refl
      where
        by : (t : Bool) → depends us d.unknown v ≡ t → GrowsTo (at X d) (at (derivative us v X) (cond t (raised v d) d))
        by true e =
            let r : IsFormBound (form_term (raised v d) (at X d)) (derivative_term us v d (at X d)) =
            subst (λ t. IsFormBound (form_term (raised v d) (at X d)) (form_term d (partial v (at X d)) +ᶠ cond t (form_term (raised v d) (at X d)) no_form)) (sym e)
            (form_second (form_term d (partial v (at X d))) (form_term (raised v d) (at X d)) lowered (form_one (raised v d) (at X d) (at X d) (plain_bound (at X d) (plain.each d).plain))) in
            grows_covered (at X d) (at (derivative us v X) (raised v d))
            (subst (λ p. IsCovered p (at (derivative us v X) (raised v d))) (at_itself (raised v d) (at X d)) (((form_trans _ _ _ r first_part).each (raised v d)).covered))
        by false e =
            let r : IsFormBound (form_term d (partial v (at X d))) (derivative_term us v d (at X d)) =
            subst (λ t. IsFormBound (form_term d (partial v (at X d))) (form_term d (partial v (at X d)) +ᶠ cond t (form_term (raised v d) (at X d)) no_form)) (sym e)
            (form_first (form_term d (partial v (at X d))) no_form lowered form_none) in
            grows_trans (at X d) (partial v (at X d)) (at (derivative us v X) d) (grows_partial v (at X d) (plain.each d).plain (has_first v vs d.unknown e (at X d) (h.each d)))
            (grows_covered (partial v (at X d)) (at (derivative us v X) d)
            (subst (λ p. IsCovered p (at (derivative us v X) d)) (at_itself d (partial v (at X d))) (((form_trans _ _ _ r first_part).each d).covered)))

  pub grows_steps : (vs : List ℕ) (X : LinearForm) (d : Derivative) → IsPlain X → FormLasts us vs X → GrowsTo (at X d) (at (derivatives_by us vs X) (steps vs d))
  grows_steps [] X d plain h = record { wide = λ w. w; many = λ m. m; some = λ n. n }
  grows_steps (v ∷ vs) X d plain h =
      grows_trans (at X d) (at (derivative us v X) (step v d)) (at (derivatives_by us vs (derivative us v X)) (steps vs (step v d))) (grows_step v vs X d plain h)
      (grows_steps vs (derivative us v X) (step v d) (derivative_plain us v X plain) (form_lasts_derivative v vs X h))

  -- the order does not fall
  order_raise : (v : ℕ) (J : List ℕ) → order (raise v J) ≡ suc (order J)
  order_raise zero [] = refl
  order_raise (suc v) [] = ap (λ n. 0 + n) (order_raise v []) ∙ nothing
    where
      nothing : 0 + suc (order []) ≡ suc (order [])
      nothing = omega arith
  order_raise zero (c ∷ J) = omega arith
  order_raise (suc v) (c ∷ J) = ap (λ n. c + n) (order_raise v J) ∙ add-suc c (order J)

  pub order_steps : (vs : List ℕ) (d : Derivative) → order d.counts ≤ order (steps vs d).counts
  order_steps [] d = omega arith
  order_steps (v ∷ vs) d = by (depends us d.unknown v) (order_steps vs)
    where
      by : (t : Bool) → ((e : Derivative) → order e.counts ≤ order (steps vs e).counts) → order d.counts ≤ order (steps vs (cond t (raised v d) d)).counts
      by true rest = let k = rest (raised v d) in let o = order_raise v d.counts in omega arith
      by false rest = rest d

  -- no exponent is high
  pub lasting_low : (vs : List ℕ) (f : ℕ) (p : WholePolynomial) → Lasts vs f p → ¬ (HasHighExponent p)
  lasting_low vs f p h x = let l : exponent x.0 x.2.0 ≤ 65535 = (lasting_of vs f p h x.0 x.1).low x.2.0 in let g : 65535 < exponent x.0 x.2.0 = x.2.1 in omega arith
