-- Derivatives of forms, one after the other.
use Rattle.std.specs.Prelude.{◌≡◌, ℕ, zero, suc, Bool, true, false, cond, eqb, List, [], ◌∷◌, ◌++◌, replicate}
use Rattle.std.proofs.Common.{refl, sym, ap, ap₂, ◌∙◌, eqb-true, true≢false}
use Rattle.std.specs.Fn.{iterate}
use Rattle.lie_math.specs.Canonical.{Additive, middle}
use Rattle.lie_math.specs.Counts.{Derivative, raised}
use Rattle.lie_math.specs.FiniteSumLaws as finite_laws
use Rattle.lie_math.specs.FiniteSumLaws.{sum-none, sum-plus, sum-term, term_additive, plus_idl}
use Rattle.lie_math.specs.LinearForm.{forms, LinearForm, no_form, ◌+ᶠ◌, form_term}
use Rattle.lie_math.specs.LinearSystem.{Unknown}
use Rattle.lie_math.specs.PartialDerivative.{partial}
use Rattle.lie_math.specs.Polynomial.{WholePolynomial, polynomials, 0ᴾ, ◌+ᴾ◌}
use Rattle.lie_math.proofs.PartialDerivative.{partial-+ᴾ, partial-0ᴾ, partial_commutes}
use Rattle.lie_steps.specs.Derivatives.{derivative, derivatives, derivatives_from}
use Rattle.lie_steps.specs.Equations.{depends}
use Rattle.lie_replace.specs.Replacing.{variables_from, variables_of, derivatives_by, occurrences}
use Rattle.lie_normal.specs.TermSums.{raised_term, derivative_term}

module _ (us : List Unknown) where
  -- ---- one derivative
  raised-plus : (v : ℕ) (d : Derivative) (a b : WholePolynomial) → raised_term us v d (a +ᴾ b) ≡ raised_term us v d a +ᶠ raised_term us v d b
  raised-plus v d a b = go (depends us d.unknown v)
    where
      go : (t : Bool) → cond t (form_term (raised v d) (a +ᴾ b)) no_form ≡ cond t (form_term (raised v d) a) no_form +ᶠ cond t (form_term (raised v d) b) no_form
      go true = (term_additive forms).on_plus (raised v d) a b
      go false = sym (plus_idl forms no_form)

  raised-none : (v : ℕ) (d : Derivative) → raised_term us v d 0ᴾ ≡ no_form
  raised-none v d = go (depends us d.unknown v)
    where
      go : (t : Bool) → cond t (form_term (raised v d) 0ᴾ) no_form ≡ no_form
      go true = (term_additive forms).on_nil (raised v d)
      go false = refl

  pub derivative_term_additive : (v : ℕ) → Additive polynomials (finite_laws.adder forms) (derivative_term us v)
  derivative_term_additive v = record {
    on_nil = λ d. ap₂ ◌+ᶠ◌ (ap (form_term d) (partial-0ᴾ v) ∙ (term_additive forms).on_nil d) (raised-none v d) ∙ plus_idl forms no_form;
    on_plus = λ d a b. ap₂ ◌+ᶠ◌ (ap (form_term d) (partial-+ᴾ v a b) ∙ (term_additive forms).on_plus d (partial v a) (partial v b)) (raised-plus v d a b)
        ∙ middle (finite_laws.adder forms) (form_term d (partial v a)) (form_term d (partial v b)) (raised_term us v d a) (raised_term us v d b);
  }

  pub derivative-plus : (v : ℕ) (E G : LinearForm) → derivative us v (E +ᶠ G) ≡ derivative us v E +ᶠ derivative us v G
  unfolding derivative
  derivative-plus v E G = sum-plus forms (finite_laws.adder forms) (derivative_term us v) (derivative_term_additive v) E G

  pub derivative-none : (v : ℕ) → derivative us v no_form ≡ no_form
  unfolding derivative
  derivative-none v = sum-none forms (finite_laws.adder forms) (derivative_term us v) (derivative_term_additive v)

  pub derivative-term : (v : ℕ) (d : Derivative) (a : WholePolynomial) → derivative us v (form_term d a) ≡ derivative_term us v d a
  unfolding derivative
  derivative-term v d a = sum-term forms (finite_laws.adder forms) (derivative_term us v) (derivative_term_additive v) d a

  -- ---- several
  pub derivatives_by-plus : (vs : List ℕ) (E G : LinearForm) → derivatives_by us vs (E +ᶠ G) ≡ derivatives_by us vs E +ᶠ derivatives_by us vs G
  derivatives_by-plus [] E G = refl
  derivatives_by-plus (v ∷ vs) E G = ap (derivatives_by us vs) (derivative-plus v E G) ∙ derivatives_by-plus vs (derivative us v E) (derivative us v G)

  pub derivatives_by-none : (vs : List ℕ) → derivatives_by us vs no_form ≡ no_form
  derivatives_by-none [] = refl
  derivatives_by-none (v ∷ vs) = ap (derivatives_by us vs) (derivative-none v) ∙ derivatives_by-none vs

  pub derivatives_by-append : (vs ws : List ℕ) (E : LinearForm) → derivatives_by us (vs ++ ws) E ≡ derivatives_by us ws (derivatives_by us vs E)
  derivatives_by-append [] ws E = refl
  derivatives_by-append (v ∷ vs) ws E = derivatives_by-append vs ws (derivative us v E)

  by_replicate : (v c : ℕ) (E : LinearForm) → derivatives_by us (replicate c v) E ≡ iterate (derivative us v) c E
  by_replicate v zero E = refl
  by_replicate v (suc c) E = by_replicate v c (derivative us v E)

  derivatives_from-by : (v : ℕ) (K : List ℕ) (E : LinearForm) → derivatives_from us v K E ≡ derivatives_by us (variables_from v K) E
  derivatives_from-by v [] E = refl
  derivatives_from-by v (c ∷ K) E =
      derivatives_from-by (suc v) K (iterate (derivative us v) c E)
      ∙ sym (derivatives_by-append (replicate c v) (variables_from (suc v) K) E ∙ ap (derivatives_by us (variables_from (suc v) K)) (by_replicate v c E))

  pub derivatives-by : (K : List ℕ) (E : LinearForm) → derivatives us K E ≡ derivatives_by us (variables_of K) E
  derivatives-by K E = derivatives_from-by 0 K E

  -- ---- a coefficient that dies by a variable on which its unknown does not depend
  iterate_zero : (w n : ℕ) → iterate (partial w) n 0ᴾ ≡ 0ᴾ
  iterate_zero w zero = refl
  iterate_zero w (suc n) = ap (iterate (partial w) n) (partial-0ᴾ w) ∙ iterate_zero w n

  iterate_commutes : (w v n : ℕ) (a : WholePolynomial) → iterate (partial w) n (partial v a) ≡ partial v (iterate (partial w) n a)
  iterate_commutes w v zero a = refl
  iterate_commutes w v (suc n) a = ap (iterate (partial w) n) (partial_commutes w v a) ∙ iterate_commutes w v n (partial w a)

  pub dies : (w : ℕ) (vs : List ℕ) (d : Derivative) (a : WholePolynomial) → depends us d.unknown w ≡ false → iterate (partial w) (occurrences w vs) a ≡ 0ᴾ → derivatives_by us vs (form_term d a) ≡ no_form
  dies w [] d a f z = ap (form_term d) z ∙ (term_additive forms).on_nil d
  dies w (v ∷ vs) d a f z =
      ap (derivatives_by us vs) (derivative-term v d a) ∙ derivatives_by-plus vs (form_term d (partial v a)) (raised_term us v d a)
      ∙ ap₂ ◌+ᶠ◌ (first (λ b. dies w vs d b f) (eqb v w) refl z) (second (λ e. dies w vs e a) (depends us d.unknown v) refl) ∙ plus_idl forms no_form
    where
      first : ((b : WholePolynomial) → iterate (partial w) (occurrences w vs) b ≡ 0ᴾ → derivatives_by us vs (form_term d b) ≡ no_form) → (t : Bool) → eqb v w ≡ t
          → iterate (partial w) (cond t (suc (occurrences w vs)) (occurrences w vs)) a ≡ 0ᴾ → derivatives_by us vs (form_term d (partial v a)) ≡ no_form
      first rest true e z = rest (partial v a) (ap (λ u. iterate (partial w) (occurrences w vs) (partial u a)) (eqb-true v w e) ∙ z)
      first rest false e z = rest (partial v a) (iterate_commutes w v (occurrences w vs) a ∙ ap (partial v) z ∙ partial-0ᴾ v)

      -- where the unknown depends on v, v is another variable
      second : ((e : Derivative) → depends us e.unknown w ≡ false → iterate (partial w) (occurrences w vs) a ≡ 0ᴾ → derivatives_by us vs (form_term e a) ≡ no_form) → (t : Bool) → depends us d.unknown v ≡ t
          → derivatives_by us vs (cond t (form_term (raised v d) a) no_form) ≡ no_form
      second rest false e = derivatives_by-none vs
      second rest true e = apart (eqb v w) refl z
        where
          apart : (t : Bool) → eqb v w ≡ t → iterate (partial w) (cond t (suc (occurrences w vs)) (occurrences w vs)) a ≡ 0ᴾ → derivatives_by us vs (form_term (raised v d) a) ≡ no_form
          apart true q z = absurd (true≢false (sym e ∙ ap (depends us d.unknown) (eqb-true v w q) ∙ f))
          apart false q z = rest (raised v d) f z
