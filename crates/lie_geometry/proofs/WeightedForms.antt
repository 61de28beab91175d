-- Weighted norms of linear forms: each number counts as often as is told by the order of its derivative and the degree of its monomial.
use Rattle.std.specs.Prelude.{◌≡◌, ℕ, zero, suc, ◌+◌, ◌*◌, ◌≤◌, negsuc, unsigned_abs}
use Rattle.std.proofs.Common.{◌∙◌, arith}
use Rattle.lie_math.specs.Counts.{Derivative, order}
use Rattle.lie_math.specs.Derivation.{numbers_below}
use Rattle.lie_math.specs.FiniteSum as finite
use Rattle.lie_math.specs.Limits.{absolute}
use Rattle.lie_math.specs.LinearForm.{forms, LinearForm, no_form, ◌+ᶠ◌, form_term, form_over, each_coefficient, times_form}
use Rattle.lie_math.specs.Monomial.{Monomial, degree}
use Rattle.lie_math.specs.Polynomial.{WholePolynomial, coefficient, ◌+ᴾ◌, ◌*ᴾ◌, constant, variable}
use Rattle.lie_geometry.specs.SymbolicProlongation.{forms_over}
use Rattle.lie_geometry.proofs.WeightedNorms.{le_trans, le_same, total, total_le, total-plus, total-term, total-none, total-over, value_at_most, weighted, weighted-plus, weighted-none, weighted_at_most, weighted-variable_times, weighted_negative, weighted_absolute}

abbrev pub weighted_entry : (ℕ → ℕ → ℕ) → Derivative → WholePolynomial → ℕ
weighted_entry w d a = weighted (w (order d.counts)) a

abbrev pub weighted_form : (ℕ → ℕ → ℕ) → LinearForm → ℕ
weighted_form w E = total (weighted_entry w) E.list

module _ (w : ℕ → ℕ → ℕ) where
  entry_sub : (d : Derivative) (a b : WholePolynomial) → weighted_entry w d (a +ᴾ b) ≤ weighted_entry w d a + weighted_entry w d b
  entry_sub d a b = weighted-plus (w (order d.counts)) a b

  pub form-plus : (E G : LinearForm) → weighted_form w (E +ᶠ G) ≤ weighted_form w E + weighted_form w G
  form-plus E G = total-plus forms (weighted_entry w) entry_sub E G

  pub form-term : (d : Derivative) (a : WholePolynomial) → weighted_form w (form_term d a) ≤ weighted (w (order d.counts)) a
  form-term d a = total-term forms (weighted_entry w) entry_sub d a

  pub form-none : weighted_form w no_form ≡ 0
  form-none = total-none forms (weighted_entry w) entry_sub

  -- a map of the entries that takes each to no more
  pub form-map : (x : ℕ → ℕ → ℕ) (φ : Derivative → WholePolynomial → LinearForm) → ((d : Derivative) (a : WholePolynomial) → weighted_form w (φ d a) ≤ weighted_entry x d a) → (E : LinearForm) → weighted_form w (form_over φ E) ≤ weighted_form x E
  form-map x φ h E = le_trans _ _ _ (total-over forms (weighted_entry w) entry_sub φ E.list) (total_le _ _ h E.list)

  pub form-each : (x : ℕ → ℕ → ℕ) (L : WholePolynomial → WholePolynomial) → ((o : ℕ) (a : WholePolynomial) → weighted (w o) (L a) ≤ weighted (x o) a) → (E : LinearForm) → weighted_form w (each_coefficient L E) ≤ weighted_form x E
  form-each x L h E = form-map x (λ d a. form_term d (L a)) (λ d a. le_trans _ _ _ (form-term d (L a)) (h (order d.counts) a)) E

  pub form-absolute : (E : LinearForm) → weighted_form w (each_coefficient absolute E) ≤ weighted_form w E
  form-absolute E = form-each w absolute (λ o a. weighted_absolute (w o) a) E

  pub form-negative : (E : LinearForm) → weighted_form w (times_form (constant (negsuc 0)) E) ≤ weighted_form w E
  form-negative E = form-each w (λ a. constant (negsuc 0) *ᴾ a) (λ o a. weighted_negative (w o) a) E

  pub form-variable_times : (v : ℕ) (E : LinearForm) → weighted_form w (times_form (variable v) E) ≤ weighted_form (λ o n. w o (suc n)) E
  form-variable_times v E = form-each (λ o n. w o (suc n)) (λ a. variable v *ᴾ a) (λ o a. weighted-variable_times (w o) v a) E

  pub forms-over : (c : ℕ) (f : ℕ → LinearForm) (n : ℕ) → ((i : ℕ) → weighted_form w (f i) ≤ c) → weighted_form w (forms_over (numbers_below n) f) ≤ n * c
  forms-over c f zero h = le_same _ _ (form-none ∙ none c)
    where
      none : (c : ℕ) → 0 ≡ 0 * c
      none c = omega arith
  forms-over c f (suc n) h = le_trans _ _ _ (form-plus (f n) (forms_over (numbers_below n) f)) (next _ _ c n (h n) (forms-over c f n h))
    where
      next : (a b c n : ℕ) → a ≤ c → b ≤ n * c → a + b ≤ suc n * c
      next a b c n h k = omega arith

  pub form_at_most : (E : LinearForm) (d : Derivative) → weighted (w (order d.counts)) (finite.value forms E d) ≤ weighted_form w E
  form_at_most E d = value_at_most forms (weighted_entry w) entry_sub (λ d. weighted-none (w (order d.counts))) d E

  pub number_at_most : (E : LinearForm) (d : Derivative) (m : Monomial) → unsigned_abs (coefficient (finite.value forms E d) m) * w (order d.counts) (degree m) ≤ weighted_form w E
  number_at_most E d m = le_trans _ _ _ (weighted_at_most (w (order d.counts)) (finite.value forms E d) m) (form_at_most E d)
