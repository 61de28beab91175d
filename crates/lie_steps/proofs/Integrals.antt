-- The k-fold integral of a form by a variable of which no function depends, over a number: its k-th derivative.
use Rattle.std.specs.Prelude.{◌≡◌, ℕ, zero, suc, ◌+◌, ◌*◌, cond, List, [], ◌∷◌, map, ℤ, pos, negsuc, ◌+ℤ◌, ◌*ℤ◌, neg_ℤ, unsigned_abs, int_div}
use Rattle.std.proofs.Common.{refl, sym, ap, ap₂, subst, ◌∙◌, arith}
use lib.IntN.{*ℤ_comm}
use Rattle.std.specs.Fn.{iterate}
use Rattle.std.specs.Int.{◌∣◌}
use Rattle.std.specs.List.{AllByRecursion as Every}
use Rattle.lie_math.specs.FiniteSumLaws.{plus_idl, plus_comm, term_additive}
use Rattle.lie_math.specs.Integer.{*ℤ_assoc, *ℤ-idl}
use Rattle.lie_math.specs.Counts.{derived}
use Rattle.lie_math.specs.LinearForm.{apply}
use Rattle.lie_math.specs.Monomial.{Monomial, ◌·◌, exponent, power_of, powers, unit}
use Rattle.lie_math.specs.MonomialOrder.{·_idl}
use Rattle.lie_math.specs.PartialDerivative.{partial}
use Rattle.lie_math.specs.Polynomial.{WholePolynomial, terms, term, constant, 0ᴾ, ◌+ᴾ◌, ◌*ᴾ◌}
use Rattle.lie_math.specs.PolynomialRing.{polynomial_ring, *ᴾ_assoc, +ᴾ-*ᴾ, term_times_term}
use Rattle.lie_math.proofs.LinearForm.{apply_plus, apply_term, apply_none}
use Rattle.lie_math.proofs.Monomial.{exponent_powered, exponent-power_of, same_variable}
use Rattle.lie_math.proofs.PartialDerivative.{partial-*ᴾ, partial-term, lower-·}
use Rattle.lie_math.proofs.Ring.{times_nil, nil_times}
use Rattle.lie_systems.specs.Triples.{Triple, form_of_triple, sum_of_triples}
use Rattle.lie_math.proofs.ExactQuotients.{quotient_back}
use Rattle.lie_steps.specs.Integrate.{rising, divisor, Clears, integrated_triple}
use Rattle.lie_steps.proofs.Derived.{free_partials}
use Rattle.lie_steps.proofs.LowParts.{iterate-plus}
use Rattle.lie_steps.proofs.FreshPowers.{iterate-0ᴾ, lower_power}
use Rattle.lie_steps.proofs.RingIdentities.{cleared, together}

-- a factor without v stays
iterate-out : (v k : ℕ) (p q : WholePolynomial) → partial v q ≡ 0ᴾ → iterate (partial v) k (p *ᴾ q) ≡ iterate (partial v) k p *ᴾ q
iterate-out v zero p q h = refl
iterate-out v (suc k) p q h =
    ap (iterate (partial v) k) (partial-*ᴾ v p q ∙ ap (λ x. partial v p *ᴾ q +ᴾ p *ᴾ x) h ∙ ap (λ x. partial v p *ᴾ q +ᴾ x) (times_nil polynomial_ring p) ∙ plus_comm terms _ 0ᴾ ∙ plus_idl terms _) ∙ iterate-out v k (partial v p) q h

-- the k-th derivative of a term with k more of v
iterate-term : (v k : ℕ) (m : Monomial) (b : ℤ) → iterate (partial v) k (term (power_of v k · m) b) ≡ term m (b *ℤ pos (rising (exponent m v) k))
iterate-term v zero m b = ap₂ term (ap (λ x. x · m) ((term_additive powers).on_nil v) ∙ ·_idl m) (sym (*ℤ_comm b (pos 1) ∙ *ℤ-idl b))
iterate-term v (suc k) m b =
    ap (iterate (partial v) k) (partial-term v (power_of v (suc k) · m) b ∙ ap₂ (λ x e. term x (b *ℤ pos e)) (lower-· v k (power_of v (suc k)) m (exponent-power_of v (suc k) v ∙ ap (λ t. cond t (suc k) 0) (same_variable v)) ∙ ap (λ x. x · m) (lower_power v k)) (exponent_powered v (suc k) m))
    ∙ iterate-term v k m (b *ℤ pos (suc k + exponent m v))
    ∙ ap (term m) (*ℤ_assoc b (pos (suc k + exponent m v)) (pos (rising (exponent m v) k)) ∙ ap (λ x. b *ℤ pos x) (turned (suc k) (exponent m v) (rising (exponent m v) k)))
  where
    turned : (a e r : ℕ) → (a + e) * r ≡ r * (e + a)
    turned a e r = grind arith

size_negative : (z : ℤ) → unsigned_abs (neg_ℤ z) ≡ unsigned_abs z
size_negative (pos zero) = refl
size_negative (pos (suc n)) = refl
size_negative (negsuc n) = refl

module _ (F : ℕ → WholePolynomial) (c : ℤ) (v k L : ℕ) where
  number : (t : Triple) → unsigned_abs (divisor c v k t) ∣ unsigned_abs (pos L *ℤ t.2) → c *ℤ (int_div (neg_ℤ (pos L *ℤ t.2)) (divisor c v k t) *ℤ pos (rising (exponent t.1 v) k)) +ℤ pos L *ℤ t.2 ≡ pos 0
  number t h = cleared c (pos (rising (exponent t.1 v) k)) (int_div (neg_ℤ (pos L *ℤ t.2)) (divisor c v k t)) (pos L *ℤ t.2)
      (quotient_back (neg_ℤ (pos L *ℤ t.2)) (divisor c v k t) (int_div (neg_ℤ (pos L *ℤ t.2)) (divisor c v k t)) (subst (λ x. unsigned_abs (divisor c v k t) ∣ x) (sym (size_negative (pos L *ℤ t.2))) h) refl)

  one_term : (m : Monomial) (a b : ℤ) → c *ℤ (b *ℤ pos (rising (exponent m v) k)) +ℤ pos L *ℤ a ≡ pos 0 → constant c *ᴾ iterate (partial v) k (term (power_of v k · m) b) +ᴾ constant (pos L) *ᴾ term m a ≡ 0ᴾ
  one_term m a b z =
      ap₂ (λ x y. constant c *ᴾ x +ᴾ y) (iterate-term v k m b) (term_times_term unit m (pos L) a ∙ ap (λ x. term x (pos L *ℤ a)) (·_idl m))
      ∙ ap (λ x. x +ᴾ term m (pos L *ℤ a)) (term_times_term unit m c (b *ℤ pos (rising (exponent m v) k)) ∙ ap (λ x. term x (c *ℤ (b *ℤ pos (rising (exponent m v) k)))) (·_idl m))
      ∙ sym ((term_additive terms).on_plus m (c *ℤ (b *ℤ pos (rising (exponent m v) k))) (pos L *ℤ a)) ∙ ap (term m) z ∙ (term_additive terms).on_nil m

  one : (t : Triple) → unsigned_abs (divisor c v k t) ∣ unsigned_abs (pos L *ℤ t.2) → partial v (F (t.0).unknown) ≡ 0ᴾ → constant c *ᴾ iterate (partial v) k (apply F (form_of_triple (integrated_triple c v k L t))) +ᴾ constant (pos L) *ᴾ apply F (form_of_triple t) ≡ 0ᴾ
  one t h z =
      ap₂ (λ x y. constant c *ᴾ iterate (partial v) k x +ᴾ constant (pos L) *ᴾ y) (apply_term F t.0 (term (power_of v k · t.1) (int_div (neg_ℤ (pos L *ℤ t.2)) (divisor c v k t)))) (apply_term F t.0 (term t.1 t.2))
      ∙ ap (λ x. constant c *ᴾ x +ᴾ constant (pos L) *ᴾ (term t.1 t.2 *ᴾ derived F t.0)) (iterate-out v k (term (power_of v k · t.1) (int_div (neg_ℤ (pos L *ℤ t.2)) (divisor c v k t))) (derived F t.0) (free_partials v (t.0).counts (F (t.0).unknown) z))
      ∙ ap₂ ◌+ᴾ◌ (sym (*ᴾ_assoc _ _ _)) (sym (*ᴾ_assoc _ _ _)) ∙ sym (+ᴾ-*ᴾ _ _ _) ∙ ap (λ x. x *ᴾ derived F t.0) (one_term t.1 t.2 (int_div (neg_ℤ (pos L *ℤ t.2)) (divisor c v k t)) (number t h)) ∙ nil_times polynomial_ring _

  -- c times the k-th derivative of the integral, and L times the form, add up to nothing
  pub integral_is : (ts : List Triple) → Clears c v k ts L → Every (λ (t : Triple). partial v (F (t.0).unknown) ≡ 0ᴾ) ts → constant c *ᴾ iterate (partial v) k (apply F (sum_of_triples (map (integrated_triple c v k L) ts))) +ᴾ constant (pos L) *ᴾ apply F (sum_of_triples ts) ≡ 0ᴾ
  integral_is [] h z =
      ap₂ (λ x y. constant c *ᴾ iterate (partial v) k x +ᴾ constant (pos L) *ᴾ y) (apply_none F) (apply_none F)
      ∙ ap₂ ◌+ᴾ◌ (ap (λ x. constant c *ᴾ x) (iterate-0ᴾ v k) ∙ times_nil polynomial_ring (constant c)) (times_nil polynomial_ring (constant (pos L))) ∙ plus_idl terms 0ᴾ
  integral_is (t ∷ ts) h z =
      ap₂ (λ x y. constant c *ᴾ x +ᴾ constant (pos L) *ᴾ y)
      (ap (iterate (partial v) k) (apply_plus F (form_of_triple (integrated_triple c v k L t)) (sum_of_triples (map (integrated_triple c v k L) ts))) ∙ iterate-plus v k _ _)
      (apply_plus F (form_of_triple t) (sum_of_triples ts))
      ∙ together (constant c) _ _ (constant (pos L)) _ _ (one t h.0 z.0) (integral_is ts h.1 z.1)
