-- Derivations: each is told by what it makes of the variables; commutators, sums and multiples of derivations are derivations.
use Rattle.std.specs.Prelude.{◌≡◌, ℕ, [], ◌∷◌, pos}
use Rattle.std.proofs.Common.{refl, sym, ap, ap₂, ◌∙◌}
use Rattle.lie_math.specs.Polynomial.{0ᴾ, WholePolynomial, negᴾ, terms, variable, ◌*ᴾ◌, ◌+ᴾ◌}
use Rattle.lie_math.proofs.RingSolver.{listed, solve, v, ⊖, ◌⊕◌, ◌⊗◌}
use Rattle.lie_math.specs.Derivation.{IsDerivation, bracket}
use Rattle.lie_math.proofs.Evaluation.{generated, value_in-constant, value_in-plus, value_in-times, value_in-variable}
use Rattle.lie_math.specs.FiniteSumLaws.{plus_comm, plus_idl, term_additive}
use Rattle.lie_math.proofs.DualNumbers.{zero_part}
use Rattle.lie_math.specs.Monomial.{unit}
use Rattle.lie_math.specs.PolynomialRing.{polynomial_ring, polynomial_algebra}
use Rattle.lie_math.proofs.Differences.{difference_zero}
use Rattle.lie_math.specs.Evaluation.{value_in}

-- derivations that agree on the variables agree
pub derivations_agree : {D E : WholePolynomial → WholePolynomial} → IsDerivation D → IsDerivation E → ((w : ℕ) → D (variable w) ≡ E (variable w)) → (p : WholePolynomial) → D p ≡ E p
derivations_agree {D} {E} d e is = generated (λ p. D p ≡ E p) (λ c. d.whole c ∙ sym (e.whole c)) is
    (λ p q h k. d.plus p q ∙ ap₂ ◌+ᴾ◌ h k ∙ sym (e.plus p q))
    (λ p q h k. d.times p q ∙ ap₂ (λ x y. p *ᴾ x +ᴾ y *ᴾ q) k h ∙ sym (e.times p q))

pub bracket_is_derivation : {D E : WholePolynomial → WholePolynomial} → IsDerivation D → IsDerivation E → IsDerivation (bracket D E)
bracket_is_derivation {D} {E} d e = record {
  plus = λ p q. ap₂ (λ x y. x +ᴾ negᴾ y) (ap D (e.plus p q) ∙ d.plus (E p) (E q)) (ap E (d.plus p q) ∙ e.plus (D p) (D q)) ∙ sums (D (E p)) (D (E q)) (E (D p)) (E (D q));
  times = λ p q. ap₂ (λ x y. x +ᴾ negᴾ y) (twice d e p q) (twice e d p q) ∙ products p q (D p) (D q) (E p) (E q) (D (E p)) (D (E q)) (E (D p)) (E (D q));
  whole = λ c. ap₂ (λ x y. x +ᴾ negᴾ y) (ap D (e.whole c) ∙ none d) (ap E (d.whole c) ∙ none e) ∙ plus_comm terms 0ᴾ (negᴾ 0ᴾ) ∙ polynomial_ring.neg_l 0ᴾ;
}
  where
    none : {F : WholePolynomial → WholePolynomial} → IsDerivation F → F 0ᴾ ≡ 0ᴾ
    none {F} f = ap F (sym ((term_additive terms).on_nil unit)) ∙ f.whole (pos 0)

    twice : {F G : WholePolynomial → WholePolynomial} → IsDerivation F → IsDerivation G → (p q : WholePolynomial) → F (G (p *ᴾ q)) ≡ (p *ᴾ F (G q) +ᴾ F p *ᴾ G q) +ᴾ (G p *ᴾ F q +ᴾ F (G p) *ᴾ q)
    twice {F} {G} f g p q = ap F (g.times p q) ∙ f.plus (p *ᴾ G q) (G p *ᴾ q) ∙ ap₂ ◌+ᴾ◌ (f.times p (G q)) (f.times (G p) q)

    sums : (a b c d : WholePolynomial) → (a +ᴾ b) +ᴾ negᴾ (c +ᴾ d) ≡ (a +ᴾ negᴾ c) +ᴾ (b +ᴾ negᴾ d)
    sums a b c d = solve polynomial_ring (listed a (a ∷ b ∷ c ∷ d ∷ [])) ((v 0 ⊕ v 1) ⊕ ⊖ (v 2 ⊕ v 3)) ((v 0 ⊕ ⊖ (v 2)) ⊕ (v 1 ⊕ ⊖ (v 3))) refl

    products : (p q dp dq ep eq dep deq edp edq : WholePolynomial) → ((p *ᴾ deq +ᴾ dp *ᴾ eq) +ᴾ (ep *ᴾ dq +ᴾ dep *ᴾ q)) +ᴾ negᴾ ((p *ᴾ edq +ᴾ ep *ᴾ dq) +ᴾ (dp *ᴾ eq +ᴾ edp *ᴾ q)) ≡ p *ᴾ (deq +ᴾ negᴾ edq) +ᴾ (dep +ᴾ negᴾ edp) *ᴾ q
    products p q dp dq ep eq dep deq edp edq =
        solve polynomial_ring (listed p (p ∷ q ∷ dp ∷ dq ∷ ep ∷ eq ∷ dep ∷ deq ∷ edp ∷ edq ∷ []))
        (((v 0 ⊗ v 7) ⊕ (v 2 ⊗ v 5)) ⊕ ((v 4 ⊗ v 3) ⊕ (v 6 ⊗ v 1)) ⊕ ⊖ (((v 0 ⊗ v 9) ⊕ (v 4 ⊗ v 3)) ⊕ ((v 2 ⊗ v 5) ⊕ (v 8 ⊗ v 1))))
        ((v 0 ⊗ (v 7 ⊕ ⊖ (v 9))) ⊕ ((v 6 ⊕ ⊖ (v 8)) ⊗ v 1)) refl

-- two derivations that commute on the variables commute
pub derivations_commute : {D E : WholePolynomial → WholePolynomial} → IsDerivation D → IsDerivation E → ((w : ℕ) → D (E (variable w)) ≡ E (D (variable w))) → (p : WholePolynomial) → D (E p) ≡ E (D p)
derivations_commute {D} {E} d e is p = difference_zero (D (E p)) (E (D p)) (derivations_agree (bracket_is_derivation d e) zero_is_derivation (λ w. ap (λ x. x +ᴾ negᴾ (E (D (variable w)))) (is w) ∙ plus_comm terms _ _ ∙ polynomial_ring.neg_l _) p)
  where
    zero_is_derivation : IsDerivation (λ p. 0ᴾ)
    zero_is_derivation = record { plus = λ p q. sym (plus_idl terms 0ᴾ); times = zero_part; whole = λ c. refl }

-- derivations that agree on what is put in
pub derived_inside : {D E : WholePolynomial → WholePolynomial} → IsDerivation D → IsDerivation E → (s : ℕ → WholePolynomial) → ((w : ℕ) → D (s w) ≡ E (s w)) → (p : WholePolynomial) → D (value_in polynomial_algebra s p) ≡ E (value_in polynomial_algebra s p)
derived_inside {D} {E} d e s is = generated (λ p. D (value_in polynomial_algebra s p) ≡ E (value_in polynomial_algebra s p))
    (λ c. ap D (value_in-constant polynomial_algebra s c) ∙ d.whole c ∙ sym (ap E (value_in-constant polynomial_algebra s c) ∙ e.whole c))
    (λ w. ap D (value_in-variable polynomial_algebra s w) ∙ is w ∙ sym (ap E (value_in-variable polynomial_algebra s w)))
    (λ p q h k. ap D (value_in-plus polynomial_algebra s p q) ∙ d.plus _ _ ∙ ap₂ ◌+ᴾ◌ h k ∙ sym (ap E (value_in-plus polynomial_algebra s p q) ∙ e.plus _ _))
    (λ p q h k. ap D (value_in-times polynomial_algebra s p q) ∙ d.times _ _ ∙ ap₂ (λ x y. value_in polynomial_algebra s p *ᴾ x +ᴾ y *ᴾ value_in polynomial_algebra s q) k h ∙ sym (ap E (value_in-times polynomial_algebra s p q) ∙ e.times _ _))

pub derived-0ᴾ : {D : WholePolynomial → WholePolynomial} → IsDerivation D → D 0ᴾ ≡ 0ᴾ
derived-0ᴾ {D} d = ap D (sym ((term_additive terms).on_nil unit)) ∙ d.whole (pos 0)
