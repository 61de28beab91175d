-- Replacing leading variables: c v times the variable v stands for `right v`. A polynomial reduces to 0 exactly if a multiple of it lies in the ideal.
use Rattle.std.specs.Prelude.{◌≡◌, ℕ, zero, suc, List, [], ◌∷◌, ◌++◌, ℤ, pos, negsuc, ◌*ℤ◌}
use Rattle.std.proofs.Common.{refl, sym, ap, ap₂, ◌∙◌, arith}
use lib.IntN.{*ℤ_comm}
use Rattle.lie_math.proofs.Differences.{difference_zero, less_nothing, sum_of_differences, difference_of_products, sum_of_multiples}
use Rattle.lie_math.specs.Canonical.{middle}
use Rattle.lie_math.specs.Evaluation.{factors, to_power, monomial_value, value_in}
use Rattle.lie_math.specs.FiniteSumLaws.{sum-none, sum-term, sum-plus, plus_idl, plus_assoc, plus_comm}
use Rattle.lie_math.specs.Integer.{*ℤ-idl, integer_algebra}
use Rattle.lie_math.specs.Monomial.{powers, Monomial, unit, ◌·◌, single}
use Rattle.lie_math.specs.MonomialOrder.{·_idl}
use Rattle.lie_math.specs.Polynomial.{term, terms, WholePolynomial, 0ᴾ, ◌+ᴾ◌, ◌*ᴾ◌, constant, variable, negᴾ}
use Rattle.lie_math.specs.PolynomialRing.{*ᴾ-dist, *ᴾ_assoc, one-*ᴾ, polynomial_ring, term_times_term, constant-times, polynomial_algebra}
use Rattle.lie_math.specs.SortedSum.{sum_of_entries}
use Rattle.lie_math.proofs.Evaluation.{to_power_additive, value_in-plus, value_in-0ᴾ, value_in-constant, value_in-variable, value_in-times, generated}
use Rattle.lie_math.proofs.Integer.{no_zero_divisors_ℤ, product_not_zero}
use Rattle.lie_math.proofs.Ring.{times_nil}
use Rattle.lie_math.proofs.RingSolver.{v, ◌⊕◌, ◌⊗◌, solve, listed}
use Rattle.lie_math.proofs.Weighing.{weigh, weigh-plus, weigh_none, weigh-term, weigh_apart, weigh-times, torsion}

-- ---- the ideal of the differences
unfoldable pub combined : (ℕ → WholePolynomial) → List (WholePolynomial × ℕ) → WholePolynomial
combined g [] = 0ᴾ
combined g (e ∷ es) = e.0 *ᴾ g e.1 +ᴾ combined g es

-- p is a sum of multiples of the g v
pub record InIdeal (g : ℕ → WholePolynomial) (p : WholePolynomial) : Type 0 where
  pub parts : List (WholePolynomial × ℕ)
  pub is : combined g parts ≡ p

module _ (g : ℕ → WholePolynomial) where
  combined-append : (xs ys : List (WholePolynomial × ℕ)) → combined g (xs ++ ys) ≡ combined g xs +ᴾ combined g ys
  unfolding combined
  combined-append [] ys = sym (plus_idl terms _)
  combined-append (x ∷ xs) ys = ap (λ z. x.0 *ᴾ g x.1 +ᴾ z) (combined-append xs ys) ∙ sym (plus_assoc terms _ _ _)

  abbrev multiplied : WholePolynomial → List (WholePolynomial × ℕ) → List (WholePolynomial × ℕ)
  multiplied a [] = []
  multiplied a (x ∷ xs) = (a *ᴾ x.0, x.1) ∷ multiplied a xs

  combined-multiplied : (a : WholePolynomial) (xs : List (WholePolynomial × ℕ)) → combined g (multiplied a xs) ≡ a *ᴾ combined g xs
  unfolding combined
  combined-multiplied a [] = sym (times_nil polynomial_ring a)
  combined-multiplied a (x ∷ xs) = ap₂ ◌+ᴾ◌ (*ᴾ_assoc a x.0 (g x.1)) (combined-multiplied a xs) ∙ sym (*ᴾ-dist a _ _)

  pub in_sum : {p q : WholePolynomial} → InIdeal g p → InIdeal g q → InIdeal g (p +ᴾ q)
  in_sum h k = record { parts = h.parts ++ k.parts; is = combined-append h.parts k.parts ∙ ap₂ ◌+ᴾ◌ h.is k.is }

  pub in_multiple : {p : WholePolynomial} (a : WholePolynomial) → InIdeal g p → InIdeal g (a *ᴾ p)
  in_multiple a h = record { parts = multiplied a h.parts; is = combined-multiplied a h.parts ∙ ap (λ z. a *ᴾ z) h.is }

  pub ideal-0ᴾ : InIdeal g 0ᴾ
  unfolding combined
  ideal-0ᴾ = record { parts = []; is = refl }

  pub in_one : (w : ℕ) → InIdeal g (g w)
  unfolding combined
  in_one w = record { parts = (constant (pos 1), w) ∷ []; is = ap (λ z. z +ᴾ 0ᴾ) (one-*ᴾ (g w)) ∙ plus_comm terms _ _ ∙ plus_idl terms _ }

  pub in_same : {p q : WholePolynomial} → p ≡ q → InIdeal g p → InIdeal g q
  in_same e h = record { parts = h.parts; is = h.is ∙ e }

-- c: what a variable is multiplied by, 1 at all but the leads; right: what stands for it, the variable itself at all but the leads; whole: a common multiple
module _ (c : ℕ → ℤ) (right : ℕ → WholePolynomial) (whole : ℤ) (rest : ℕ → ℤ) (splits : (w : ℕ) → rest w *ℤ c w ≡ whole) where
  unfoldable pub weight : Monomial → ℤ
  weight = monomial_value integer_algebra c

  weight_times : (m n : Monomial) → weight (m · n) ≡ weight m *ℤ weight n
  unfolding weight
  weight_times m n = sum-plus powers (factors integer_algebra) _ (to_power_additive integer_algebra c) m n

  -- each variable times its number
  abbrev pub grown : WholePolynomial → WholePolynomial
  grown = weigh weight

  abbrev pub replaced : WholePolynomial → WholePolynomial
  replaced = value_in polynomial_algebra right

  abbrev pub step_difference : ℕ → WholePolynomial
  step_difference w = constant (c w) *ᴾ variable w +ᴾ negᴾ (right w)

  weight_power : (w : ℕ) → weight (single w) ≡ c w
  unfolding weight
  weight_power w = sum-term powers (factors integer_algebra) _ (to_power_additive integer_algebra c) w 1 ∙ *ℤ_comm (c w) (pos 1) ∙ *ℤ-idl (c w)

  weight_unit : weight unit ≡ pos 1
  unfolding weight
  weight_unit = sum-none powers (factors integer_algebra) _ (to_power_additive integer_algebra c)

  grown-variable : (w : ℕ) → grown (variable w) ≡ constant (c w) *ᴾ variable w
  grown-variable w =
      weigh-term weight (single w) (pos 1) ∙ ap (term (single w)) (ap (λ z. pos 1 *ℤ z) (weight_power w) ∙ *ℤ_comm (pos 1) (c w))
      ∙ sym (term_times_term unit (single w) (c w) (pos 1) ∙ ap (λ m. term m (c w *ℤ pos 1)) (·_idl (single w)))

  grown-constant : (z : ℤ) → grown (constant z) ≡ constant z
  grown-constant z = weigh-term weight unit z ∙ ap (term unit) (ap (λ y. z *ℤ y) weight_unit ∙ *ℤ_comm z (pos 1) ∙ *ℤ-idl z)

  -- the difference of the two is in the ideal
  pub difference_in : (q : WholePolynomial) → InIdeal step_difference (grown q +ᴾ negᴾ (replaced q))
  difference_in = generated (λ q. InIdeal step_difference (grown q +ᴾ negᴾ (replaced q)))
      (λ z. in_same step_difference (sym (polynomial_ring.neg_l (constant z)) ∙ plus_comm terms _ _ ∙ ap₂ (λ a b. a +ᴾ negᴾ b) (sym (grown-constant z)) (sym (value_in-constant polynomial_algebra right z))) (ideal-0ᴾ step_difference))
      (λ w. in_same step_difference (ap₂ (λ a b. a +ᴾ negᴾ b) (sym (grown-variable w)) (sym (value_in-variable polynomial_algebra right w))) (in_one step_difference w))
      (λ p q h k. in_same step_difference (sum_of_differences (grown p) (replaced p) (grown q) (replaced q) ∙ ap₂ (λ a b. a +ᴾ negᴾ b) (sym (weigh-plus weight p q)) (sym (value_in-plus polynomial_algebra right p q))) (in_sum step_difference h k))
      (λ p q h k. in_same step_difference (difference_of_products (grown p) (replaced p) (grown q) (replaced q) ∙ ap₂ (λ a b. a +ᴾ negᴾ b) (sym (weigh-times weight weight_times p q)) (sym (value_in-times polynomial_algebra right p q)))
      (in_sum step_difference (in_multiple step_difference (grown p) k) (in_multiple step_difference (replaced q) h)))

  -- what vanishes when it is replaced, is in the ideal up to a number
  pub reduces_in : (n : ℤ) (p q : WholePolynomial) → grown q ≡ constant n *ᴾ p → replaced q ≡ 0ᴾ → InIdeal step_difference (constant n *ᴾ p)
  reduces_in n p q e z = in_same step_difference (ap₂ (λ a b. a +ᴾ negᴾ b) e z ∙ less_nothing (constant n *ᴾ p)) (difference_in q)

  -- ---- and back
  pub record Cleared (a : WholePolynomial) : Type 0 where
    pub number : ℤ
    pub apart : ¬ (number ≡ pos 0)
    pub made : WholePolynomial
    pub is : grown made ≡ constant number *ᴾ a

  module _ (nonzero_at : (w : ℕ) → ¬ (c w ≡ pos 0)) (whole_apart : ¬ (whole ≡ pos 0)) where
    pub cleared : (a : WholePolynomial) → Cleared a
    cleared = generated Cleared
        (λ z. record { number = pos 1; apart = one_apart; made = constant z; is = grown-constant z ∙ sym (one-*ᴾ (constant z)) })
        (λ w. record {
          number = whole;
          apart = whole_apart;
          made = constant (rest w) *ᴾ variable w;
          is = weigh-times weight weight_times (constant (rest w)) (variable w) ∙ ap₂ ◌*ᴾ◌ (grown-constant (rest w)) (grown-variable w) ∙ sym (*ᴾ_assoc (constant (rest w)) (constant (c w)) (variable w)) ∙ ap (λ z. z *ᴾ variable w) (sym (constant-times (rest w) (c w)) ∙ ap constant (splits w));
        })
        (λ p q h k. record {
          number = h.number *ℤ k.number;
          apart = product_not_zero _ _ h.apart k.apart;
          made = constant k.number *ᴾ h.made +ᴾ constant h.number *ᴾ k.made;
          is = weigh-plus weight _ _ ∙ ap₂ ◌+ᴾ◌ (weigh-times weight weight_times _ _ ∙ ap₂ ◌*ᴾ◌ (grown-constant k.number) h.is) (weigh-times weight weight_times _ _ ∙ ap₂ ◌*ᴾ◌ (grown-constant h.number) k.is)
              ∙ sum_of_multiples (constant h.number) (constant k.number) p q ∙ ap (λ z. z *ᴾ (p +ᴾ q)) (sym (constant-times h.number k.number));
        })
        (λ p q h k. record {
          number = h.number *ℤ k.number;
          apart = product_not_zero _ _ h.apart k.apart;
          made = h.made *ᴾ k.made;
          is = weigh-times weight weight_times h.made k.made ∙ ap₂ ◌*ᴾ◌ h.is k.is ∙ middle (factors polynomial_algebra) (constant h.number) p (constant k.number) q ∙ ap (λ z. z *ᴾ (p *ᴾ q)) (sym (constant-times h.number k.number));
        })
      where
        one_apart : ¬ (pos 1 ≡ pos 0)
        one_apart e = absurd (omega (arith, ap lib.IntN.nat_abs e))

    -- the leads stand in no right side
    module _ (fixed_grown : (w : ℕ) → grown (right w) ≡ right w) (fixed_replaced : (w : ℕ) → replaced (right w) ≡ right w) where
      abbrev plain : ℕ → WholePolynomial
      plain w = variable w +ᴾ negᴾ (right w)

      grown-plain : (w : ℕ) → grown (plain w) ≡ step_difference w
      grown-plain w = weigh-plus weight (variable w) (negᴾ (right w)) ∙ ap₂ ◌+ᴾ◌ (grown-variable w) (weigh-times weight weight_times (constant (negsuc 0)) (right w) ∙ ap₂ ◌*ᴾ◌ (grown-constant (negsuc 0)) (fixed_grown w))

      replaced-plain : (w : ℕ) → replaced (plain w) ≡ 0ᴾ
      replaced-plain w = value_in-plus polynomial_algebra right (variable w) (negᴾ (right w)) ∙ ap₂ ◌+ᴾ◌ (value_in-variable polynomial_algebra right w) (value_in-times polynomial_algebra right (constant (negsuc 0)) (right w) ∙ ap₂ ◌*ᴾ◌ (value_in-constant polynomial_algebra right (negsuc 0)) (fixed_replaced w)) ∙ plus_comm terms _ _ ∙ polynomial_ring.neg_l (right w)

      -- a number times a sum of multiples is grown out of one that vanishes when it is replaced
      record Vanishing (p : WholePolynomial) : Type 0 where
        number : ℤ
        apart : ¬ (number ≡ pos 0)
        made : WholePolynomial
        is : grown made ≡ constant number *ᴾ p
        vanishes : replaced made ≡ 0ᴾ

      vanishing : (es : List (WholePolynomial × ℕ)) → Vanishing (combined step_difference es)
      unfolding combined
      vanishing [] = record { number = pos 1; apart = λ e. absurd (omega (arith, ap lib.IntN.nat_abs e)); made = 0ᴾ; is = weigh_none weight ∙ sym (one-*ᴾ 0ᴾ); vanishes = value_in-0ᴾ polynomial_algebra right }
      vanishing (e ∷ es) =
          let a = cleared e.0 in
          let r = vanishing es in
          record {
            number = a.number *ℤ r.number;
            apart = product_not_zero _ _ a.apart r.apart;
            made = (constant r.number *ᴾ a.made) *ᴾ plain e.1 +ᴾ constant a.number *ᴾ r.made;
            is = weigh-plus weight _ _ ∙ ap₂ ◌+ᴾ◌
                (weigh-times weight weight_times _ (plain e.1) ∙ ap₂ ◌*ᴾ◌ (weigh-times weight weight_times _ a.made ∙ ap₂ ◌*ᴾ◌ (grown-constant r.number) a.is) (grown-plain e.1))
                (weigh-times weight weight_times _ r.made ∙ ap₂ ◌*ᴾ◌ (grown-constant a.number) r.is)
                ∙ sums (constant a.number) (constant r.number) e.0 (step_difference e.1) (combined step_difference es) ∙ ap (λ z. z *ᴾ (e.0 *ᴾ step_difference e.1 +ᴾ combined step_difference es)) (sym (constant-times a.number r.number));
            vanishes = value_in-plus polynomial_algebra right _ _ ∙ ap₂ ◌+ᴾ◌
                (value_in-times polynomial_algebra right _ (plain e.1) ∙ ap (λ z. replaced (constant r.number *ᴾ a.made) *ᴾ z) (replaced-plain e.1) ∙ times_nil polynomial_ring _)
                (value_in-times polynomial_algebra right _ r.made ∙ ap (λ z. replaced (constant a.number) *ᴾ z) r.vanishes ∙ times_nil polynomial_ring _) ∙ plus_idl terms 0ᴾ;
          }
        where
          sums : (a r p d s : WholePolynomial) → (r *ᴾ (a *ᴾ p)) *ᴾ d +ᴾ a *ᴾ (r *ᴾ s) ≡ (a *ᴾ r) *ᴾ (p *ᴾ d +ᴾ s)
          sums a r p d s = solve polynomial_ring (listed a (a ∷ r ∷ p ∷ d ∷ s ∷ [])) (((v 1 ⊗ (v 0 ⊗ v 2)) ⊗ v 3) ⊕ (v 0 ⊗ (v 1 ⊗ v 4))) ((v 0 ⊗ v 1) ⊗ ((v 2 ⊗ v 3) ⊕ v 4)) refl

      weight_apart : (m : Monomial) → ¬ (weight m ≡ pos 0)
      unfolding weight
      weight_apart m = go m.list
        where
          power_apart : (w e : ℕ) → ¬ (to_power integer_algebra (c w) e ≡ pos 0)
          power_apart w zero h = absurd (omega (arith, ap lib.IntN.nat_abs h))
          power_apart w (suc e) h = power_apart w e (no_zero_divisors_ℤ (c w) (to_power integer_algebra (c w) e) (nonzero_at w) h)

          go : (es : List (ℕ × ℕ)) → ¬ (sum_of_entries (factors integer_algebra) (λ w e. to_power integer_algebra (c w) e) es ≡ pos 0)
          go [] h = absurd (omega (arith, ap lib.IntN.nat_abs h))
          go (e ∷ es) h = go es (no_zero_divisors_ℤ (to_power integer_algebra (c e.0) e.1) _ (power_apart e.0 e.1) h)

      grown_same : (p q : WholePolynomial) → grown p ≡ grown q → p ≡ q
      grown_same p q e = difference_zero p q (weigh_apart weight weight_apart (p +ᴾ negᴾ q) (
          weigh-plus weight p (negᴾ q) ∙ ap₂ ◌+ᴾ◌ e (weigh-times weight weight_times (constant (negsuc 0)) q ∙ ap (λ z. z *ᴾ grown q) (grown-constant (negsuc 0))) ∙ plus_comm terms _ _ ∙ polynomial_ring.neg_l (grown q)))

      -- what is in the ideal up to a number, vanishes when it is replaced
      pub in_reduces : (n k : ℤ) (p q : WholePolynomial) → ¬ (n ≡ pos 0) → ¬ (k ≡ pos 0) → grown q ≡ constant n *ᴾ p → InIdeal step_difference (constant k *ᴾ p) → replaced q ≡ 0ᴾ
      in_reduces n k p q an ak e h =
          let s = vanishing h.parts in
          let both : grown (constant n *ᴾ s.made) ≡ grown (constant (s.number *ℤ k) *ᴾ q) =
          weigh-times weight weight_times (constant n) s.made ∙ ap₂ ◌*ᴾ◌ (grown-constant n) (s.is ∙ ap (λ z. constant s.number *ᴾ z) h.is)
          ∙ turned (constant n) (constant s.number) (constant k) p ∙ ap₂ ◌*ᴾ◌ (sym (constant-times s.number k)) (sym e)
          ∙ sym (weigh-times weight weight_times (constant (s.number *ℤ k)) q ∙ ap (λ z. z *ᴾ grown q) (grown-constant (s.number *ℤ k))) in
          torsion (s.number *ℤ k) (product_not_zero _ _ s.apart ak) (replaced q) (
          ap (λ z. z *ᴾ replaced q) (sym (value_in-constant polynomial_algebra right (s.number *ℤ k))) ∙ sym (value_in-times polynomial_algebra right (constant (s.number *ℤ k)) q)
          ∙ ap replaced (sym (grown_same _ _ both)) ∙ value_in-times polynomial_algebra right (constant n) s.made ∙ ap (λ z. replaced (constant n) *ᴾ z) s.vanishes ∙ times_nil polynomial_ring _)
        where
          turned : (n s k p : WholePolynomial) → n *ᴾ (s *ᴾ (k *ᴾ p)) ≡ (s *ᴾ k) *ᴾ (n *ᴾ p)
          turned n s k p = solve polynomial_ring (listed n (n ∷ s ∷ k ∷ p ∷ [])) (v 0 ⊗ (v 1 ⊗ (v 2 ⊗ v 3))) ((v 1 ⊗ v 2) ⊗ (v 0 ⊗ v 3)) refl
