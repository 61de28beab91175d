-- The prolongation of the field whose components are the unknowns 1, 2 and so on of all z. A form has jet polynomials as its coefficients.
use Rattle.std.specs.Prelude.{◌≡◌, ℕ, zero, suc, ◌+◌, ◌*◌, ◌-◌, ◌<◌, cond, List, [], ◌∷◌, length, replicate, negsuc}
use Rattle.std.proofs.Common.{refl, sym, ap, ap₂, ◌∙◌, arith, lt-ltb}
use mathlib.Core.Path.{fun_ext}
use Rattle.std.proofs.lemmas.List.{length-replicate}
use Rattle.lie_math.specs.FiniteSumLaws as finite_laws
use Rattle.lie_math.specs.Canonical.{sum_of_entries-map}
use Rattle.lie_math.specs.Counts.{raise, partials_from, partials, Derivative, raised, derived}
use Rattle.lie_math.specs.Derivation.{sum_of, numbers_below}
use Rattle.lie_math.specs.FiniteSumLaws.{plus_idl, plus_comm}
use Rattle.lie_math.specs.LinearForm.{forms, LinearForm, ◌+ᶠ◌, form_term, apply}
use Rattle.lie_math.specs.PartialDerivative.{partial}
use Rattle.lie_math.specs.Polynomial.{terms, WholePolynomial, 0ᴾ, ◌+ᴾ◌, polynomials, ◌*ᴾ◌, constant, negᴾ}
use Rattle.lie_math.specs.PolynomialRing.{*ᴾ_comm, *ᴾ-dist, *ᴾ_assoc, polynomial_ring}
use Rattle.lie_math.specs.SortedSum.{sum_of_entries}
use Rattle.lie_math.proofs.ChainRule.{chain_rule_below, derivation_is_derivation, derivation-variable}
use Rattle.lie_math.proofs.Counts.{partial_times, partials_raise, order_zeros}
use Rattle.lie_math.proofs.Derivation.{derived-0ᴾ}
use Rattle.lie_math.proofs.LinearForm.{apply_plus, apply_term, apply_none, apply_unknown, apply_times}
use Rattle.lie_math.proofs.Ring.{plus_idr, nil_times}
use Rattle.lie_math.proofs.SumOf.{times-sum_of, sum_of-0ᴾ}
use Rattle.lie_math.proofs.Variables.{in-partial}
use Rattle.lie_geometry.specs.Coordinates.{Space, Coordinate, independent, jet, sum_below, ways, rank, jets_below, number, coordinates_up_to, coordinate}
use Rattle.lie_geometry.specs.Invariance.{greatest_order, applied_prolongation}
use Rattle.lie_geometry.specs.Prolongation.{is_in_z, InZ, indices, jet_variable, coordinate_derivative, total_derivative, counts_of_indices, prolonged_coefficient, coefficient_at}
use Rattle.lie_geometry.specs.SolvedEquations.{SolvedEquation, difference}
use Rattle.lie_geometry.specs.SymbolicProlongation.{forms_over, unknown, symbolic_total, symbolic_coefficient, symbolic_coefficient_at, symbolic_application, field_of}
use Rattle.lie_geometry.proofs.Derivations.{variable_derivative, total_as_derivation}
use Rattle.lie_geometry.proofs.Numbers.{nth_jet, ways_none, coordinate-number}

-- ---- functions put in for the unknowns
module _ (F : ℕ → WholePolynomial) where
  pub apply_forms_over : (is : List ℕ) (f : ℕ → LinearForm) → apply F (forms_over is f) ≡ sum_of is (λ i. apply F (f i))
  apply_forms_over [] f = apply_none F
  apply_forms_over (i ∷ is) f = apply_plus F (f i) (forms_over is f) ∙ ap (λ z. apply F (f i) +ᴾ z) (apply_forms_over is f)

  pub apply_component : (s : ℕ) → apply F (unknown s) ≡ F (suc s)
  apply_component s = apply_unknown F (suc s)

-- the total derivative of a times a derivative d
abbrev pub total_term : Space → ℕ → Derivative → WholePolynomial → LinearForm
total_term S i d a = form_term d (total_derivative S i a) +ᶠ form_term (raised i d) a +ᶠ forms_over (numbers_below S.q) (λ b. form_term (raised (S.p + b) d) (a *ᴾ jet_variable S b (raise i (replicate S.p 0))))

-- ---- the coordinates of order 0
replicate_rank : (n : ℕ) → rank (replicate n 0) ≡ 0
replicate_rank zero = refl
replicate_rank (suc n) = ap₂ (λ a b. sum_below (ways (length {A = ℕ} (replicate n 0))) a + b) (order_zeros n) (replicate_rank n)

sum_of-join : (p q : ℕ) (f : ℕ → WholePolynomial) → sum_of (numbers_below (p + q)) f ≡ sum_of (numbers_below q) (λ b. f (p + b)) +ᴾ sum_of (numbers_below p) f
sum_of-join p zero f = ap (λ n. sum_of (numbers_below n) f) (plain p) ∙ sym (plus_idl terms _)
  where
    plain : (p : ℕ) → p + 0 ≡ p
    plain p = omega arith
sum_of-join p (suc q) f = ap (λ n. sum_of (numbers_below n) f) (next p q) ∙ ap (λ z. f (p + q) +ᴾ z) (sum_of-join p q f) ∙ sym (finite_laws.plus_assoc terms _ _ _)
  where
    next : (p q : ℕ) → p + suc q ≡ suc (p + q)
    next p q = omega arith

pub sum_of-same : (n : ℕ) (f g : ℕ → WholePolynomial) → ((i : ℕ) → i < n → f i ≡ g i) → sum_of (numbers_below n) f ≡ sum_of (numbers_below n) g
sum_of-same zero f g is = refl
sum_of-same (suc n) f g is = ap₂ ◌+ᴾ◌ (is n (here n)) (sum_of-same n f g (λ i h. is i (weaker h)))
  where
    here : (n : ℕ) → n < suc n
    here n = omega arith

    weaker : {i n : ℕ} → i < n → i < suc n
    weaker h = omega arith

module _ (S : Space) (some_p : 0 < S.p) (some_q : 0 < S.q) where
  pub number_none : (a : ℕ) → number S (jet a (replicate S.p 0)) ≡ S.p + a
  unfolding number
  number_none a =
      ap₂ (λ n r. S.p + (jets_below S n + (a * ways S.p n + r))) (order_zeros S.p) (replicate_rank S.p)
      ∙ ap (λ w. S.p + (jets_below S 0 + (a * w + 0))) (ways_none S.p) ∙ plain S.p S.q a
    where
      plain : (p q a : ℕ) → p + (q * 0 + (a * 1 + 0)) ≡ p + a
      plain p q a = omega arith

  pub coordinate_none : (a : ℕ) → a < S.q → coordinate S (S.p + a) ≡ jet a (replicate S.p 0)
  coordinate_none a h = ap (coordinate S) (sym (number_none a)) ∙ coordinate-number S some_p some_q (jet a (replicate S.p 0)) (h, length-replicate S.p 0)

  pub coordinate_base : (i : ℕ) → i < S.p → coordinate S i ≡ independent i
  unfolding coordinate
  coordinate_base i h = ap (λ t. cond t (independent i) (nth_jet S (i - S.p))) (lt-ltb i S.p h)

  -- the total derivative of a function of z
  pub total_z : (i : ℕ) (f : WholePolynomial) → InZ S f → total_derivative S i f ≡ partial i f +ᴾ sum_of (numbers_below S.q) (λ b. jet_variable S b (raise i (replicate S.p 0)) *ᴾ partial (S.p + b) f)
  unfolding total_derivative
  total_z i f h = ap (λ z. partial i f +ᴾ z) (
      sym (chain_rule_below (S.p + S.q) (λ w. coordinate_derivative S i (coordinate S w)) (derivation_is_derivation (λ w. coordinate_derivative S i (coordinate S w))) (derivation-variable (λ w. coordinate_derivative S i (coordinate S w))) f h)
      ∙ sum_of-join S.p S.q (λ w. coordinate_derivative S i (coordinate S w) *ᴾ partial w f)
      ∙ ap₂ ◌+ᴾ◌ (sum_of-same S.q _ _ (λ b g. ap (λ c. coordinate_derivative S i c *ᴾ partial (S.p + b) f) (coordinate_none b g)))
      (sum_of-same S.p _ (λ w. 0ᴾ) (λ w g. ap (λ c. coordinate_derivative S i c *ᴾ partial w f) (coordinate_base w g) ∙ nil_times polynomial_ring (partial w f)) ∙ sum_of-0ᴾ (numbers_below S.p))
      ∙ plus_idr polynomial_ring _)

  module _ (F : ℕ → WholePolynomial) (in_z : (n : ℕ) → InZ S (F n)) where
    pub partials_in : (n : ℕ) (J : List ℕ) → InZ S (partials J (F n))
    partials_in n J = from 0 J
      where
        times : (c i : ℕ) (p : WholePolynomial) → InZ S p → InZ S (partial_times c i p)
        times zero i p h = h
        times (suc c) i p h = times c i (partial i p) (in-partial (is_in_z S) i p h)

        from : (i : ℕ) (J : List ℕ) → InZ S (partials_from i J (F n))
        from i [] = in_z n
        from i (c ∷ J) = times c i (partials_from (suc i) J (F n)) (from (suc i) J)

    at_term : (i : ℕ) (d : Derivative) (a : WholePolynomial) → apply F (total_term S i d a) ≡ total_derivative S i (a *ᴾ derived F d)
    at_term i d a =
        apply_plus F _ _ ∙ ap₂ ◌+ᴾ◌
        (apply_plus F _ _ ∙ ap₂ ◌+ᴾ◌ (apply_term F d (total_derivative S i a)) (apply_term F (raised i d) a ∙ ap (λ z. a *ᴾ z) (partials_raise i d.counts (F d.unknown))))
        (apply_forms_over F (numbers_below S.q) _ ∙ ap (sum_of (numbers_below S.q)) (fun_ext (λ b. apply_term F (raised (S.p + b) d) (a *ᴾ jet_variable S b (raise i (replicate S.p 0))) ∙ ap (λ z. (a *ᴾ jet_variable S b (raise i (replicate S.p 0))) *ᴾ z) (partials_raise (S.p + b) d.counts (F d.unknown)) ∙ *ᴾ_assoc a _ _))
        ∙ sym (times-sum_of (numbers_below S.q) (λ b. jet_variable S b (raise i (replicate S.p 0)) *ᴾ partial (S.p + b) f) a))
        ∙ finite_laws.plus_assoc terms _ _ _ ∙ ap (λ z. total_derivative S i a *ᴾ f +ᴾ z) (sym (*ᴾ-dist a _ _) ∙ ap (λ z. a *ᴾ z) (sym (total_z i f (partials_in d.unknown d.counts))))
        ∙ plus_comm terms _ _ ∙ sym (total_times i a f)
      where
        f : WholePolynomial
        f = derived F d

        total_times : (i : ℕ) (a b : WholePolynomial) → total_derivative S i (a *ᴾ b) ≡ a *ᴾ total_derivative S i b +ᴾ total_derivative S i a *ᴾ b
        total_times i a b = total_as_derivation S i (a *ᴾ b) ∙ (derivation_is_derivation (variable_derivative S i)).times a b ∙ ap₂ (λ x y. a *ᴾ x +ᴾ y *ᴾ b) (sym (total_as_derivation S i b)) (sym (total_as_derivation S i a))

    -- the total derivative of a form is that of what it says
    pub apply_symbolic_total : (i : ℕ) (E : LinearForm) → apply F (symbolic_total S i E) ≡ total_derivative S i (apply F E)
    unfolding apply symbolic_total
    apply_symbolic_total i E =
        sum_of_entries-map (finite_laws.adder forms) polynomials (apply F) (apply_none F) (apply_plus F) (total_term S i) E.list
        ∙ ap (λ φ. sum_of_entries polynomials φ E.list) (fun_ext (λ d. fun_ext (λ a. at_term i d a)))
        ∙ sym (sum_of_entries-map polynomials polynomials (total_derivative S i) (total_as_derivation S i 0ᴾ ∙ derived-0ᴾ (derivation_is_derivation (variable_derivative S i))) (λ p q. total_as_derivation S i (p +ᴾ q) ∙ (derivation_is_derivation (variable_derivative S i)).plus p q ∙ ap₂ ◌+ᴾ◌ (sym (total_as_derivation S i p)) (sym (total_as_derivation S i q))) (λ d a. a *ᴾ derived F d) E.list)

    -- with the components put in, the symbolic coefficient is the coefficient
    pub apply_symbolic_coefficient : (a : ℕ) (W : List ℕ) → apply F (symbolic_coefficient S a W) ≡ prolonged_coefficient S (field_of F) a W
    unfolding symbolic_coefficient prolonged_coefficient
    apply_symbolic_coefficient a [] = apply_component F (S.p + a)
    apply_symbolic_coefficient a (k ∷ W) =
        apply_plus F _ _ ∙ ap₂ ◌+ᴾ◌ (apply_symbolic_total k (symbolic_coefficient S a W) ∙ ap (total_derivative S k) (apply_symbolic_coefficient a W))
        (apply_times F (constant (negsuc 0)) _ ∙ ap negᴾ (apply_forms_over F (numbers_below S.p) _ ∙ ap (sum_of (numbers_below S.p)) (fun_ext (λ i.
        apply_times F (jet_variable S a (raise i (counts_of_indices S W))) (symbolic_total S k (unknown i)) ∙ *ᴾ_comm _ _ ∙ ap (λ z. z *ᴾ jet_variable S a (raise i (counts_of_indices S W))) (apply_symbolic_total k (unknown i) ∙ ap (total_derivative S k) (apply_component F i))))))

    pub apply_symbolic_coefficient_at : (c : Coordinate) → apply F (symbolic_coefficient_at S c) ≡ coefficient_at S (field_of F) c
    apply_symbolic_coefficient_at (independent i) = apply_component F i
    apply_symbolic_coefficient_at (jet a J) = apply_symbolic_coefficient a (indices J)

    pub apply_symbolic_application : (rs : List SolvedEquation) (r : SolvedEquation) → apply F (symbolic_application S rs r) ≡ applied_prolongation S rs (field_of F) r
    unfolding symbolic_application applied_prolongation
    apply_symbolic_application rs r =
        apply_forms_over F (numbers_below (coordinates_up_to S (greatest_order S rs))) _ ∙ ap (sum_of (numbers_below (coordinates_up_to S (greatest_order S rs)))) (fun_ext (λ w.
        apply_times F (partial w (difference r)) (symbolic_coefficient_at S (coordinate S w)) ∙ *ᴾ_comm _ _ ∙ ap (λ z. z *ᴾ partial w (difference r)) (apply_symbolic_coefficient_at (coordinate S w))))
