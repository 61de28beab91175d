-- The total derivatives and the prolonged coefficients are those of the theory over any coordinates.
use Rattle.std.specs.Prelude.{◌≡◌, ℕ, ◌+◌, ◌<◌, ◌≤◌, Bool, true, false, cond, ◌&&◌, List, [], ◌∷◌, length, eqb, ltb, pos}
use Rattle.std.proofs.Common.{refl, sym, ap, ap₂, subst, ◌∙◌, arith, ltb-true, lt-ltb}
use mathlib.Core.Path.{fun_ext}
use Rattle.lie_math.specs.Counts.{raise}
use Rattle.lie_math.specs.Derivation.{sum_of, numbers_below, derivation, IsDerivation}
use Rattle.lie_math.specs.FiniteSumLaws.{plus_idl, plus_comm}
use Rattle.lie_math.specs.PartialDerivative.{partial}
use Rattle.lie_math.specs.Polynomial.{terms, WholePolynomial, 0ᴾ, ◌+ᴾ◌, ◌*ᴾ◌, constant, variable, negᴾ}
use Rattle.lie_math.specs.PolynomialRing.{polynomial_ring}
use Rattle.lie_math.proofs.ChainRule.{one_at, derivation_is_derivation, derivation-variable}
use Rattle.lie_math.proofs.Counts.{raise_comm}
use Rattle.lie_math.proofs.Derivation.{derivations_agree, derived-0ᴾ}
use Rattle.lie_math.proofs.PartialDerivation.{partial-other, partial-variable, zero_is_derivation}
use Rattle.lie_math.proofs.Ring.{plus_idr, plus_cancel, nil_times}
use Rattle.lie_math.proofs.RingSolver.{v, ◌⊕◌, ⊖, solve, listed}
use Rattle.lie_math.proofs.SumOf.{sum_of-0ᴾ}
use Rattle.lie_geometry.specs.Coordinates.{Space, Coordinate, independent, jet, IsCoordinate, number, coordinate}
use Rattle.lie_geometry.specs.Prolongation.{indices, jet_variable, coordinate_derivative, total_derivative, counts_of_indices, prolonged_coefficient, coefficient_at}
use Rattle.lie_geometry.proofs.AbstractProlongation.{totals_commute_abstract, IsProlonged, crossed}
use Rattle.lie_geometry.proofs.AbstractRecursion.{inserted, abstract_coefficient, coefficient_step}
use Rattle.lie_geometry.proofs.Booleans.{and_left, and_right}
use Rattle.lie_geometry.proofs.Derivations.{variable_derivative, total_as_derivation, field_coefficient}
use Rattle.lie_geometry.proofs.Indices.{raise_length, all_below, all_below-inserted, counts_of_indices-inserted, counts_of_indices_length, indices-raise, descends_indices, counts_of_indices-indices, below_indices}
use Rattle.lie_geometry.proofs.Numbers.{coordinate_is, coordinate-number}
use Rattle.lie_geometry.proofs.SymbolicProlongation.{sum_of-same, number_none, coordinate_base}

pub der_none : (p : WholePolynomial) → derivation (λ w. 0ᴾ) p ≡ 0ᴾ
der_none p = derivations_agree (derivation_is_derivation (λ w. 0ᴾ)) zero_is_derivation (derivation-variable (λ w. 0ᴾ)) p

-- the partial derivative of a variable is a number
derived_partial : {D : WholePolynomial → WholePolynomial} → IsDerivation D → (i w : ℕ) → D (partial i (variable w)) ≡ 0ᴾ
derived_partial {D} d i w = ap D (partial-variable i w) ∙ go (eqb i w)
  where
    go : (t : Bool) → D (cond t (constant (pos 1)) 0ᴾ) ≡ 0ᴾ
    go true = d.whole (pos 1)
    go false = derived-0ᴾ d

module _ (S : Space) (some_p : 0 < S.p) (some_q : 0 < S.q) where
  -- the total derivatives by the independent variables, and 0 for the other numbers
  abbrev pub next : ℕ → ℕ → WholePolynomial
  next i w = cond (ltb i S.p) (variable_derivative S i w) 0ᴾ

  next_is : (i : ℕ) → i < S.p → (p : WholePolynomial) → derivation (next i) p ≡ total_derivative S i p
  next_is i h p = ap (λ t. derivation (λ w. cond t (variable_derivative S i w) 0ᴾ) p) (lt-ltb i S.p h) ∙ sym (total_as_derivation S i p)

  number_high : (a : ℕ) (J : List ℕ) → S.p ≤ number S (jet a J)
  unfolding number
  number_high a J = more S.p _
    where
      more : (a b : ℕ) → a ≤ a + b
      more a b = omega arith

  -- the total derivative of a jet
  pub variable_derivative_jet : (i a : ℕ) (J : List ℕ) → i < S.p → IsCoordinate S (jet a J) → variable_derivative S i (number S (jet a J)) ≡ jet_variable S a (raise i J)
  variable_derivative_jet i a J h is =
      ap₂ ◌+ᴾ◌ (partial-other i (number S (jet a J)) (apart (number_high a J))) (ap (coordinate_derivative S i) (coordinate-number S some_p some_q (jet a J) is)) ∙ plus_idl terms _
    where
      apart : {n : ℕ} → S.p ≤ n → i ≡ n → ⊥
      apart g e = omega arith

  pub total_of_jet : (i : ℕ) → i < S.p → (a : ℕ) (J : List ℕ) → IsCoordinate S (jet a J) → total_derivative S i (jet_variable S a J) ≡ jet_variable S a (raise i J)
  total_of_jet i h a J is = total_as_derivation S i (jet_variable S a J) ∙ derivation-variable (variable_derivative S i) (number S (jet a J)) ∙ variable_derivative_jet i a J h is

  pub total_of_independent : (i j : ℕ) → j < S.p → total_derivative S i (variable j) ≡ partial i (variable j)
  total_of_independent i j h =
      total_as_derivation S i (variable j) ∙ derivation-variable (variable_derivative S i) j ∙ ap (λ c. partial i (variable j) +ᴾ coordinate_derivative S i c) (coordinate_base S some_p some_q j h) ∙ plus_idr polynomial_ring _

  raised_is : (i a : ℕ) (J : List ℕ) → i < S.p → IsCoordinate S (jet a J) → IsCoordinate S (jet a (raise i J))
  raised_is i a J f h = (h.0, raise_length i J (subst (λ n. i < n) (sym h.1) f) ∙ h.1)

  -- total derivatives commute
  pub variables_swap : (i j w : ℕ) → derivation (next i) (next j w) ≡ derivation (next j) (next i w)
  variables_swap i j w = go (ltb i S.p) (ltb j S.p) refl refl
    where
      up_up : (c : Coordinate) → IsCoordinate S c → i < S.p → j < S.p → derivation (variable_derivative S i) (coordinate_derivative S j c) ≡ derivation (variable_derivative S j) (coordinate_derivative S i c)
      up_up (independent k) is h g = derived-0ᴾ (derivation_is_derivation (variable_derivative S i)) ∙ sym (derived-0ᴾ (derivation_is_derivation (variable_derivative S j)))
      up_up (jet a J) is h g =
          derivation-variable (variable_derivative S i) (number S (jet a (raise j J))) ∙ variable_derivative_jet i a (raise j J) h (raised_is j a J g is) ∙ ap (jet_variable S a) (raise_comm i j J)
          ∙ sym (derivation-variable (variable_derivative S j) (number S (jet a (raise i J))) ∙ variable_derivative_jet j a (raise i J) g (raised_is i a J h is))

      twice : (i j : ℕ) → derivation (variable_derivative S i) (variable_derivative S j w) ≡ derivation (variable_derivative S i) (coordinate_derivative S j (coordinate S w))
      twice i j = (derivation_is_derivation (variable_derivative S i)).plus (partial j (variable w)) (coordinate_derivative S j (coordinate S w)) ∙ ap (λ z. z +ᴾ derivation (variable_derivative S i) (coordinate_derivative S j (coordinate S w))) (derived_partial (derivation_is_derivation (variable_derivative S i)) j w) ∙ plus_idl terms _

      go : (s t : Bool) → ltb i S.p ≡ s → ltb j S.p ≡ t → derivation (λ w. cond s (variable_derivative S i w) 0ᴾ) (cond t (variable_derivative S j w) 0ᴾ) ≡ derivation (λ w. cond t (variable_derivative S j w) 0ᴾ) (cond s (variable_derivative S i w) 0ᴾ)
      go true true e f = twice i j ∙ up_up (coordinate S w) (coordinate_is S some_p some_q w).0 (ltb-true i S.p e) (ltb-true j S.p f) ∙ sym (twice j i)
      go true false e f = derived-0ᴾ (derivation_is_derivation (variable_derivative S i)) ∙ sym (der_none (variable_derivative S i w))
      go false true e f = der_none (variable_derivative S j w) ∙ sym (derived-0ᴾ (derivation_is_derivation (variable_derivative S j)))
      go false false e f = refl

  pub totals_commute : (i j : ℕ) → i < S.p → j < S.p → (P : WholePolynomial) → total_derivative S i (total_derivative S j P) ≡ total_derivative S j (total_derivative S i P)
  totals_commute i j h g P =
      ap (total_derivative S i) (sym (next_is j g P)) ∙ sym (next_is i h (derivation (next j) P)) ∙ totals_commute_abstract next variables_swap i j P ∙ next_is j g (derivation (next i) P) ∙ ap (total_derivative S j) (next_is i h P)

  module _ (a : ℕ) (in_q : a < S.q) where
    -- the jets of one dependent variable, by words
    abbrev jet_of : List ℕ → WholePolynomial
    jet_of W = cond (all_below S.p W) (jet_variable S a (counts_of_indices S W)) 0ᴾ

    jet_is : (W : List ℕ) → all_below S.p W ≡ true → IsCoordinate S (jet a (counts_of_indices S W))
    jet_is W h = (in_q, counts_of_indices_length S W h)

    raises : (k : ℕ) (W : List ℕ) → derivation (next k) (jet_of W) ≡ jet_of (inserted k W)
    raises k W = go (ltb k S.p) (all_below S.p W) refl refl ∙ sym (ap (λ t. cond t (jet_variable S a (counts_of_indices S (inserted k W))) 0ᴾ) (all_below-inserted S.p k W) ∙ ap (λ J. cond (ltb k S.p && all_below S.p W) (jet_variable S a J) 0ᴾ) (counts_of_indices-inserted S k W))
      where
        go : (s t : Bool) → ltb k S.p ≡ s → all_below S.p W ≡ t → derivation (λ w. cond s (variable_derivative S k w) 0ᴾ) (cond t (jet_variable S a (counts_of_indices S W)) 0ᴾ) ≡ cond (s && t) (jet_variable S a (raise k (counts_of_indices S W))) 0ᴾ
        go true true e f = derivation-variable (variable_derivative S k) (number S (jet a (counts_of_indices S W))) ∙ variable_derivative_jet k a (counts_of_indices S W) (ltb-true k S.p e) (jet_is W f)
        go true false e f = derived-0ᴾ (derivation_is_derivation (variable_derivative S k))
        go false t e f = der_none _

    module _ (V : ℕ → WholePolynomial) where
      abbrev by_words : List ℕ → WholePolynomial
      by_words = abstract_coefficient next variables_swap (numbers_below S.p) V jet_of raises (V (S.p + a))

      -- the sum over the independent variables
      sums : (k : ℕ) (W : List ℕ) → k < S.p → all_below S.p W ≡ true → sum_of (numbers_below S.p) (λ i. derivation (next k) (V i) *ᴾ jet_of (inserted i W)) ≡ sum_of (numbers_below S.p) (λ i. total_derivative S k (V i) *ᴾ jet_variable S a (raise i (counts_of_indices S W)))
      sums k W h g = sum_of-same S.p _ _ (λ i f. ap₂ ◌*ᴾ◌ (next_is k h (V i)) (
          ap (λ t. cond t (jet_variable S a (counts_of_indices S (inserted i W))) 0ᴾ) (all_below-inserted S.p i W ∙ ap₂ ◌&&◌ (lt-ltb i S.p f) g) ∙ ap (jet_variable S a) (counts_of_indices-inserted S i W)))

      same_coefficient : (W : List ℕ) → all_below S.p W ≡ true → by_words W ≡ prolonged_coefficient S V a W
      unfolding prolonged_coefficient
      same_coefficient [] h = refl
      same_coefficient (k ∷ W) h = go (and_left (ltb k S.p) (all_below S.p W) h) (and_right (ltb k S.p) (all_below S.p W) h) (same_coefficient W)
        where
          go : ltb k S.p ≡ true → all_below S.p W ≡ true → (all_below S.p W ≡ true → by_words W ≡ prolonged_coefficient S V a W) → by_words (k ∷ W) ≡ prolonged_coefficient S V a (k ∷ W)
          go e f ih = ap₂ (λ x y. x +ᴾ negᴾ y) (next_is k (ltb-true k S.p e) (by_words W) ∙ ap (total_derivative S k) (ih f)) (sums k W (ltb-true k S.p e) f)

      -- the recursion holds for each index
      pub coefficient_raised : (k : ℕ) (J : List ℕ) → k < S.p → length J ≡ S.p → prolonged_coefficient S V a (indices (raise k J)) +ᴾ sum_of (numbers_below S.p) (λ i. total_derivative S k (V i) *ᴾ jet_variable S a (raise i J)) ≡ total_derivative S k (prolonged_coefficient S V a (indices J))
      coefficient_raised k J h l =
          ap (λ z. z +ᴾ sum_of (numbers_below S.p) (λ i. total_derivative S k (V i) *ᴾ jet_variable S a (raise i J))) (
          sym (same_coefficient (indices (raise k J)) (below_indices S.p (raise k J) (raise_length k J (subst (λ n. k < n) (sym l) h) ∙ l)))
          ∙ ap by_words (indices-raise k J (subst (λ n. k < n) (sym l) h))
          ∙ coefficient_step next variables_swap (numbers_below S.p) V jet_of raises (V (S.p + a)) k (indices J) (descends_indices J)
          ∙ ap₂ (λ x y. x +ᴾ negᴾ y) (next_is k h (by_words (indices J)) ∙ ap (total_derivative S k) (same_coefficient (indices J) below_J)) (sums k (indices J) h below_J ∙ ap (λ K. sum_of (numbers_below S.p) (λ i. total_derivative S k (V i) *ᴾ jet_variable S a (raise i K))) (counts_of_indices-indices S J l)))
          ∙ back _ _
        where
          below_J : all_below S.p (indices J) ≡ true
          below_J = below_indices S.p J l

          back : (x y : WholePolynomial) → (x +ᴾ negᴾ y) +ᴾ y ≡ x
          back x y = solve polynomial_ring (listed x (x ∷ y ∷ [])) ((v 0 ⊕ ⊖ (v 1)) ⊕ v 1) (v 0) refl

  -- ---- the prolonged coefficients of a field are prolonged
  step_at : (V : ℕ → WholePolynomial) (k w : ℕ) (c : Coordinate) → IsCoordinate S c → coordinate S w ≡ c → number S c ≡ w → k < S.p
      → derivation (field_coefficient S V) (variable_derivative S k w) +ᴾ sum_of (numbers_below S.p) (λ i. total_derivative S k (V i) *ᴾ variable_derivative S i w) ≡ total_derivative S k (field_coefficient S V w)
  unfolding number
  step_at V k w (independent j) is e n h =
      ap₂ ◌+ᴾ◌
      (ap (λ c. derivation (field_coefficient S V) (partial k (variable w) +ᴾ coordinate_derivative S k c)) e ∙ ap (derivation (field_coefficient S V)) (plus_idr polynomial_ring (partial k (variable w))) ∙ derived_partial (derivation_is_derivation (field_coefficient S V)) k w)
      (ap (sum_of (numbers_below S.p)) (fun_ext (λ i. ap (λ z. total_derivative S k (V i) *ᴾ z) (ap (λ c. partial i (variable w) +ᴾ coordinate_derivative S i c) e ∙ plus_idr polynomial_ring (partial i (variable w))))) ∙ one_at S.p (λ i. total_derivative S k (V i)) w (subst (λ m. m < S.p) n is))
      ∙ plus_idl terms _ ∙ ap (total_derivative S k) (ap V (sym n) ∙ sym (ap (coefficient_at S V) e))
  step_at V k w (jet a J) is e n h =
      ap₂ ◌+ᴾ◌
      (ap (λ m. derivation (field_coefficient S V) (variable_derivative S k m)) (sym n) ∙ ap (derivation (field_coefficient S V)) (variable_derivative_jet k a J h is) ∙ derivation-variable (field_coefficient S V) (number S (jet a (raise k J))) ∙ ap (coefficient_at S V) (coordinate-number S some_p some_q (jet a (raise k J)) (raised_is k a J h is)))
      (sum_of-same S.p _ _ (λ i g. ap (λ z. total_derivative S k (V i) *ᴾ z) (ap (variable_derivative S i) (sym n) ∙ variable_derivative_jet i a J g is)))
      ∙ coefficient_raised a is.0 V k J h is.1 ∙ ap (total_derivative S k) (sym (ap (coefficient_at S V) e))

  pub is_prolonged : (V : ℕ → WholePolynomial) → IsProlonged next (numbers_below S.p) V (field_coefficient S V)
  is_prolonged V = record { step = λ k w. go k w (ltb k S.p) refl }
    where
      inner : (k w : ℕ) (t : Bool) → ltb k S.p ≡ t → sum_of (numbers_below S.p) (λ i. derivation (λ w. cond t (variable_derivative S k w) 0ᴾ) (V i) *ᴾ next i w) ≡ sum_of (numbers_below S.p) (λ i. derivation (λ w. cond t (variable_derivative S k w) 0ᴾ) (V i) *ᴾ variable_derivative S i w)
      inner k w t e = sum_of-same S.p _ _ (λ i h. ap (λ b. derivation (λ w. cond t (variable_derivative S k w) 0ᴾ) (V i) *ᴾ cond b (variable_derivative S i w) 0ᴾ) (lt-ltb i S.p h))

      go : (k w : ℕ) (t : Bool) → ltb k S.p ≡ t → derivation (field_coefficient S V) (cond t (variable_derivative S k w) 0ᴾ) +ᴾ sum_of (numbers_below S.p) (λ i. derivation (λ w. cond t (variable_derivative S k w) 0ᴾ) (V i) *ᴾ next i w) ≡ derivation (λ w. cond t (variable_derivative S k w) 0ᴾ) (field_coefficient S V w)
      go k w true e =
          let x = coordinate_is S some_p some_q w in
          ap (λ z. derivation (field_coefficient S V) (variable_derivative S k w) +ᴾ z) (inner k w true e ∙ ap (sum_of (numbers_below S.p)) (fun_ext (λ i. ap (λ z. z *ᴾ variable_derivative S i w) (sym (total_as_derivation S k (V i))))))
          ∙ step_at V k w (coordinate S w) x.0 refl x.1 (ltb-true k S.p e) ∙ total_as_derivation S k (field_coefficient S V w)
      go k w false e =
          ap₂ ◌+ᴾ◌ (derived-0ᴾ (derivation_is_derivation (field_coefficient S V))) (ap (sum_of (numbers_below S.p)) (fun_ext (λ i. ap (λ z. z *ᴾ next i w) (der_none (V i)) ∙ nil_times polynomial_ring (next i w))) ∙ sum_of-0ᴾ (numbers_below S.p))
          ∙ plus_idl terms 0ᴾ ∙ sym (der_none (field_coefficient S V w))

  -- the prolonged field and a total derivative
  pub field_crosses_total : (V : ℕ → WholePolynomial) (k : ℕ) → k < S.p → (P : WholePolynomial) →
      derivation (field_coefficient S V) (total_derivative S k P) +ᴾ sum_of (numbers_below S.p) (λ i. total_derivative S k (V i) *ᴾ total_derivative S i P) ≡ total_derivative S k (derivation (field_coefficient S V) P)
  field_crosses_total V k h P =
      ap₂ ◌+ᴾ◌ (ap (derivation (field_coefficient S V)) (sym (next_is k h P))) (sum_of-same S.p _ _ (λ i g. ap₂ ◌*ᴾ◌ (sym (next_is k h (V i))) (sym (next_is i g P))))
      ∙ crossed next (numbers_below S.p) V (field_coefficient S V) (is_prolonged V) k P ∙ next_is k h (derivation (field_coefficient S V) P)

  -- ---- what is prolonged is told by its components
  module _ (x c d : ℕ → WholePolynomial) (h : IsProlonged next (numbers_below S.p) x c) (pd : IsProlonged next (numbers_below S.p) x d) (same : (w : ℕ) → w < S.p + S.q → c w ≡ d w) where
    next_jet : (k a : ℕ) (J : List ℕ) → k < S.p → IsCoordinate S (jet a J) → next k (number S (jet a J)) ≡ jet_variable S a (raise k J)
    next_jet k a J f is = ap (λ t. cond t (variable_derivative S k (number S (jet a J))) 0ᴾ) (lt-ltb k S.p f) ∙ variable_derivative_jet k a J f is

    at_raised : (e : ℕ → WholePolynomial) → IsProlonged next (numbers_below S.p) x e → (k a : ℕ) (J : List ℕ) → k < S.p → IsCoordinate S (jet a J)
        → e (number S (jet a (raise k J))) +ᴾ sum_of (numbers_below S.p) (λ i. derivation (next k) (x i) *ᴾ next i (number S (jet a J))) ≡ derivation (next k) (e (number S (jet a J)))
    at_raised e q k a J f is = ap (λ z. z +ᴾ sum_of (numbers_below S.p) (λ i. derivation (next k) (x i) *ᴾ next i (number S (jet a J)))) (sym (ap (derivation e) (next_jet k a J f is) ∙ derivation-variable e (number S (jet a (raise k J))))) ∙ q.step k (number S (jet a J))

    same_at_counts : (a : ℕ) → a < S.q → (W : List ℕ) → all_below S.p W ≡ true → c (number S (jet a (counts_of_indices S W))) ≡ d (number S (jet a (counts_of_indices S W)))
    same_at_counts a f [] e = same (number S (jet a (counts_of_indices S []))) (subst (λ n. n < S.p + S.q) (sym (number_none S some_p some_q a)) (within f))
      where
        within : a < S.q → S.p + a < S.p + S.q
        within f = omega arith
    same_at_counts a f (k ∷ W) e = go (and_left (ltb k S.p) (all_below S.p W) e) (same_at_counts a f W (and_right (ltb k S.p) (all_below S.p W) e)) (and_right (ltb k S.p) (all_below S.p W) e)
      where
        go : ltb k S.p ≡ true → c (number S (jet a (counts_of_indices S W))) ≡ d (number S (jet a (counts_of_indices S W))) → all_below S.p W ≡ true → c (number S (jet a (raise k (counts_of_indices S W)))) ≡ d (number S (jet a (raise k (counts_of_indices S W))))
        go e ih g =
            let is : IsCoordinate S (jet a (counts_of_indices S W)) = (f, counts_of_indices_length S W g) in
            let sum : WholePolynomial = sum_of (numbers_below S.p) (λ i. derivation (next k) (x i) *ᴾ next i (number S (jet a (counts_of_indices S W)))) in
            plus_cancel polynomial_ring _ _ sum (
            plus_comm terms sum (c (number S (jet a (raise k (counts_of_indices S W))))) ∙ at_raised c h k a (counts_of_indices S W) (ltb-true k S.p e) is ∙ ap (derivation (next k)) ih ∙ sym (at_raised d pd k a (counts_of_indices S W) (ltb-true k S.p e) is) ∙ plus_comm terms (d (number S (jet a (raise k (counts_of_indices S W))))) sum)

    pub same_prolonged : (w : ℕ) → c w ≡ d w
    unfolding number
    same_prolonged w = let y = coordinate_is S some_p some_q w in go (coordinate S w) y.0 y.1
      where
        within : (i : ℕ) → i < S.p → i < S.p + S.q
        within i f = omega arith

        go : (k : Coordinate) → IsCoordinate S k → number S k ≡ w → c w ≡ d w
        go (independent i) is e = same w (subst (λ n. n < S.p + S.q) e (within i is))
        go (jet a J) is e = subst (λ n. c n ≡ d n) (ap (λ K. number S (jet a K)) (counts_of_indices-indices S J is.1) ∙ e) (same_at_counts a is.0 (indices J) (below_indices S.p J is.1))
