-- Polynomials in jets up to an order, and what a total derivative makes of them.
use Rattle.std.specs.Prelude.{◌≡◌, ℕ, zero, suc, ◌+◌, ◌*◌, ◌<◌, ◌≤◌, Bool, true, List, [], ◌∷◌, length}
use Rattle.std.proofs.Common.{refl, sym, ap, subst, ◌∙◌, arith, ltb-true, lt-ltb}
use Rattle.lie_math.specs.Counts.{raise, order}
use Rattle.lie_math.specs.Derivation.{sum_of, numbers_below, is_below}
use Rattle.lie_math.specs.PartialDerivative.{partial}
use Rattle.lie_math.specs.Polynomial.{WholePolynomial, ◌*ᴾ◌, variable}
use Rattle.lie_math.specs.Variables.{IsIn}
use Rattle.lie_math.proofs.ChainRule.{chain_rule_below}
use Rattle.lie_math.proofs.Counts.{order_raise, order_zeros}
use Rattle.lie_math.proofs.Variables.{in-+ᴾ, in-*ᴾ, in-0ᴾ, in-variable, in-wider, in-partial}
use Rattle.lie_geometry.specs.Coordinates.{Space, Coordinate, independent, jet, IsCoordinate, order_of, ways, number, coordinates_up_to, coordinate}
use Rattle.lie_geometry.specs.Prolongation.{InZ, jet_variable, total_derivative, counts_of_indices}
use Rattle.lie_geometry.proofs.Derivations.{total_is_derivation}
use Rattle.lie_geometry.proofs.Indices.{raise_length}
use Rattle.lie_geometry.proofs.Numbers.{coordinate_is, number_below, count_rises, ways_none}
use Rattle.lie_geometry.proofs.NumberOrder.{order_below}
use Rattle.lie_geometry.proofs.ProlongedFields.{total_of_independent, total_of_jet}

pub in_sum_of : (T : ℕ → Bool) (n : ℕ) (f : ℕ → WholePolynomial) → ((i : ℕ) → i < n → IsIn T (f i)) → IsIn T (sum_of (numbers_below n) f)
in_sum_of T zero f h = in-0ᴾ T
in_sum_of T (suc n) f h = in-+ᴾ T (f n) (sum_of (numbers_below n) f) (h n (omega arith)) (in_sum_of T n f (λ i k. h i (omega arith)))

wider : (m n : ℕ) → m ≤ n → (w : ℕ) → is_below m w ≡ true → is_below n w ≡ true
wider m n h w e = lt-ltb w n (let k : w < m = ltb-true w m e in omega arith)

module _ (S : Space) (some_p : 0 < S.p) (some_q : 0 < S.q) where
  abbrev pub below : ℕ → ℕ → Bool
  below n = is_below (coordinates_up_to S n)

  pub below_wider : (m n : ℕ) → m ≤ n → (P : WholePolynomial) → IsIn (below m) P → IsIn (below n) P
  below_wider m n h P = in-wider (below m) (below n) (wider _ _ (count_rises S some_p some_q m n h)) P

  pub jet_in : (n a : ℕ) (J : List ℕ) → IsCoordinate S (jet a J) → order J ≤ n → IsIn (below n) (jet_variable S a J)
  jet_in n a J is h = in-variable (below n) (number S (jet a J)) (lt-ltb _ _ (less _ _ _ (number_below S some_p some_q a J is) (count_rises S some_p some_q (order J) n h)))
    where
      less : (a b c : ℕ) → a < b → b ≤ c → a < c
      less a b c h k = omega arith

  independent_in : (n j : ℕ) → j < S.p → IsIn (below n) (variable j)
  independent_in n j h = in-variable (below n) j (lt-ltb _ _ (less j _ _ h))
    where
      less : (j p s : ℕ) → j < p → j < p + s
      less j p s h = omega arith

  -- the total derivative of a coordinate has at most one order more
  variable_in : (k n w : ℕ) → k < S.p → w < coordinates_up_to S n → IsIn (below (suc n)) (total_derivative S k (variable w))
  unfolding number
  variable_in k n w f h = let x = coordinate_is S some_p some_q w in subst (λ v. IsIn (below (suc n)) (total_derivative S k (variable v))) x.1 (go (coordinate S w) x.0 ((order_below S some_p some_q w n).1 h))
    where
      go : (c : Coordinate) → IsCoordinate S c → order_of c ≤ n → IsIn (below (suc n)) (total_derivative S k (variable (number S c)))
      go (independent j) is g = subst (IsIn (below (suc n))) (sym (total_of_independent S some_p some_q k j is)) (in-partial (below (suc n)) k (variable j) (independent_in (suc n) j is))
      go (jet a J) is g = subst (IsIn (below (suc n))) (sym (total_of_jet S some_p some_q k f a J is)) (jet_in (suc n) a (raise k J) (is.0, raise_length k J (subst (λ m. k < m) (sym is.1) f) ∙ is.1) (let e : order (raise k J) ≡ suc (order J) = order_raise k J in omega arith))

  pub total_in : (k n : ℕ) (P : WholePolynomial) → k < S.p → IsIn (below n) P → IsIn (below (suc n)) (total_derivative S k P)
  total_in k n P f h =
      subst (IsIn (below (suc n))) (chain_rule_below (coordinates_up_to S n) (λ w. total_derivative S k (variable w)) (total_is_derivation S k) (λ w. refl) P h)
      (in_sum_of (below (suc n)) (coordinates_up_to S n) (λ w. total_derivative S k (variable w) *ᴾ partial w P) (λ w g. in-*ᴾ (below (suc n)) _ _ (variable_in k n w f g) (below_wider n (suc n) (omega arith) (partial w P) (in-partial (below n) w P h))))

  -- what is in z has order 0
  pub z_count : (n : ℕ) → S.p + S.q ≤ coordinates_up_to S n
  z_count n = least (count_rises S some_p some_q 0 n (omega arith))
    where
      plain : (p q : ℕ) → p + q ≡ p + q * (0 + 1)
      plain p q = omega arith

      one : (p q : ℕ) → p + q ≡ p + q * (0 + ways p 0)
      one p q = plain p q ∙ ap (λ k. p + q * (0 + k)) (sym (ways_none p))

      least : coordinates_up_to S 0 ≤ coordinates_up_to S n → S.p + S.q ≤ coordinates_up_to S n
      least h = let e : S.p + S.q ≡ coordinates_up_to S 0 = one S.p S.q in omega arith

  pub z_in : (n : ℕ) (P : WholePolynomial) → InZ S P → IsIn (below n) P
  z_in n P = in-wider (is_below (S.p + S.q)) (below n) (wider _ _ (z_count n)) P

  -- as many derivations as variables
  pub counted : (W : List ℕ) → order (counts_of_indices S W) ≡ length W
  counted [] = order_zeros S.p
  counted (k ∷ W) = order_raise k (counts_of_indices S W) ∙ ap suc (counted W)

  pub raised_order : (i : ℕ) (W : List ℕ) → order (raise i (counts_of_indices S W)) ≤ suc (length W)
  raised_order i W = let e : order (raise i (counts_of_indices S W)) ≡ suc (order (counts_of_indices S W)) = order_raise i (counts_of_indices S W) in let f : order (counts_of_indices S W) ≡ length W = counted W in omega arith
