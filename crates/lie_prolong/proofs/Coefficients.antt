-- The coordinates that occur in prolonged coefficients, and the bounds of the sums that they are made of.
use Rattle.std.specs.Prelude.{◌≡◌, ℕ, zero, suc, ◌+◌, ◌<◌, ◌≤◌, Bool, true, false, List, [], ◌∷◌, length, ltb, leb, negsuc}
use Rattle.std.proofs.Common.{refl, sym, subst, ◌∙◌, arith, ltb-true}
use Rattle.std.proofs.lemmas.Bool.{leb-true, leb-false}
use Rattle.lie_math.specs.Counts.{raise}
use Rattle.lie_math.specs.Derivation.{sum_of, numbers_below}
use Rattle.lie_math.specs.Polynomial.{WholePolynomial, 0ᴾ, constant}
use Rattle.lie_math.specs.Variables.{IsIn}
use Rattle.lie_math.proofs.Limits.{IsCovered, IsNonNegative, covered_first, covered_second, covered_trans, nonneg_none, nonneg_sum}
use Rattle.lie_math.proofs.Variables.{in-+ᴾ, in-*ᴾ, in-constant}
use Rattle.lie_geometry.specs.Coordinates.{Space}
use Rattle.lie_geometry.specs.Prolongation.{InZ, jet_variable, total_derivative, counts_of_indices, prolonged_coefficient}
use Rattle.lie_geometry.proofs.Indices.{raise_length, all_below, counts_of_indices_length}
use Rattle.lie_geometry.proofs.Booleans.{and_left, and_right}
use Rattle.lie_jet.proofs.PolynomialBounds.{IsBound}
use Rattle.lie_jet.proofs.JetsBelow.{in_sum_of, below, below_wider, jet_in, total_in, z_in, raised_order}

module _ (S : Space) (some_p : 0 < S.p) (some_q : 0 < S.q) where
  module _ (V : ℕ → WholePolynomial) (in_z : (s : ℕ) → InZ S (V s)) (a : ℕ) (inside : a < S.q) where
    -- a prolonged coefficient has no jet of an order above its own
    pub coefficient_in : (W : List ℕ) → all_below S.p W ≡ true → IsIn (below S some_p some_q (length W)) (prolonged_coefficient S V a W)
    unfolding prolonged_coefficient
    coefficient_in [] h = z_in S some_p some_q 0 (V (S.p + a)) (in_z (S.p + a))
    coefficient_in (k ∷ W) h =
        let f : k < S.p = ltb-true k S.p (and_left (ltb k S.p) (all_below S.p W) h) in
        let g : all_below S.p W ≡ true = and_right (ltb k S.p) (all_below S.p W) h in
        in-+ᴾ (below S some_p some_q (suc (length W))) _ _ (total_in S some_p some_q k (length W) (prolonged_coefficient S V a W) f (coefficient_in W g))
        (in-*ᴾ (below S some_p some_q (suc (length W))) (constant (negsuc 0)) _ (in-constant (below S some_p some_q (suc (length W))) _)
        (in_sum_of (below S some_p some_q (suc (length W))) S.p _ (λ i e. in-*ᴾ (below S some_p some_q (suc (length W))) (total_derivative S k (V i)) (jet_variable S a (raise i (counts_of_indices S W)))
        (below_wider S some_p some_q 1 (suc (length W)) (omega arith) (total_derivative S k (V i)) (total_in S some_p some_q k 0 (V i) f (z_in S some_p some_q 0 (V i) (in_z i))))
        (jet_in S some_p some_q (suc (length W)) a (raise i (counts_of_indices S W)) (inside, raise_length i (counts_of_indices S W) (subst (λ m. i < m) (sym (counts_of_indices_length S W g)) e) ∙ counts_of_indices_length S W g) (raised_order S some_p some_q i W)))))

-- ---- sums over the first numbers
nonneg_sum_of : (n : ℕ) (g : ℕ → WholePolynomial) → ((i : ℕ) → IsNonNegative (g i)) → IsNonNegative (sum_of (numbers_below n) g)
nonneg_sum_of zero g h = nonneg_none
nonneg_sum_of (suc n) g h = nonneg_sum (g n) (sum_of (numbers_below n) g) (h n) (nonneg_sum_of n g h)

covered_itself : (p : WholePolynomial) → IsCovered p p
covered_itself p = record { at_most = λ m. omega arith }

first_covered : (i n : ℕ) (g : ℕ → WholePolynomial) → ((i : ℕ) → IsNonNegative (g i)) → i ≤ n → IsCovered (sum_of (numbers_below i) g) (sum_of (numbers_below n) g)
first_covered i zero g h k = subst (λ m. IsCovered (sum_of (numbers_below m) g) 0ᴾ) (none i k) (covered_itself 0ᴾ)
  where
    none : (i : ℕ) → i ≤ 0 → 0 ≡ i
    none i h = omega arith
first_covered i (suc n) g h k = go (leb i n) refl (first_covered i n g h)
  where
    go : (t : Bool) → leb i n ≡ t → (i ≤ n → IsCovered (sum_of (numbers_below i) g) (sum_of (numbers_below n) g)) → IsCovered (sum_of (numbers_below i) g) (sum_of (numbers_below (suc n)) g)
    go true e ih = covered_trans _ (sum_of (numbers_below n) g) _ (ih (leb-true i n e)) (covered_second (g n) (sum_of (numbers_below n) g) (h n) (nonneg_sum_of n g h))
    go false e ih = subst (λ m. IsCovered (sum_of (numbers_below m) g) (sum_of (numbers_below (suc n)) g)) (equal (leb-false i n e)) (covered_itself _)
      where
        equal : n < i → suc n ≡ i
        equal l = omega arith

one_covered : (i n : ℕ) (g : ℕ → WholePolynomial) → ((i : ℕ) → IsNonNegative (g i)) → i < n → IsCovered (g i) (sum_of (numbers_below n) g)
one_covered i n g h k = covered_trans _ (sum_of (numbers_below (suc i)) g) _ (covered_first (g i) (sum_of (numbers_below i) g) (h i) (nonneg_sum_of i g h)) (first_covered (suc i) n g h (omega arith))

-- a sum bounds the sum over the first numbers, and each of its parts
pub first_bound : (i n : ℕ) (g : ℕ → WholePolynomial) → ((i : ℕ) → IsNonNegative (g i)) → i ≤ n → IsBound (sum_of (numbers_below i) g) (sum_of (numbers_below n) g)
first_bound i n g h k = record { covered = first_covered i n g h k; plain = nonneg_sum_of n g h }

pub one_bound : (i n : ℕ) (g : ℕ → WholePolynomial) → ((i : ℕ) → IsNonNegative (g i)) → i < n → IsBound (g i) (sum_of (numbers_below n) g)
one_bound i n g h k = record { covered = one_covered i n g h k; plain = nonneg_sum_of n g h }
