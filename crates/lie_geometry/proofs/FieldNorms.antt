-- The norms of the prolonged coefficients of a field, and of their bulks, stay below the bound that its own numbers tell.
use Rattle.std.specs.Prelude.{◌≡◌, ℕ, zero, suc, ◌+◌, ◌-◌, ◌*◌, ◌≤◌, ◌<◌, true, ltb, List, [], ◌∷◌, length, ℤ, unsigned_abs}
use Rattle.std.specs.List.{AllByRecursion as Every}
use Rattle.std.proofs.Common.{refl, sym, ap, subst, ◌∙◌, arith, lit<, ltb-true}
use Rattle.lie_math.specs.Counts.{raise}
use Rattle.lie_math.specs.Derivation.{sum_of, numbers_below}
use Rattle.lie_math.specs.Limits.{number_limit, greatest_term_count, absolute}
use Rattle.lie_math.specs.Monomial.{Monomial, degree}
use Rattle.lie_math.specs.Polynomial.{terms, WholePolynomial, coefficient, ◌*ᴾ◌}
use Rattle.lie_math.specs.PolynomialRing.{*ᴾ_comm}
use Rattle.lie_math.proofs.FiniteSum.{entries_of}
use Rattle.lie_math.proofs.Integer.{unsigned_abs_zero}
use Rattle.lie_geometry.specs.Coordinates.{Space}
use Rattle.lie_geometry.specs.FieldNorms.{IsBoundedBy, field_norm_bound, field_bulk_of_step}
use Rattle.lie_geometry.specs.NormLaws.{FieldCoefficientsAreBounded, BoundedPolynomialIsWithinLimits}
use Rattle.lie_geometry.specs.Norms.{norm}
use Rattle.lie_geometry.specs.Prolongation.{indices, jet_variable, total_derivative, counts_of_indices, prolonged_coefficient}
use Rattle.lie_geometry.proofs.Booleans.{and_left, and_right}
use Rattle.lie_geometry.proofs.Derivations.{total_is_derivation}
use Rattle.lie_geometry.proofs.Indices.{all_below, below_indices}
use Rattle.lie_geometry.proofs.NormLaws.{weighted_once, number_bound, term_bound, exponent_at_most, length_indices_from}
use Rattle.lie_geometry.proofs.SymbolicNorms.{total_simple}
use Rattle.lie_geometry.proofs.WeightedNorms.{le_trans, le_same, le_sum, le_times, times_le, total, weighted_term, weighted, weighted-plus, weighted-none, weighted_at_most, weighted-variable_times, weighted_negative, weighted_absolute, weighted_derived, Rises}

-- every weight that does not fall counts at most b times its value at n
abbrev pub CountsAtMost : ℕ → ℕ → WholePolynomial → Type 0
CountsAtMost b n p = (w : ℕ → ℕ) → Rises w → weighted w p ≤ b * w n

rises_to : (w : ℕ → ℕ) → Rises w → (m n : ℕ) → m ≤ n → w m ≤ w n
rises_to w rises m n h = subst (λ k. w m ≤ w k) (back m n h) (go (n - m))
  where
    back : (m n : ℕ) → m ≤ n → (n - m) + m ≡ n
    back m n h = omega arith

    go : (d : ℕ) → w m ≤ w (d + m)
    go zero = le_same _ _ (ap w (let e : m ≡ 0 + m = omega arith in e))
    go (suc d) = le_trans _ _ _ (go d) (le_trans _ _ _ (rises (d + m)) (le_same _ _ (ap w (let e : suc (d + m) ≡ suc d + m = omega arith in e))))

counts_of_bounded : (b n : ℕ) (p : WholePolynomial) → IsBoundedBy b n p → CountsAtMost b n p
counts_of_bounded b n p h w rises = le_trans _ _ _ (go p.list (entries_of terms p (λ (e : Monomial × ℤ). degree e.0 ≤ n) (λ e is apart. h.degrees e.0 (λ z. apart (sym is ∙ z))))) (times_le (w n) (norm p) b h.norm)
  where
    go : (es : List (Monomial × ℤ)) → Every (λ (e : Monomial × ℤ). degree e.0 ≤ n) es → total (weighted_term w) es ≤ total (λ (m : Monomial) a. unsigned_abs a) es * w n
    go [] k = omega arith
    go (e ∷ es) k = le_trans _ _ _ (le_sum _ _ _ _ (le_times (unsigned_abs e.1) _ _ (rises_to w rises (degree e.0) n k.0)) (go es k.1)) (le_same _ _ (spread (unsigned_abs e.1) _ (w n)))
      where
        spread : (a s y : ℕ) → a * y + s * y ≡ (a + s) * y
        spread a s y = omega arith

bounded_of_counts : (b n : ℕ) (p : WholePolynomial) → CountsAtMost b n p → IsBoundedBy b n p
bounded_of_counts b n p h = record {
  norm = le_trans _ _ _ (le_same _ _ (sym (weighted_once p))) (le_trans _ _ _ (h (λ k. 1) (λ k. le_same 1 1 refl)) (le_same _ _ (one b)));
  degrees = λ m apart. low (degree m) (product (unsigned_abs (coefficient p m)) _ (λ z. apart (unsigned_abs_zero _ z)) (le_trans _ _ _ (weighted_at_most (λ k. k - n) p m) (le_trans _ _ _ (h (λ k. k - n) (λ k. past k)) (le_same _ _ (none b)))));
}
  where
    one : (b : ℕ) → b * 1 ≡ b
    one b = omega arith

    past : (k : ℕ) → k - n ≤ suc k - n
    past k = omega arith

    none : (b : ℕ) → b * (n - n) ≡ 0
    none b = let e : n - n ≡ 0 = omega arith in ap (λ z. b * z) e ∙ zero_times b
      where
        zero_times : (b : ℕ) → b * 0 ≡ 0
        zero_times b = omega arith

    product : (a b : ℕ) → ¬ (a ≡ 0) → a * b ≤ 0 → b ≡ 0
    product zero b f g = absurd (f refl)
    product (suc a) b f g = omega arith

    low : (k : ℕ) → k - n ≡ 0 → k ≤ n
    low k e = omega arith

-- the absolute values are bounded alike
pub absolute_is_bounded : (b n : ℕ) (p : WholePolynomial) → IsBoundedBy b n p → IsBoundedBy b n (absolute p)
absolute_is_bounded b n p h = bounded_of_counts b n (absolute p) (λ w rises. le_trans _ _ _ (weighted_absolute w p) (counts_of_bounded b n p h w rises))

pub bounded_polynomial_is_within_limits : BoundedPolynomialIsWithinLimits
bounded_polynomial_is_within_limits b n p few low h = record {
  coefficients = λ m. fits _ (le_trans _ _ _ (number_bound p m) norms);
  exponents = λ m apart v. le_trans _ _ _ (exponent_at_most m v) (le_trans _ _ _ (h.degrees m apart) low);
  terms = le_trans _ _ _ (term_bound p) norms;
}
  where
    norms : norm p ≤ greatest_term_count
    norms = le_trans _ _ _ h.norm few

    fits : (a : ℕ) → a ≤ greatest_term_count → a < number_limit
    fits a f = let l : greatest_term_count < number_limit = lit< tt in omega arith

sums_at_most : (w : ℕ → ℕ) (f : ℕ → WholePolynomial) (c n : ℕ) → ((i : ℕ) → weighted w (f i) ≤ c) → weighted w (sum_of (numbers_below n) f) ≤ n * c
sums_at_most w f c zero h = le_same _ _ (weighted-none w ∙ none c)
  where
    none : (c : ℕ) → 0 ≡ 0 * c
    none c = omega arith
sums_at_most w f c (suc n) h = le_trans _ _ _ (weighted-plus w (f n) (sum_of (numbers_below n) f)) (next _ _ c n (h n) (sums_at_most w f c n h))
  where
    next : (a b c n : ℕ) → a ≤ c → b ≤ n * c → a + b ≤ suc n * c
    next a b c n h k = omega arith

times_rises : (w : ℕ → ℕ) → Rises w → Rises (λ n. n * w n)
times_rises w rises n = le_trans _ _ _ (le_times n _ _ (rises n)) (more n (w (suc n)))
  where
    more : (n x : ℕ) → n * x ≤ suc n * x
    more n x = omega arith

module _ (S : Space) (some_p : 0 < S.p) (some_q : 0 < S.q) (M D : ℕ) where
  total_counts : (k : ℕ) → k < S.p → (b n : ℕ) (p : WholePolynomial) → CountsAtMost b n p → (w : ℕ → ℕ) → Rises w → weighted w (total_derivative S k p) ≤ b * (n * w n)
  total_counts k f b n p h w rises = le_trans _ _ _ (weighted_derived (total_is_derivation S k) (total_simple S some_p some_q k f) w rises p) (h (λ n. n * w n) (times_rises w rises))

  -- total derivatives of what counts as the components do, times jets
  multiples_count : (V : ℕ → WholePolynomial) → ((s : ℕ) → CountsAtMost M D (V s)) → (k : ℕ) → k < S.p → (a : ℕ) (J : List ℕ) (w : ℕ → ℕ) → Rises w →
      weighted w (sum_of (numbers_below S.p) (λ i. total_derivative S k (V i) *ᴾ jet_variable S a (raise i J))) ≤ S.p * (M * (D * w (suc D)))
  multiples_count V h k f a J w rises = sums_at_most w _ (M * (D * w (suc D))) S.p (λ i.
      le_trans _ _ _ (le_same _ _ (ap (weighted w) (*ᴾ_comm (total_derivative S k (V i)) (jet_variable S a (raise i J)))))
      (le_trans _ _ _ (weighted-variable_times w _ (total_derivative S k (V i))) (total_counts k f M D (V i) (h i) (λ n. w (suc n)) (λ n. rises (suc n)))))

  step_count : (b p x y z : ℕ) → x ≤ b * (suc D * z) → y ≤ p * (M * (D * z)) → x + y ≤ (suc D * b + p * (D * M)) * z
  step_count b p x y z h k = le_trans _ _ _ (le_sum _ _ _ _ h k) (le_same _ _ (gathered D b p M z))
    where
      gathered : (D b p M z : ℕ) → b * (suc D * z) + p * (M * (D * z)) ≡ (suc D * b + p * (D * M)) * z
      gathered D b p M z = omega arith

  module _ (V : ℕ → WholePolynomial) (h : (s : ℕ) → CountsAtMost M D (V s)) where
    coefficient_counts : (a : ℕ) (W : List ℕ) → all_below S.p W ≡ true → CountsAtMost (field_norm_bound S M D (length W)) (suc D) (prolonged_coefficient S V a W)
    unfolding prolonged_coefficient
    coefficient_counts a [] g w rises = le_trans _ _ _ (h (S.p + a) w rises) (le_times M _ _ (rises D))
    coefficient_counts a (k ∷ W) g w rises =
        let f : k < S.p = ltb-true k S.p (and_left (ltb k S.p) (all_below S.p W) g) in
        let r : all_below S.p W ≡ true = and_right (ltb k S.p) (all_below S.p W) g in
        le_trans _ _ _ (weighted-plus w _ _)
        (step_count (field_norm_bound S M D (length W)) S.p _ _ (w (suc D)) (total_counts k f (field_norm_bound S M D (length W)) (suc D) (prolonged_coefficient S V a W) (coefficient_counts a W r) w rises)
        (le_trans _ _ _ (weighted_negative w (sum_of (numbers_below S.p) (λ i. total_derivative S k (V i) *ᴾ jet_variable S a (raise i (counts_of_indices S W))))) (multiples_count V h k f a (counts_of_indices S W) w rises)))

    bulk_counts : (a k : ℕ) (W : List ℕ) → all_below S.p (k ∷ W) ≡ true → CountsAtMost (field_norm_bound S M D (suc (length W))) (suc D) (field_bulk_of_step S V a k W)
    bulk_counts a k W g w rises =
        let f : k < S.p = ltb-true k S.p (and_left (ltb k S.p) (all_below S.p W) g) in
        let r : all_below S.p W ≡ true = and_right (ltb k S.p) (all_below S.p W) g in
        le_trans _ _ _ (weighted-plus w _ _)
        (step_count (field_norm_bound S M D (length W)) S.p _ _ (w (suc D))
        (total_counts k f (field_norm_bound S M D (length W)) (suc D) (absolute (prolonged_coefficient S V a W)) (λ x up. le_trans _ _ _ (weighted_absolute x (prolonged_coefficient S V a W)) (coefficient_counts a W r x up)) w rises)
        (multiples_count (λ i. absolute (V i)) (λ i x up. le_trans _ _ _ (weighted_absolute x (V i)) (h i x up)) k f a (counts_of_indices S W) w rises))

pub field_coefficients_are_bounded : FieldCoefficientsAreBounded
field_coefficients_are_bounded S s M D V h a J g = (
  subst (λ k. IsBoundedBy (field_norm_bound S M D k) (suc D) (prolonged_coefficient S V a (indices J))) (length_indices_from 0 J)
      (bounded_of_counts _ (suc D) _ (coefficient_counts S s.0 s.1 M D V (λ i. counts_of_bounded M D (V i) (h i)) a (indices J) (below_indices S.p J g))),
  λ k W e. subst (λ n. IsBoundedBy (field_norm_bound S M D n) (suc D) (field_bulk_of_step S V a k W)) (ap length (sym e) ∙ length_indices_from 0 J)
      (bounded_of_counts _ (suc D) _ (bulk_counts S s.0 s.1 M D V (λ i. counts_of_bounded M D (V i) (h i)) a k W (ap (all_below S.p) (sym e) ∙ below_indices S.p J g))),
)
