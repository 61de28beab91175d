-- The numbers of integrals: fractions in lowest terms, the number that makes them whole, and what they are times that.
use Rattle.std.specs.Prelude.{◌≡◌, ℕ, zero, suc, ◌+◌, ◌-◌, ◌*◌, ◌<◌, ◌≤◌, ◌↔◌, List, [], ◌∷◌, ◌++◌, length, take, get_or, ℤ, pos, negsuc}
use Rattle.std.specs.Prelude.{neg_ℤ, ◌*ℤ◌, unsigned_abs}
use Rattle.std.specs.Int.{◌∣◌}
use Rattle.std.specs.List.{AllByRecursion as Every}
use Rattle.std.proofs.Common.{refl, sym, ap, subst, ◌∙◌, arith}
use borrow.Author.Differences.{ints}
use Rattle.std.proofs.lemmas.Int.{unsigned_abs-mul}
use Rattle.std.proofs.lemmas.Nat.Gcd.{dvd_trans, dvd_refl, le_of_dvd}
use Rattle.std.proofs.Math.Nat.{dvd-mul_right, mul-dvd-mul_left}
use Rattle.lie_math.specs.Integer.{*ℤ-idl}
use Rattle.lie_math.specs.Limits.{number_limit, FitsNumber}
use Rattle.lie_math.specs.Monomial.{Monomial, exponent}
use Rattle.lie_math.proofs.EveryElement.{every-append, every-front, every-back}
use Rattle.lie_math.proofs.ExactQuotients.{quotient_back}
use Rattle.lie_math.proofs.Integer.{cancel_ℤ, product_not_zero, not_zero}
use Rattle.lie_systems.specs.Normalised.{sign}
use Rattle.lie_systems.specs.Triples.{Triple}
use Rattle.lie_steps.specs.Integrate.{rising, divisor, IsLeastDenominator}
use Rattle.lie_steps.proofs.Denominators.{divisor_positive}
use Rattle.lie_steps.proofs.SolvedForms.{size_positive}
use Rattle.lie_ring.proofs.Fronts.{take_more, all_taken}
use Rattle.lie_jet.specs.Derivatives.{derivative_of}
use Rattle.lie_jet.specs.declared.derivative.Der.{Der}
use Rattle.lie_lin.specs.Forms.{triples_of}
use Rattle.lie_lin.proofs.Forms.{triples_of-append}
use Rattle.lie_integral.specs.Fractions.{IsPositive, IsFraction, NoneClears}
use Rattle.lie_integral.specs.declared.fractions.Fraction.{Fraction}
use Rattle.lie_integral.specs.Integrals.{integrated_term, ClearsTerm, IsDenominator, IsWide}
use Rattle.lie_integral.proofs.LowestFractions.{clears_forth, clears_back}
use Rattle.lie_integral.proofs.WholeIdentities.{divisor_times_multiple}

-- ---- signs
pub sign_times : (c : ℤ) → sign c *ℤ pos (unsigned_abs c) ≡ c
sign_times (pos n) = *ℤ-idl (pos n)
sign_times (negsuc n) = omega (arith, ints)

pub sign_twice : (c : ℤ) → sign c *ℤ sign c ≡ pos 1
sign_twice (pos n) = refl
sign_twice (negsuc n) = refl

pub minus_sign_size : (c : ℤ) → unsigned_abs (neg_ℤ (sign c)) ≡ 1
minus_sign_size (pos n) = refl
minus_sign_size (negsuc n) = refl

-- a number times minus the sign of c
pub turned_size : (c a : ℤ) → unsigned_abs (neg_ℤ (sign c) *ℤ a) ≡ unsigned_abs a
turned_size c a = unsigned_abs-mul (neg_ℤ (sign c)) a ∙ ap (λ n. n * unsigned_abs a) (minus_sign_size c) ∙ plain (unsigned_abs a)
  where
    plain : (n : ℕ) → 1 * n ≡ n
    plain n = omega arith

-- ---- products of numbers that follow each other
pub rising_divides : (m j i : ℕ) → rising m j ∣ rising m (i + j)
rising_divides m j i = go i (i + j) refl
  where
    go : (i k : ℕ) → k ≡ i + j → rising m j ∣ rising m k
    go zero k e = subst (λ n. rising m j ∣ rising m n) (let h : j ≡ k = omega arith in h) (dvd_refl (rising m j))
    go (suc i) zero e = absurd (omega arith)
    go (suc i) (suc k) e = dvd_trans (rising m j) (go i k (omega arith)) (dvd-mul_right (rising m k) (m + suc k))

-- with more factors the fraction is not made whole by less
pub none_clears_rising : (c m j k a : ℕ) → j ≤ k → NoneClears (c * rising m j) a → NoneClears (c * rising m k) a
none_clears_rising c m j k a le h M p d =
    h M p (dvd_trans (c * rising m j)
    (mul-dvd-mul_left (rising m j) c (subst (λ i. rising m j ∣ rising m i) (back j k le) (rising_divides m j (k - j)))) d)
  where
    back : (j k : ℕ) → j ≤ k → k - j + j ≡ k
    back j k le = omega arith

pub rising_more : (c m j : ℕ) → c * rising m j * (m + j + 1) ≡ c * rising m (j + 1)
rising_more c m j = moved c (rising m j) (m + j + 1) ∙ ap (λ n. c * n) (ap (λ n. rising m j * n) (next m j) ∙ ap (rising m) (later j))
  where
    moved : (a b d : ℕ) → a * b * d ≡ a * (b * d)
    moved a b d = grind arith

    next : (m j : ℕ) → m + j + 1 ≡ m + suc j
    next m j = omega arith

    later : (j : ℕ) → suc j ≡ j + 1
    later j = omega arith

-- ---- what makes the integral of a number whole
module _ (c : ℤ) (v k : ℕ) where
  -- the divisor of the number before a power with the exponent m
  abbrev pub D : ℕ → ℕ
  D m = unsigned_abs c * rising m k

  clears_size : (m M : ℕ) (a : ℤ) → (D m ∣ M * unsigned_abs a) ↔ (unsigned_abs (c *ℤ pos (rising m k)) ∣ unsigned_abs (pos M *ℤ a))
  clears_size m M a = (
    λ h. subst (λ n. n ∣ unsigned_abs (pos M *ℤ a)) (sym (unsigned_abs-mul c (pos (rising m k))))
        (subst (λ n. D m ∣ n) (sym (unsigned_abs-mul (pos M) a)) h),
    λ h. subst (λ n. D m ∣ n) (unsigned_abs-mul (pos M) a)
        (subst (λ n. n ∣ unsigned_abs (pos M *ℤ a)) (unsigned_abs-mul c (pos (rising m k))) h),
  )

  module _ (apart : ¬ (c ≡ pos 0)) where
    -- ---- the least denominator of one triple more
    module _ (ts : List Triple) (L : ℤ) (h : IsDenominator c v k ts L) (t : Triple) where
      -- none within the limit makes the integral of the triple whole
      pub wide_triple : NoneClears (D (exponent t.1 v)) (unsigned_abs t.2) → IsWide c v k (ts ++ t ∷ [])
      wide_triple none M p clears = none M p
          ((clears_size (exponent t.1 v) M t.2).1
          ((every-back (λ (u : Triple). unsigned_abs (divisor c v k u) ∣ unsigned_abs (pos M *ℤ u.2)) ts (t ∷ []) clears).0))

      module _ (r : Fraction) (f : IsFraction (neg_ℤ (sign c) *ℤ t.2) (D (exponent t.1 v)) r) where
        triple_forth : (M : ℕ) → unsigned_abs (divisor c v k t) ∣ unsigned_abs (pos M *ℤ t.2) → unsigned_abs r.divisor ∣ M
        triple_forth M clears = clears_forth (neg_ℤ (sign c) *ℤ t.2) (D (exponent t.1 v)) r.number (unsigned_abs r.divisor) f.1 M
            (subst (λ n. D (exponent t.1 v) ∣ M * n) (sym (turned_size c t.2)) ((clears_size (exponent t.1 v) M t.2).1 clears))

        triple_back : (M : ℕ) → unsigned_abs r.divisor ∣ M → unsigned_abs (divisor c v k t) ∣ unsigned_abs (pos M *ℤ t.2)
        triple_back M d = (clears_size (exponent t.1 v) M t.2).0
            (subst (λ n. D (exponent t.1 v) ∣ M * n) (turned_size c t.2)
            (clears_back (neg_ℤ (sign c) *ℤ t.2) (D (exponent t.1 v)) r.number (unsigned_abs r.divisor) f.1 M d))

        pub wide_multiple : ((M : ℕ) → 0 < M → unsigned_abs L ∣ M → unsigned_abs r.divisor ∣ M → number_limit ≤ M)
            → IsWide c v k (ts ++ t ∷ [])
        wide_multiple none M p clears = none M p
            ((h.multiples M).0 (every-front (λ (u : Triple). unsigned_abs (divisor c v k u) ∣ unsigned_abs (pos M *ℤ u.2)) ts
            (t ∷ []) clears))
            (triple_forth M ((every-back (λ (u : Triple). unsigned_abs (divisor c v k u) ∣ unsigned_abs (pos M *ℤ u.2)) ts
            (t ∷ []) clears).0))

        pub denominator_more : (m : ℤ) → IsPositive m
            → ((M : ℕ) → ((unsigned_abs L ∣ M) × (unsigned_abs r.divisor ∣ M)) ↔ (unsigned_abs m ∣ M))
            → IsDenominator c v k (ts ++ t ∷ []) m
        denominator_more m p both = record {
          positive = p;
          multiples = λ M. (
            λ clears. (both M).0 (
              (h.multiples M).0 (every-front (λ (u : Triple). unsigned_abs (divisor c v k u) ∣ unsigned_abs (pos M *ℤ u.2)) ts
                  (t ∷ []) clears),
              triple_forth M ((every-back (λ (u : Triple). unsigned_abs (divisor c v k u) ∣ unsigned_abs (pos M *ℤ u.2)) ts
                  (t ∷ []) clears).0),
            ),
            λ d. every-append (λ (u : Triple). unsigned_abs (divisor c v k u) ∣ unsigned_abs (pos M *ℤ u.2)) ts (t ∷ [])
                ((h.multiples M).1 (((both M).1 d).0)) (triple_back M (((both M).1 d).1), tt),
          );
        }

    -- ---- the number of the integral, made whole
    module _ (L : ℤ) (p : IsPositive L) (e : Monomial × ℤ) (clears : ClearsTerm c v k (unsigned_abs L) e) where
      -- a number within the limit makes it whole
      pub not_none : FitsNumber L → ¬ (NoneClears (D (exponent e.0 v)) (unsigned_abs e.1))
      not_none fits none = let k : number_limit ≤ unsigned_abs L =
          none (unsigned_abs L) p.1 ((clears_size (exponent e.0 v) (unsigned_abs L) e.1).1 clears) in omega arith

      pub term_divides : (r : Fraction) → IsFraction (neg_ℤ (sign c) *ℤ e.1) (D (exponent e.0 v)) r
          → unsigned_abs r.divisor ∣ unsigned_abs L
      term_divides r f = clears_forth (neg_ℤ (sign c) *ℤ e.1) (D (exponent e.0 v)) r.number (unsigned_abs r.divisor) f.1 (unsigned_abs L)
          (subst (λ n. D (exponent e.0 v) ∣ unsigned_abs L * n) (sym (turned_size c e.1))
          ((clears_size (exponent e.0 v) (unsigned_abs L) e.1).1 clears))

      divisor_apart : ¬ (c *ℤ pos (rising (exponent e.0 v) k) ≡ pos 0)
      divisor_apart z = absurd (let q : 0 < unsigned_abs (c *ℤ pos (rising (exponent e.0 v) k)) =
          divisor_positive c apart v k (record { unknown = 0; counts = [] }, e.0, e.1) in let n : unsigned_abs
          (c *ℤ pos (rising (exponent e.0 v) k)) ≡ 0 = ap unsigned_abs z in omega arith)

      -- the divisor times it
      pub integrated_back : (c *ℤ pos (rising (exponent e.0 v) k)) *ℤ (integrated_term c v k (unsigned_abs L) e).1 ≡ neg_ℤ
          (pos (unsigned_abs L) *ℤ e.1)
      integrated_back = quotient_back (neg_ℤ (pos (unsigned_abs L) *ℤ e.1)) (c *ℤ pos (rising (exponent e.0 v) k)) _
          (subst (λ n. unsigned_abs (c *ℤ pos (rising (exponent e.0 v) k)) ∣ n) (sym (size_neg (pos (unsigned_abs L) *ℤ e.1))) clears) refl
        where
          size_neg : (z : ℤ) → unsigned_abs (neg_ℤ z) ≡ unsigned_abs z
          size_neg (pos zero) = refl
          size_neg (pos (suc n)) = refl
          size_neg (negsuc n) = refl

      pub integrated_is : (r : Fraction) (m : ℤ) → IsFraction (neg_ℤ (sign c) *ℤ e.1) (D (exponent e.0 v)) r → r.divisor *ℤ m ≡ L
          → r.number *ℤ m ≡ (integrated_term c v k (unsigned_abs L) e).1
      integrated_is r m f whole =
          cancel_ℤ (c *ℤ pos (rising (exponent e.0 v) k)) _ _ divisor_apart
          (divisor_times_multiple c (sign c) (pos (unsigned_abs c)) (pos (rising (exponent e.0 v) k)) r.number m e.1
          (pos (unsigned_abs r.divisor)) (pos (unsigned_abs L)) (sign_times c) (sign_twice c) (f.1).same
          (ap (λ y. y *ℤ m) (sym (f.0).0) ∙ whole ∙ p.0)
          ∙ sym integrated_back)

      -- it is not 0
      pub integrated_apart : ¬ (e.1 ≡ pos 0) → ¬ ((integrated_term c v k (unsigned_abs L) e).1 ≡ pos 0)
      integrated_apart n z = product_not_zero (pos (unsigned_abs L)) e.1 (not_zero (unsigned_abs L) p.1) n
          (from_neg (pos (unsigned_abs L) *ℤ e.1)
          (sym integrated_back ∙ ap (λ x. (c *ℤ pos (rising (exponent e.0 v) k)) *ℤ x) z
          ∙ lib.IntN.*ℤ-zero (c *ℤ pos (rising (exponent e.0 v) k))))
        where
          from_neg : (z : ℤ) → neg_ℤ z ≡ pos 0 → z ≡ pos 0
          from_neg (pos zero) e = refl
          from_neg (pos (suc n)) e = absurd (omega (arith, ints))
          from_neg (negsuc n) e = absurd (omega (arith, ints))

-- ---- the least denominator
pub least_of : (c : ℤ) (v k : ℕ) (ts : List Triple) (L : ℤ) → IsDenominator c v k ts L → IsLeastDenominator c v k ts (unsigned_abs L)
least_of c v k ts L h = record {
  positive = (h.positive).1;
  clears = (h.multiples (unsigned_abs L)).1 (dvd_refl (unsigned_abs L));
  least = λ M p clears. le_of_dvd p ((h.multiples M).0 clears);
}

pub nothing_cleared : (c : ℤ) (v k : ℕ) → IsDenominator c v k [] (pos 1)
nothing_cleared c v k = record { positive = (refl, omega arith); multiples = λ M. (λ _. Rattle.std.proofs.Math.Nat.one-dvd M, λ _. tt) }

-- ---- the fraction, factor by factor
module _ (c a : ℤ) (m : ℕ) where
  pub start_none : (t b : ℤ) (k : ℕ) → t ≡ neg_ℤ (sign c) *ℤ a → b ≡ pos (unsigned_abs c) → NoneClears (1 * unsigned_abs b) (unsigned_abs t)
      → NoneClears (unsigned_abs c * rising m k) (unsigned_abs a)
  start_none t b k e f h =
      none_clears_rising (unsigned_abs c) m 0 k (unsigned_abs a) (omega arith)
      (subst (λ n. NoneClears n (unsigned_abs a)) (one (unsigned_abs b) ∙ ap (λ n. n * 1) (ap unsigned_abs f))
      (subst (NoneClears (1 * unsigned_abs b)) (ap unsigned_abs e ∙ turned_size c a) h))
    where
      one : (n : ℕ) → 1 * n ≡ n * 1
      one n = omega arith

  pub start_fraction : (t b : ℤ) (r : Fraction) → t ≡ neg_ℤ (sign c) *ℤ a → b ≡ pos (unsigned_abs c) → IsFraction t (1 * unsigned_abs b) r
      → IsFraction (neg_ℤ (sign c) *ℤ a) (unsigned_abs c * rising m 0) r
  start_fraction t b r e f h = subst (λ n. IsFraction (neg_ℤ (sign c) *ℤ a) n r)
      (one (unsigned_abs b) ∙ ap (λ n. n * 1) (ap unsigned_abs f)) (subst (λ z. IsFraction z (1 * unsigned_abs b) r) e h)
    where
      one : (n : ℕ) → 1 * n ≡ n * 1
      one n = omega arith

  factor_size : (f : ℤ) (j : ℕ) → f ≡ pos (m + j + 1) → unsigned_abs c * rising m j * unsigned_abs f ≡ unsigned_abs c * rising m (j + 1)
  factor_size f j e = ap (λ n. unsigned_abs c * rising m j * n) (ap unsigned_abs e) ∙ rising_more (unsigned_abs c) m j

  pub step_none : (f : ℤ) (j k : ℕ) → f ≡ pos (m + j + 1) → j < k
      → NoneClears (unsigned_abs c * rising m j * unsigned_abs f) (unsigned_abs (neg_ℤ (sign c) *ℤ a))
      → NoneClears (unsigned_abs c * rising m k) (unsigned_abs a)
  step_none f j k e lt h =
      none_clears_rising (unsigned_abs c) m (j + 1) k (unsigned_abs a) (omega arith)
      (subst (λ n. NoneClears n (unsigned_abs a)) (factor_size f j e)
      (subst (NoneClears (unsigned_abs c * rising m j * unsigned_abs f)) (turned_size c a) h))

  pub step_fraction : (f : ℤ) (j : ℕ) (r : Fraction) → f ≡ pos (m + j + 1)
      → IsFraction (neg_ℤ (sign c) *ℤ a) (unsigned_abs c * rising m j * unsigned_abs f) r
      → IsFraction (neg_ℤ (sign c) *ℤ a) (unsigned_abs c * rising m (j + 1)) r
  step_fraction f j r e h = subst (λ n. IsFraction (neg_ℤ (sign c) *ℤ a) n r) (factor_size f j e) h

pub whole_positive : (z : ℤ) → ¬ (z ≡ pos 0) → (b : ℤ) → b ≡ pos (unsigned_abs z) → IsPositive b
whole_positive z n b e = subst IsPositive (sym e) (refl, size_positive z n)

-- ---- triples one after the other
triples_front : (P : Triple → Type 0) (list : List (Der × Monomial × ℤ)) (i : ℕ) → Every P (triples_of list)
    → Every P (triples_of (take i list))
triples_front P [] zero h = tt
triples_front P [] (suc i) h = tt
triples_front P (t ∷ list) zero h = tt
triples_front P (t ∷ list) (suc i) h = (h.0, triples_front P list i h.1)

pub triples_next : (list : List (Der × Monomial × ℤ)) (i : ℕ) (t : Der × Monomial × ℤ) → i < length list → t ≡ get_or list i t
    → triples_of (take i list) ++ (derivative_of t.0, t.1, t.2) ∷ [] ≡ triples_of (take (i + 1) list)
triples_next list i t h is = sym (triples_of-append (take i list) (t ∷ [])) ∙ ap triples_of (take_more list i t h is)

-- what the first triples need, all of them need
pub wide_front : (c : ℤ) (v k : ℕ) (list : List (Der × Monomial × ℤ)) (i : ℕ) (t : Der × Monomial × ℤ) → i < length list
    → t ≡ get_or list i t → IsWide c v k (triples_of (take i list) ++ (derivative_of t.0, t.1, t.2) ∷ []) → IsWide c v k (triples_of list)
wide_front c v k list i t h is wide M p clears =
    wide M p (subst (Every (λ (u : Triple). unsigned_abs (divisor c v k u) ∣ unsigned_abs (pos M *ℤ u.2)))
    (sym (triples_next list i t h is))
    (triples_front (λ (u : Triple). unsigned_abs (divisor c v k u) ∣ unsigned_abs (pos M *ℤ u.2)) list (i + 1) clears))

pub denominator_next : (c : ℤ) (v k : ℕ) (list : List (Der × Monomial × ℤ)) (i : ℕ) (t : Der × Monomial × ℤ) (m : ℤ) → i < length list
    → t ≡ get_or list i t → IsDenominator c v k (triples_of (take i list) ++ (derivative_of t.0, t.1, t.2) ∷ []) m
    → IsDenominator c v k (triples_of (take (i + 1) list)) m
denominator_next c v k list i t m h is d = subst (λ ts. IsDenominator c v k ts m) (triples_next list i t h is) d

pub denominator_all : (c : ℤ) (v k : ℕ) (list : List (Der × Monomial × ℤ)) (i : ℕ) (m : ℤ) → length list ≤ i
    → IsDenominator c v k (triples_of (take i list)) m → IsDenominator c v k (triples_of list) m
denominator_all c v k list i m h d = subst (λ xs. IsDenominator c v k (triples_of xs) m) (all_taken list i h) d

pub denominator_start : (c : ℤ) (v k : ℕ) (d : ℤ) → d ≡ pos 1 → IsDenominator c v k [] d
denominator_start c v k d e = subst (IsDenominator c v k []) (sym e) (nothing_cleared c v k)

-- ---- an exponent as it is kept
pub fraction_at : (c a : ℤ) (k m n : ℕ) (r : Fraction) → m ≡ n → IsFraction (neg_ℤ (sign c) *ℤ a) (unsigned_abs c * rising m k) r
    → IsFraction (neg_ℤ (sign c) *ℤ a) (unsigned_abs c * rising n k) r
fraction_at c a k m n r e f = subst (λ i. IsFraction (neg_ℤ (sign c) *ℤ a) (unsigned_abs c * rising i k) r) e f

pub none_at : (c a : ℤ) (k m n : ℕ) → m ≡ n → NoneClears (unsigned_abs c * rising m k) (unsigned_abs a)
    → NoneClears (unsigned_abs c * rising n k) (unsigned_abs a)
none_at c a k m n e h = subst (λ i. NoneClears (unsigned_abs c * rising i k) (unsigned_abs a)) e h
