-- The laws of counts: one more derivative, zeros at the end, and the order of derivatives.
use Rattle.std.specs.Fn.{iterate}
use Rattle.std.specs.Prelude.{◌≡◌, ℕ, zero, suc, ◌+◌, Bool, true, false, cond, eqb, List, [], ◌∷◌, length, replicate}
use Rattle.std.proofs.Common.{refl, sym, ap, ap₂, ◌∙◌, arith, Less, Greater, eqb-true}
use Rattle.std.proofs.Math.Dec.{eqb-suc-zero}
use Rattle.std.specs.Cmp.{nat_cmp_is}
use Rattle.std.specs.Ordering.{nat_cmp, ordering_then}
use Rattle.std.specs.Cmp.Lexicographic.{slice_cmp}
use Rattle.lie_math.specs.Counts.{derivative_cmp, order, raise, before_counts, trimmed, partials_from, partials}
use Rattle.lie_math.specs.PartialDerivative.{partial}
use Rattle.lie_math.specs.Polynomial.{WholePolynomial}
use Rattle.lie_math.proofs.PartialDerivative.{partial_commutes}

pub raise_comm : (i k : ℕ) (J : List ℕ) → raise i (raise k J) ≡ raise k (raise i J)
raise_comm zero zero [] = refl
raise_comm zero (suc k) [] = refl
raise_comm (suc i) zero [] = refl
raise_comm (suc i) (suc k) [] = ap (λ z. 0 ∷ z) (raise_comm i k [])
raise_comm zero zero (c ∷ J) = refl
raise_comm zero (suc k) (c ∷ J) = refl
raise_comm (suc i) zero (c ∷ J) = refl
raise_comm (suc i) (suc k) (c ∷ J) = ap (λ z. c ∷ z) (raise_comm i k J)

abbrev pub partial_times : ℕ → ℕ → WholePolynomial → WholePolynomial
partial_times c i p = iterate (partial i) c p

partial_times_comm : (c i k : ℕ) (p : WholePolynomial) → partial_times c i (partial k p) ≡ partial k (partial_times c i p)
partial_times_comm zero i k p = refl
partial_times_comm (suc c) i k p = ap (partial_times c i) (partial_commutes i k p) ∙ partial_times_comm c i k (partial i p)

partials_from_raise : (k i : ℕ) (J : List ℕ) (p : WholePolynomial) → partials_from k (raise i J) p ≡ partial (k + i) (partials_from k J p)
partials_from_raise k zero [] p = ap (λ n. partial n p) (plain k)
  where
    plain : (k : ℕ) → k ≡ k + 0
    plain k = omega arith
partials_from_raise k (suc i) [] p = partials_from_raise (suc k) i [] p ∙ ap (λ n. partial n p) (moved k i)
  where
    moved : (k i : ℕ) → suc k + i ≡ k + suc i
    moved k i = omega arith
partials_from_raise k zero (c ∷ J) p = partial_times_comm c k k (partials_from (suc k) J p) ∙ ap (λ n. partial n (partials_from k (c ∷ J) p)) (plain k)
  where
    plain : (k : ℕ) → k ≡ k + 0
    plain k = omega arith
partials_from_raise k (suc i) (c ∷ J) p =
    ap (partial_times c k) (partials_from_raise (suc k) i J p) ∙ partial_times_comm c k (suc k + i) (partials_from (suc k) J p) ∙ ap (λ n. partial n (partials_from k (c ∷ J) p)) (moved k i)
  where
    moved : (k i : ℕ) → suc k + i ≡ k + suc i
    moved k i = omega arith

-- one more derivative is the derivative of the derivative
pub partials_raise : (i : ℕ) (J : List ℕ) (p : WholePolynomial) → partials (raise i J) p ≡ partial i (partials J p)
partials_raise i J p = partials_from_raise 0 i J p ∙ ap (λ n. partial n (partials_from 0 J p)) (plain i)
  where
    plain : (i : ℕ) → 0 + i ≡ i
    plain i = omega arith

pub partials_none : (p : WholePolynomial) → partials [] p ≡ p
partials_none p = refl

-- one more derivative has one more order
pub order_raise : (i : ℕ) (J : List ℕ) → order (raise i J) ≡ suc (order J)
order_raise zero [] = refl
order_raise (suc i) [] = ap (λ n. 0 + n) (order_raise i [])
order_raise zero (c ∷ J) = omega arith
order_raise (suc i) (c ∷ J) = ap (λ n. c + n) (order_raise i J) ∙ moved c (order J)
  where
    moved : (a b : ℕ) → a + suc b ≡ suc (a + b)
    moved a b = omega arith

-- ---- zeros at the end
pub order_zeros : (n : ℕ) → order (replicate n 0) ≡ 0
order_zeros zero = refl
order_zeros (suc n) = let h = order_zeros n in omega arith

order_before : (c : ℕ) (J : List ℕ) → order (before_counts c J) ≡ c + order J
order_before c [] = go (eqb c 0) refl
  where
    go : (t : Bool) → eqb c 0 ≡ t → order (cond t [] (c ∷ [])) ≡ c + 0
    go true e = let z : c ≡ 0 = eqb-true c 0 e in omega arith
    go false e = refl
order_before c (d ∷ J) = refl

pub order_trimmed : (J : List ℕ) → order (trimmed J) ≡ order J
order_trimmed [] = refl
order_trimmed (c ∷ J) = order_before c (trimmed J) ∙ ap (λ n. c + n) (order_trimmed J)

before_raise : (i c : ℕ) (J : List ℕ) → before_counts c (raise i J) ≡ raise (suc i) (before_counts c J)
before_raise zero c [] = go (eqb c 0) refl
  where
    go : (t : Bool) → eqb c 0 ≡ t → c ∷ 1 ∷ [] ≡ raise 1 (cond t [] (c ∷ []))
    go true e = ap (λ n. n ∷ 1 ∷ []) (eqb-true c 0 e)
    go false e = refl
before_raise (suc i) c [] = go (eqb c 0) refl
  where
    go : (t : Bool) → eqb c 0 ≡ t → c ∷ 0 ∷ raise i [] ≡ raise (suc (suc i)) (cond t [] (c ∷ []))
    go true e = ap (λ n. n ∷ 0 ∷ raise i []) (eqb-true c 0 e)
    go false e = refl
before_raise zero c (d ∷ J) = refl
before_raise (suc i) c (d ∷ J) = refl

pub before_suc : (c : ℕ) (J : List ℕ) → before_counts (suc c) J ≡ suc c ∷ J
before_suc c [] = ap (λ t. cond t [] (suc c ∷ [])) (eqb-suc-zero c)
before_suc c (d ∷ J) = refl

raise_before : (c : ℕ) (J : List ℕ) → raise zero (before_counts c J) ≡ suc c ∷ J
raise_before c [] = go (eqb c 0) refl
  where
    go : (t : Bool) → eqb c 0 ≡ t → raise zero (cond t [] (c ∷ [])) ≡ suc c ∷ []
    go true e = ap (λ n. suc n ∷ []) (sym (eqb-true c 0 e))
    go false e = refl
raise_before c (d ∷ J) = refl

zeros_raise : (i : ℕ) → trimmed (raise i []) ≡ raise i []
zeros_raise zero = refl
zeros_raise (suc i) = ap (before_counts 0) (zeros_raise i) ∙ before_raise i 0 []

pub trimmed_raise : (i : ℕ) (J : List ℕ) → trimmed (raise i J) ≡ raise i (trimmed J)
trimmed_raise i [] = zeros_raise i
trimmed_raise zero (c ∷ J) = before_suc c (trimmed J) ∙ sym (raise_before c (trimmed J))
trimmed_raise (suc i) (c ∷ J) = ap (before_counts c) (trimmed_raise i J) ∙ before_raise i c (trimmed J)

-- ---- the order of derivatives
pub zero_less : (d : ℕ) → nat_cmp 0 (suc d) ≡ Less
zero_less d = sym (nat_cmp_is 0 (suc d) Less (omega arith))

pub zero_greater : (c : ℕ) → nat_cmp (suc c) 0 ≡ Greater
zero_greater c = sym (nat_cmp_is (suc c) 0 Greater (omega arith))

pub cmp_before : (c d : ℕ) (J K : List ℕ) → slice_cmp nat_cmp (before_counts c J) (before_counts d K) ≡ ordering_then (nat_cmp c d) (slice_cmp nat_cmp J K)
cmp_before zero zero [] [] = refl
cmp_before zero zero [] (k ∷ K) = refl
cmp_before zero zero (j ∷ J) [] = refl
cmp_before zero zero (j ∷ J) (k ∷ K) = refl
cmp_before zero (suc d) [] K = ap (slice_cmp nat_cmp []) (before_suc d K) ∙ sym (ap (λ r. ordering_then r (slice_cmp nat_cmp [] K)) (zero_less d))
cmp_before zero (suc d) (j ∷ J) K = ap (slice_cmp nat_cmp (0 ∷ j ∷ J)) (before_suc d K)
cmp_before (suc c) zero J [] = ap (λ L. slice_cmp nat_cmp L []) (before_suc c J) ∙ sym (ap (λ r. ordering_then r (slice_cmp nat_cmp J [])) (zero_greater c))
cmp_before (suc c) zero J (k ∷ K) = ap (λ L. slice_cmp nat_cmp L (0 ∷ k ∷ K)) (before_suc c J)
cmp_before (suc c) (suc d) J K = ap₂ (slice_cmp nat_cmp) (before_suc c J) (before_suc d K)

-- lists of one length compare as they do without the zeros at the end
pub trimmed_cmp : (J K : List ℕ) → length J ≡ length K → slice_cmp nat_cmp (trimmed J) (trimmed K) ≡ slice_cmp nat_cmp J K
trimmed_cmp [] [] e = refl
trimmed_cmp [] (k ∷ K) e = absurd (omega arith)
trimmed_cmp (j ∷ J) [] e = absurd (omega arith)
trimmed_cmp (j ∷ J) (k ∷ K) e = cmp_before j k (trimmed J) (trimmed K) ∙ ap (ordering_then (nat_cmp j k)) (trimmed_cmp J K (omega arith))

-- derivatives compare by the padded lists of counts as by the trimmed ones
pub derivative_cmp-trimmed : (f g : ℕ) (J K : List ℕ) → length J ≡ length K
    → derivative_cmp (record { unknown = f; counts = trimmed J }) (record { unknown = g; counts = trimmed K }) ≡ derivative_cmp (record { unknown = f; counts = J }) (record { unknown = g; counts = K })
derivative_cmp-trimmed f g J K e =
    ap₂ (λ a b. ordering_then (nat_cmp b a) (ordering_then (nat_cmp g f) (slice_cmp nat_cmp (trimmed K) (trimmed J)))) (order_trimmed J) (order_trimmed K)
    ∙ ap (λ r. ordering_then (nat_cmp (order K) (order J)) (ordering_then (nat_cmp g f) r)) (trimmed_cmp K J (sym e))
