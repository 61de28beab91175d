-- Products of polynomials: what bounds their factors bounds them, and what is past stays past when it is multiplied.
use Rattle.std.specs.Prelude.{◌≡◌, ℕ, zero, suc, ◌+◌, ◌<◌, ◌≤◌, ◌^◌, ◌*◌, cond, Bool, true, false, List, [], ◌∷◌, length, ℤ, pos, negsuc, ◌+ℤ◌, ◌*ℤ◌, unsigned_abs}
use Rattle.std.proofs.Common.{refl, sym, ap, ap₂, subst, subst₂, ◌∙◌, arith, is_eq}
use Rattle.std.proofs.Math.Nat.{mul-le-mul_left, mul_comm}
use Rattle.std.proofs.lemmas.Int.{unsigned_abs-mul}
use borrow.Author.Differences.{ints}
use lib.IntN.{*ℤ-zero}
use Rattle.lie_math.specs.FiniteSum.{IsCanonical}
use Rattle.lie_math.specs.Integer.{*ℤ-distl}
use Rattle.lie_math.specs.FiniteSumLaws.{value-of, value-plus, list-of, of_list}
use Rattle.lie_math.specs.Limits.{absolutes, absolute}
use Rattle.lie_math.specs.Monomial.{Monomial, ◌·◌, unit, powers}
use Rattle.lie_math.specs.Polynomial.{WholePolynomial, coefficient, polynomial_of, terms, term, constant, 0ᴾ, ◌+ᴾ◌, ◌*ᴾ◌, negᴾ}
use Rattle.lie_math.specs.PolynomialRing.{*ᴾ_comm, *ᴾ_assoc, *ᴾ-dist, +ᴾ-*ᴾ, 0ᴾ-*ᴾ, term_times_term, polynomial_of-none}
use Rattle.lie_math.specs.FiniteSumLaws as finite_laws
use Rattle.lie_reduce.specs.ReducedTerms.{power}
use Rattle.lie_math.proofs.CanonicalLists.{of-cons, canonical_value}
use Rattle.lie_math.proofs.Integer.{no_zero_divisors_ℤ, unsigned_abs_zero}
use Rattle.lie_math.proofs.Limits.{at, IsNonNegative, covered_first, term_is, one_apart, nonneg_absolutes, absolute_of}
use Rattle.lie_math.proofs.PrintOrder.{monomial_cmp-·}
use Rattle.lie_math.proofs.TermWise.{times_list, length-times, polynomial_of-times, canonical_times, test_not_zero}
use Rattle.lie_math.proofs.ZeroDivisors.{no_zero_divisors}
use Rattle.lie_ring.specs.Causes.{IsCause}
use Rattle.lie_math.specs.Limits.{HasWideCoefficient, HasHighExponent, HasManyTerms}
use Rattle.lie_ring.specs.declared.failures.PastKind.TheVariants.{Coefficient, Exponent, Terms, Order, Unknowns, Width}
use Rattle.lie_ring.specs.declared.failures.PolyFail.{PolyFail}
use Rattle.lie_ring.specs.declared.failures.PolyFail.TheVariants.{Past, NoMemory}
use Rattle.lie_poly.proofs.SumSteps.{cause_covered}
use Rattle.lie_jet.proofs.TotalSteps.{size_times}
use Rattle.lie_jet.proofs.BoundedPolynomials.{bounded_more, bounded_negative, left_over, left_over_plain, left_over_sum, absolute-nonneg}
use Rattle.lie_jet.proofs.PositiveMaps.{IsPositive, positive_bounded}
use Rattle.lie_jet.proofs.TotalBounds.{term_bound}
use Rattle.lie_jet.proofs.PolynomialBounds.{IsBound, none_bound, plain_bound, sum_bound}

-- ---- bounds
times_term_is_positive : (k : Monomial) (n : ℕ) → IsPositive (λ p. p *ᴾ term k (pos n))
times_term_is_positive k n = record {
  plus = λ p q. +ᴾ-*ᴾ p q (term k (pos n));
  nothing = 0ᴾ-*ᴾ (term k (pos n));
  on_term = λ m c. subst₂ IsBound (sym (term_times_term m k c (pos n))) (ap (term (m · k)) (size_times c n) ∙ sym (term_times_term m k (pos (unsigned_abs c)) (pos n))) (term_bound (m · k) (c *ℤ pos n));
}

negative_term : (m : Monomial) (n : ℕ) → negᴾ (term m (pos (suc n))) ≡ term m (negsuc n)
negative_term m n = term_times_term unit m (negsuc 0) (pos (suc n)) ∙ ap₂ term (finite_laws.plus_idl powers m) (less n)
  where
    less : (n : ℕ) → negsuc 0 *ℤ pos (suc n) ≡ negsuc n
    less n = omega (arith, ints)

bounded_times_term : (m : Monomial) (c : ℤ) (q d : WholePolynomial) → IsBound q d → IsBound (q *ᴾ term m c) (d *ᴾ term m (pos (unsigned_abs c)))
bounded_times_term m (pos n) q d h = positive_bounded (times_term_is_positive m n) q d h
bounded_times_term m (negsuc n) q d h =
    subst (λ x. IsBound x (d *ᴾ term m (pos (suc n)))) (moved q (term m (pos (suc n))) ∙ ap (λ t. q *ᴾ t) (negative_term m n))
    (bounded_negative (q *ᴾ term m (pos (suc n))) (d *ᴾ term m (pos (suc n))) (positive_bounded (times_term_is_positive m (suc n)) q d h))
  where
    moved : (a b : WholePolynomial) → negᴾ (a *ᴾ b) ≡ a *ᴾ negᴾ b
    moved a b = sym (*ᴾ_assoc (constant (negsuc 0)) a b) ∙ ap (λ x. x *ᴾ b) (*ᴾ_comm (constant (negsuc 0)) a) ∙ *ᴾ_assoc a (constant (negsuc 0)) b

pub times-none : (q : WholePolynomial) → q *ᴾ 0ᴾ ≡ 0ᴾ
times-none q = *ᴾ_comm q 0ᴾ ∙ 0ᴾ-*ᴾ q

bounded_times_list : (q d : WholePolynomial) → IsBound q d → (es : List (Monomial × ℤ)) → IsBound (q *ᴾ polynomial_of es) (d *ᴾ polynomial_of (absolutes es))
bounded_times_list q d h [] = subst₂ IsBound (sym (ap (λ p. q *ᴾ p) polynomial_of-none ∙ times-none q)) (sym (ap (λ p. d *ᴾ p) polynomial_of-none ∙ times-none d)) none_bound
bounded_times_list q d h (e ∷ es) = subst₂ IsBound (sym (parted q e es)) (sym (parted d (e.0, pos (unsigned_abs e.1)) (absolutes es))) (sum_bound _ _ _ _ (bounded_times_term e.0 e.1 q d h) (bounded_times_list q d h es))
  where
    parted : (q : WholePolynomial) (e : Monomial × ℤ) (es : List (Monomial × ℤ)) → q *ᴾ polynomial_of (e ∷ es) ≡ q *ᴾ term e.0 e.1 +ᴾ q *ᴾ polynomial_of es
    parted q e es = ap (λ p. q *ᴾ p) (of-cons terms e es ∙ ap (λ p. p +ᴾ polynomial_of es) (sym (term_is e.0 e.1))) ∙ *ᴾ-dist q (term e.0 e.1) (polynomial_of es)

bounded_times_absolute : (q d p : WholePolynomial) → IsBound q d → IsBound (q *ᴾ p) (d *ᴾ absolute p)
unfolding absolute
bounded_times_absolute q d p h = subst (λ x. IsBound (q *ᴾ x) (d *ᴾ polynomial_of (absolutes p.list))) (of_list terms p) (bounded_times_list q d h p.list)

pub nonneg_times : (p q : WholePolynomial) → IsNonNegative p → IsNonNegative q → IsNonNegative (p *ᴾ q)
nonneg_times p q h k = subst (λ x. IsNonNegative (p *ᴾ x)) (absolute-nonneg q k) ((bounded_times_absolute p p q (plain_bound p h)).plain)

pub bounded_times : (p q b d : WholePolynomial) → IsBound p b → IsBound q d → IsBound (p *ᴾ q) (b *ᴾ d)
bounded_times p q b d h k =
    subst (IsBound (p *ᴾ q)) (sym (*ᴾ-dist b (absolute q) (left_over q d)) ∙ ap (λ x. b *ᴾ x) (left_over_sum q d))
    (bounded_more (p *ᴾ q) (b *ᴾ absolute q) (b *ᴾ left_over q d) (bounded_times_absolute p b q h) (nonneg_times b (left_over q d) (h.plain) (left_over_plain q d k)))

-- ---- polynomials that are not 0 and have no negative coefficient
pub record IsProper (p : WholePolynomial) : Type 0 where
  pub plain : IsNonNegative p
  pub apart : ¬ (p ≡ 0ᴾ)

pub proper_times : (p q : WholePolynomial) → IsProper p → IsProper q → IsProper (p *ᴾ q)
proper_times p q h k = record { plain = nonneg_times p q h.plain k.plain; apart = λ e. k.apart (no_zero_divisors p q h.apart e) }

pub proper_one : IsProper (constant (pos 1))
proper_one = record { plain = subst IsNonNegative (sym (term_is unit (pos 1))) (nonneg_absolutes ((unit, pos 1) ∷ [])); apart = one_apart }

pub proper_power : (p : WholePolynomial) → IsProper p → (n : ℕ) → IsProper (power p n)
proper_power p h zero = proper_one
proper_power p h (suc n) = proper_times p (power p n) h (proper_power p h n)

pub bounded_power : (p b : WholePolynomial) → IsBound p b → (n : ℕ) → IsBound (power p n) (power b n)
bounded_power p b h zero = plain_bound (constant (pos 1)) proper_one.plain
bounded_power p b h (suc n) = bounded_times p (power p n) b (power b n) h (bounded_power p b h n)

-- ---- what is past
at_times : (k m : Monomial) (n : ℕ) (es : List (Monomial × ℤ)) → at (k · m) (times_list k (pos n) es) ≡ pos n *ℤ at m es
at_times k m n [] = nothing n
  where
    nothing : (n : ℕ) → pos 0 ≡ pos n *ℤ pos 0
    nothing n = omega (arith, ints)
at_times k m n (e ∷ es) = ap₂ ◌+ℤ◌ (ap (λ t. cond t (pos n *ℤ e.1) (pos 0)) (ap is_eq (monomial_cmp-· k m e.0))) (at_times k m n es) ∙ shared (is_eq _) n e.1 (at m es)
  where
    shared : (t : Bool) (n : ℕ) (a b : ℤ) → cond t (pos n *ℤ a) (pos 0) +ℤ pos n *ℤ b ≡ pos n *ℤ (cond t a (pos 0) +ℤ b)
    shared true n a b = sym (*ℤ-distl (pos n) a b)
    shared false n a b = sym (*ℤ-distl (pos n) (pos 0) b ∙ ap (λ z. z +ℤ pos n *ℤ b) (*ℤ-zero (pos n)))

module _ (p : WholePolynomial) (k : Monomial) (n : ℕ) (some : ¬ (n ≡ 0)) where
  multiplied : List (Monomial × ℤ)
  multiplied = times_list k (pos n) p.list

  product_is : p *ᴾ term k (pos n) ≡ polynomial_of multiplied
  unfolding multiplied
  product_is = *ᴾ_comm p (term k (pos n)) ∙ ap (λ q. term k (pos n) *ᴾ q) (sym (of_list terms p)) ∙ sym (polynomial_of-times k (pos n) p.list)

  not_zero : pos n ≡ pos 0 → ⊥
  not_zero e = some (ap unsigned_abs e)

  list_is : (p *ᴾ term k (pos n)).list ≡ multiplied
  unfolding multiplied
  list_is = ap (λ (q : WholePolynomial). q.list) product_is ∙ list-of terms multiplied (canonical_times k (pos n) p.list not_zero p.canonical)

  coefficient_is : (m : Monomial) → coefficient (p *ᴾ term k (pos n)) (k · m) ≡ pos n *ℤ coefficient p m
  unfolding multiplied
  coefficient_is m = ap (λ q. coefficient q (k · m)) product_is ∙ value-of terms multiplied (k · m) ∙ at_times k m n p.list ∙ ap (λ z. pos n *ℤ z) (sym (value-of terms p.list m) ∙ ap (λ q. coefficient q m) (of_list terms p))

  wider : (z : ℤ) → 2 ^ 127 ≤ unsigned_abs z → 2 ^ 127 ≤ unsigned_abs (pos n *ℤ z)
  wider z h = more (unsigned_abs z) (unsigned_abs (pos n *ℤ z)) (unsigned_abs-mul (pos n) z) h (positive n some)
    where
      positive : (n : ℕ) → ¬ (n ≡ 0) → (m : ℕ) × (n ≡ suc m)
      positive zero h = absurd (h refl)
      positive (suc m) h = (m, refl)

      more : (a b : ℕ) → b ≡ n * a → 2 ^ 127 ≤ a → (m : ℕ) × (n ≡ suc m) → 2 ^ 127 ≤ b
      more a b e h f = larger a (f.0) b (e ∙ ap (λ x. x * a) f.1) h
        where
          larger : (a m b : ℕ) → b ≡ suc m * a → 2 ^ 127 ≤ a → 2 ^ 127 ≤ b
          larger a m b e h = let k : a * 1 ≤ a * suc m = mul-le-mul_left a (omega arith) in let c : suc m * a ≡ a * suc m = mul_comm (suc m) a in omega arith

  wide_times : HasWideCoefficient p → HasWideCoefficient (p *ᴾ term k (pos n))
  wide_times h = (k · h.0, subst (λ z. 2 ^ 127 ≤ unsigned_abs z) (sym (coefficient_is h.0)) (wider (coefficient p h.0) h.1))

  high_times : HasHighExponent p → HasHighExponent (p *ᴾ term k (pos n))
  high_times h = (k · h.0, (λ e. h.1 (no_zero_divisors_ℤ (pos n) (coefficient p h.0) not_zero (sym (coefficient_is h.0) ∙ e))), (h.2.0, higher _ _ _ (value-plus powers k h.0 h.2.0) h.2.1))
    where
      higher : (a b c : ℕ) → c ≡ a + b → 65535 < b → 65535 < c
      higher a b c e h = omega arith

  many_times : HasManyTerms p → HasManyTerms (p *ᴾ term k (pos n))
  unfolding multiplied
  many_times h = subst (λ n. 1000000 < n) (sym (ap length list_is ∙ length-times k (pos n) p.list)) h

  cause_times_term : (fail : PolyFail) → IsCause fail p → IsCause fail (p *ᴾ term k (pos n))
  cause_times_term (Past Coefficient) h = wide_times h
  cause_times_term (Past Exponent) h = high_times h
  cause_times_term (Past Terms) h = many_times h
  cause_times_term (Past Order) h = absurd h
  cause_times_term (Past Unknowns) h = absurd h
  cause_times_term (Past Width) h = absurd h
  cause_times_term NoMemory h = tt

-- so it is when it is multiplied by a polynomial that is not 0, where nothing cancels
pub cause_times : (fail : PolyFail) (p d : WholePolynomial) → IsNonNegative p → IsProper d → IsCause fail p → IsCause fail (p *ᴾ d)
cause_times fail p d h k c = go d.list (of_list terms d) d.canonical
  where
    go : (es : List (Monomial × ℤ)) → polynomial_of es ≡ d → IsCanonical terms es → IsCause fail (p *ᴾ d)
    go [] e g = absurd (k.apart (sym e ∙ polynomial_of-none))
    go (e ∷ es) is g =
        let first : WholePolynomial = term e.0 (pos (unsigned_abs e.1)) in
        let rest : WholePolynomial = polynomial_of (absolutes es) in
        subst (IsCause fail) (sym (*ᴾ-dist p first rest) ∙ ap (λ x. p *ᴾ x) (ap (λ x. x +ᴾ rest) (term_is e.0 (pos (unsigned_abs e.1))) ∙ sym (of-cons terms (e.0, pos (unsigned_abs e.1)) (absolutes es)) ∙ sym (absolute_of (e ∷ es) g) ∙ ap absolute is ∙ absolute-nonneg d k.plain))
        (cause_covered fail (p *ᴾ first) (p *ᴾ first +ᴾ p *ᴾ rest)
        (covered_first (p *ᴾ first) (p *ᴾ rest) (nonneg_times p first h (subst IsNonNegative (sym (term_is e.0 (pos (unsigned_abs e.1)))) (nonneg_absolutes ((e.0, e.1) ∷ [])))) (nonneg_times p rest h (nonneg_absolutes es)))
        (cause_times_term p e.0 (unsigned_abs e.1) (λ z. test_not_zero e.1 (canonical_value terms e es g) (unsigned_abs_zero e.1 z)) fail c))
