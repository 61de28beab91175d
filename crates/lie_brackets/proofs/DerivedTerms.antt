-- The products of a polynomial with a term, and the derivation of a term, power by power.
use Rattle.std.specs.Prelude.{◌≡◌, ℕ, zero, suc, ◌+◌, ◌*◌, ◌<◌, ◌≤◌, ◌^◌, List, [], ◌∷◌, ◌++◌, length, take, ℤ, pos, ◌*ℤ◌, unsigned_abs}
use Rattle.std.proofs.Common.{refl, sym, ap, ap₂, subst, ◌∙◌, arith, get_or}
use Rattle.std.proofs.lemmas.Int.{unsigned_abs-mul}
use mathlib.Core.Path.{fun_ext}
use Rattle.lie_math.specs.Derivation.{derivation}
use Rattle.lie_math.specs.FiniteSum.{IsCanonical}
use Rattle.lie_math.specs.Limits.{HasWideCoefficient}
use Rattle.lie_math.specs.Monomial.{Monomial, ◌·◌, unit}
use Rattle.lie_math.specs.PartialDerivative.{lower}
use Rattle.lie_math.specs.Polynomial.{WholePolynomial, terms, term, constant, 0ᴾ, ◌+ᴾ◌, ◌*ᴾ◌}
use Rattle.lie_math.specs.PolynomialRing.{polynomial_ring, *ᴾ-dist, +ᴾ-*ᴾ, 0ᴾ-*ᴾ, term_times_term}
use Rattle.lie_math.specs.FiniteSumLaws.{plus_assoc}
use Rattle.lie_math.proofs.Ring.{plus_idr, times_nil}
use lib.IntN.{*ℤ_comm}
use Rattle.lie_math.specs.MonomialOrder.{·_idl}
use Rattle.lie_ring.proofs.Fronts.{all_taken}
use Rattle.lie_math.proofs.ChainRule.{derivation_is_derivation, derivation-variable}
use Rattle.lie_math.proofs.Derivation.{derived-0ᴾ}
use Rattle.lie_math.proofs.Integer.{no_zero_divisors_ℤ, unsigned_abs_zero}
use Rattle.lie_math.proofs.Limits.{IsCovered, IsNonNegative}
use Rattle.lie_ring.proofs.Limits.{wide_term, wide_covered}
use Rattle.lie_ring.specs.Causes.{IsCause, IsProductCause}
use Rattle.lie_ring.specs.declared.failures.PastKind.TheVariants.{Coefficient, Exponent, Terms, Order, Unknowns, Width}
use Rattle.lie_ring.specs.declared.failures.PolyFail.{PolyFail}
use Rattle.lie_ring.specs.declared.failures.PolyFail.TheVariants.{Past, NoMemory}
use Rattle.lie_poly.specs.Failures.{IsTermCause}
use Rattle.lie_poly.proofs.TimesSteps.{term_cause, entry_not_zero}
use Rattle.lie_jet.proofs.BoundedPolynomials.{absolute-nonneg}
use Rattle.lie_jet.proofs.ChainRules.{part, parts, derived_term}
use Rattle.lie_jet.proofs.TotalParts.{entries_more, power_at, nonneg_term, sum_nonneg, sum_covers, listed_bulk}
use Rattle.lie_jet.proofs.TotalSteps.{sum_one, bulk_one, size_times}
use Rattle.lie_jet.specs.Listed.{sum_listed, bulk_listed}
use Rattle.lie_brackets.proofs.AdditiveMaps.{IsAdditive, KeepsPlain, additive_none, additive_more, additive_more_bulk, additive_plain, additive_covers}

-- ---- products with a polynomial
pub times_is_additive : (q : WholePolynomial) → IsAdditive (λ p. p *ᴾ q)
times_is_additive q = record { plus = λ p r. +ᴾ-*ᴾ p r q; nothing = 0ᴾ-*ᴾ q }

pub times_keeps_plain : (m : Monomial) (n : ℕ) → KeepsPlain (λ p. p *ᴾ term m (pos n))
times_keeps_plain m n l k = subst IsNonNegative (sym (term_times_term l m (pos k) (pos n))) (nonneg_term (l · m) _)

pub nonneg_product : (p : WholePolynomial) → IsNonNegative p → (m : Monomial) (n : ℕ) → IsNonNegative (p *ᴾ term m (pos n))
nonneg_product p h m n =
    subst (λ q. IsNonNegative (q *ᴾ term m (pos n))) (listed_bulk p p.list refl ∙ absolute-nonneg p h)
    (additive_plain (times_is_additive (term m (pos n))) (times_keeps_plain m n) p.list)

pub no_products : (p q : WholePolynomial) → p ≡ p +ᴾ sum_listed [] *ᴾ q
no_products p q = sym (ap (λ r. p +ᴾ r) (additive_none (times_is_additive q)) ∙ plus_idr polynomial_ring p)

pub no_terms : (xs : List (Monomial × ℤ)) → length xs ≡ 0 → (p q : WholePolynomial) → p ≡ p +ᴾ sum_listed xs *ᴾ q
no_terms [] h p q = no_products p q
no_terms (x ∷ xs) h p q = absurd (omega arith)

pub no_terms_bulk : (xs : List (Monomial × ℤ)) → length xs ≡ 0 → (p q : WholePolynomial) → p ≡ p +ᴾ bulk_listed xs *ᴾ q
no_terms_bulk [] h p q = no_products p q
no_terms_bulk (x ∷ xs) h p q = absurd (omega arith)

pub nothing_behind : (p : WholePolynomial) → p ≡ p +ᴾ 0ᴾ
nothing_behind p = sym (plus_idr polynomial_ring p)

-- one part more of a sum behind another
pub one_behind : (new made old part t more : WholePolynomial) → new ≡ made +ᴾ t → made ≡ old +ᴾ part → more ≡ part +ᴾ t → new ≡ old +ᴾ more
one_behind new made old part t more e f g = e ∙ ap (λ p. p +ᴾ t) f ∙ plus_assoc terms old part t ∙ ap (λ p. old +ᴾ p) (sym g)

-- a term with a number that is not 0, which is past for its exponents
pub high_term : (fail : PolyFail) (m : Monomial) (c d : ℤ) → ¬ (c ≡ pos 0) → ¬ (d ≡ pos 0) → IsProductCause fail m
    → IsCause fail (term m (pos (unsigned_abs (c *ℤ d))))
high_term fail m c d h k cause =
    term_cause fail m (c *ℤ d) _ (record { at_most = λ n. omega arith }) (λ e. k (no_zero_divisors_ℤ c d h e)) (as_term fail cause)
  where
    as_term : (fail : PolyFail) → IsProductCause fail m → IsTermCause fail m (c *ℤ d)
    as_term (Past Exponent) h = h
    as_term (Past Coefficient) h = absurd h
    as_term (Past Terms) h = absurd h
    as_term (Past Order) h = absurd h
    as_term (Past Unknowns) h = absurd h
    as_term (Past Width) h = absurd h
    as_term NoMemory h = tt

-- the product of two terms, and of their absolute values
pub product_of_terms : (m n : Monomial) (c d : ℤ) → term (m · n) (c *ℤ d) ≡ term m c *ᴾ term n d
product_of_terms m n c d = sym (term_times_term m n c d)

pub product_of_sizes : (m n : Monomial) (c d : ℤ) → term (m · n) (pos (unsigned_abs (c *ℤ d))) ≡ term m (pos (unsigned_abs c)) *ᴾ term n (pos (unsigned_abs d))
product_of_sizes m n c d = ap (λ k. term (m · n) (pos k)) (unsigned_abs-mul c d) ∙ sym (term_times_term m n (pos (unsigned_abs c)) (pos (unsigned_abs d)))

-- ---- the products of a list of terms with a term
module _ (xs : List (Monomial × ℤ)) (m : Monomial) (c : ℤ) where
  pub product_covered : (k : ℕ) (x : Monomial × ℤ) → k < length xs → x ≡ get_or xs k x
      → IsCovered (term (x.0 · m) (pos (unsigned_abs (x.1 *ℤ c)))) (bulk_listed xs *ᴾ term m (pos (unsigned_abs c)))
  product_covered k x h e =
      subst (λ p. IsCovered p (bulk_listed xs *ᴾ term m (pos (unsigned_abs c)))) (sym (product_of_sizes x.0 m x.1 c))
      (additive_covers (times_is_additive (term m (pos (unsigned_abs c)))) (times_keeps_plain m (unsigned_abs c)) xs k x h e)

  module _ (old made new : List (Monomial × ℤ)) (k : ℕ) (x : Monomial × ℤ) (h : k < length xs) (e : x ≡ get_or xs k x) (put : new ≡ made ++ (x.0 · m, x.1 *ℤ c) ∷ []) where
    pub products_more : sum_listed made ≡ sum_listed old +ᴾ sum_listed (take k xs) *ᴾ term m c
        → sum_listed new ≡ sum_listed old +ᴾ sum_listed (take (k + 1) xs) *ᴾ term m c
    products_more before =
        one_behind (sum_listed new) (sum_listed made) (sum_listed old) (sum_listed (take k xs) *ᴾ term m c) (term (x.0 · m) (x.1 *ℤ c)) _ (sum_one made new (x.0 · m) (x.1 *ℤ c) put) before
        (additive_more (times_is_additive (term m c)) xs k x h e ∙ ap (λ p. sum_listed (take k xs) *ᴾ term m c +ᴾ p) (term_times_term x.0 m x.1 c))

    pub products_more_bulk : bulk_listed made ≡ bulk_listed old +ᴾ bulk_listed (take k xs) *ᴾ term m (pos (unsigned_abs c))
        → bulk_listed new ≡ bulk_listed old +ᴾ bulk_listed (take (k + 1) xs) *ᴾ term m (pos (unsigned_abs c))
    products_more_bulk before =
        one_behind (bulk_listed new) (bulk_listed made) (bulk_listed old) (bulk_listed (take k xs) *ᴾ term m (pos (unsigned_abs c))) (term (x.0 · m) (pos (unsigned_abs (x.1 *ℤ c)))) _ (bulk_one made new (x.0 · m) (x.1 *ℤ c) put) before
        (additive_more_bulk (times_is_additive (term m (pos (unsigned_abs c)))) xs k x h e ∙ ap (λ p. bulk_listed (take k xs) *ᴾ term m (pos (unsigned_abs c)) +ᴾ p) (sym (product_of_sizes x.0 m x.1 c)))

-- ---- a number that is already too wide before it is multiplied with a list of terms
at_least_once : (k n : ℕ) → ¬ (k ≡ 0) → 2 ^ 127 ≤ n → 2 ^ 127 ≤ k * n
at_least_once zero n h l = absurd (h refl)
at_least_once (suc k) n h l = let r : n ≤ n + k * n = omega arith in omega arith

pub wide_products : (xs : List (Monomial × ℤ)) (m : Monomial) (c : ℤ) → IsCanonical terms xs → ¬ (length xs ≡ 0) → 2 ^ 127 ≤ unsigned_abs c
    → HasWideCoefficient (bulk_listed xs *ᴾ term m (pos (unsigned_abs c)))
wide_products [] m c h some wide = absurd (some refl)
wide_products (x ∷ xs) m c h some wide =
    wide_covered (term (x.0 · m) (pos (unsigned_abs (x.1 *ℤ c)))) _ (product_covered (x ∷ xs) m c 0 x (omega arith) refl)
    (wide_term (x.0 · m) (pos (unsigned_abs (x.1 *ℤ c)))
    (subst (λ n. 2 ^ 127 ≤ n) (sym (unsigned_abs-mul x.1 c))
    (at_least_once (unsigned_abs x.1) (unsigned_abs c) (λ z. entry_not_zero (x ∷ xs) 0 x h (omega arith) refl (unsigned_abs_zero x.1 z)) wide)))

pub wide_power : (xs : List (Monomial × ℤ)) (m : Monomial) (c : ℤ) (e : ℕ) → IsCanonical terms xs → ¬ (length xs ≡ 0) → 2 ^ 127 ≤ unsigned_abs (c *ℤ pos e)
    → HasWideCoefficient (bulk_listed xs *ᴾ term m (pos (unsigned_abs c) *ℤ pos e))
wide_power xs m c e h some wide =
    subst (λ z. HasWideCoefficient (bulk_listed xs *ᴾ term m z)) (size_times c e) (wide_products xs m (c *ℤ pos e) h some wide)

-- ---- the derivation of a term
pub derivation_term : (d : ℕ → WholePolynomial) (m : Monomial) (c : ℤ) → derivation d (term m c) ≡ parts d m c m.list
derivation_term d m c = derived_term (derivation_is_derivation d) m c ∙ ap (λ e. parts e m c m.list) (fun_ext (derivation-variable d))

pub derivation_is_additive : (d : ℕ → WholePolynomial) → IsAdditive (derivation d)
derivation_is_additive d = record { plus = (derivation_is_derivation d).plus; nothing = derived-0ᴾ (derivation_is_derivation d) }

module _ (d : ℕ → WholePolynomial) (plain : (w : ℕ) → IsNonNegative (d w)) where
  nonneg_part : (m : Monomial) (n w e : ℕ) → IsNonNegative (part d m (pos n) w e)
  nonneg_part m n w e = nonneg_product (d w) (plain w) (lower w m) _

  pub derivation_keeps_plain : KeepsPlain (derivation d)
  derivation_keeps_plain m n =
      subst IsNonNegative (sym (derivation_term d m (pos n))) (sum_nonneg (part d m (pos n)) (nonneg_part m n) m.list)

  pub power_covered : (m : Monomial) (n k : ℕ) (ps : List (ℕ × ℕ)) → ps ≡ m.list → k < length ps
      → IsCovered (part d m (pos n) (get_or ps k (0, 0)).0 (get_or ps k (0, 0)).1) (derivation d (term m (pos n)))
  power_covered m n k ps e h =
      subst (IsCovered (part d m (pos n) (get_or ps k (0, 0)).0 (get_or ps k (0, 0)).1)) (ap (parts d m (pos n)) e ∙ sym (derivation_term d m (pos n)))
      (sum_covers (part d m (pos n)) (nonneg_part m n) ps k (0, 0) h)

-- ---- a derivation, power by power
module _ (d : ℕ → WholePolynomial) (m : Monomial) (c : ℤ) (ps : List (ℕ × ℕ)) (k : ℕ) (same : ps ≡ m.list) where
  pub derived_more : (q new made old : WholePolynomial) → k < length ps → q ≡ d (get_or ps k (0, 0)).0
      → new ≡ made +ᴾ q *ᴾ term (lower (get_or ps k (0, 0)).0 m) (c *ℤ pos (get_or ps k (0, 0)).1)
      → made ≡ old +ᴾ parts d m c (take k m.list) → new ≡ old +ᴾ parts d m c (take (k + 1) m.list)
  derived_more q new made old h e put before =
      one_behind new made old (parts d m c (take k m.list)) (part d m c (get_or ps k (0, 0)).0 (get_or ps k (0, 0)).1) _
      (put ∙ ap (λ r. made +ᴾ r *ᴾ term (lower (get_or ps k (0, 0)).0 m) (c *ℤ pos (get_or ps k (0, 0)).1)) e) before
      (entries_more (part d m c) m.list ps k (0, 0) same h)

  pub derived_end : (made old : WholePolynomial) → length ps ≤ k → made ≡ old +ᴾ parts d m c (take k m.list) → made ≡ old +ᴾ derivation d (term m c)
  derived_end made old h before =
      before ∙ ap (λ r. old +ᴾ r) (ap (parts d m c) (all_taken m.list k (subst (λ (xs : List (ℕ × ℕ)). length xs ≤ k) same h)) ∙ sym (derivation_term d m c))

pub some_power : (m : Monomial) (ps : List (ℕ × ℕ)) (k : ℕ) → ps ≡ m.list → k < length ps → 0 < (get_or ps k (0, 0)).1
some_power m ps k e h = positive _ (power_at m ps k e h).1
  where
    positive : (n : ℕ) → ¬ (n ≡ 0) → 0 < n
    positive n h = omega arith

-- ---- a derivation times a sign, term by term
pub derivation_signed : (d : ℕ → WholePolynomial) (m : Monomial) (c s : ℤ) → derivation d (term m (c *ℤ s)) ≡ constant s *ᴾ derivation d (term m c)
derivation_signed d m c s =
    let is = derivation_is_derivation d in
    ap (derivation d) (ap₂ term (sym (·_idl m)) (*ℤ_comm c s) ∙ sym (term_times_term unit m s c))
    ∙ is.times (constant s) (term m c)
    ∙ ap (λ p. constant s *ᴾ derivation d (term m c) +ᴾ p) (ap (λ p. p *ᴾ term m c) (is.whole s) ∙ 0ᴾ-*ᴾ (term m c))
    ∙ plus_idr polynomial_ring _

pub signed_is_additive : (d : ℕ → WholePolynomial) (s : ℤ) → IsAdditive (λ p. constant s *ᴾ derivation d p)
signed_is_additive d s = record {
  plus = λ p q. ap (λ r. constant s *ᴾ r) ((derivation_is_derivation d).plus p q) ∙ *ᴾ-dist (constant s) (derivation d p) (derivation d q);
  nothing = ap (λ r. constant s *ᴾ r) (derived-0ᴾ (derivation_is_derivation d)) ∙ times_nil polynomial_ring (constant s);
}

pub size_signed : (c s : ℤ) → unsigned_abs s ≡ 1 → unsigned_abs (c *ℤ s) ≡ unsigned_abs c
size_signed c s h = unsigned_abs-mul c s ∙ ap (λ n. unsigned_abs c * n) h ∙ one_time (unsigned_abs c)
  where
    one_time : (n : ℕ) → n * 1 ≡ n
    one_time n = omega arith

pub signed_not_zero : (c s z : ℤ) → z ≡ c *ℤ s → unsigned_abs s ≡ 1 → ¬ (c ≡ pos 0) → ¬ (z ≡ pos 0)
signed_not_zero c s z e h n f = n (unsigned_abs_zero c (sym (size_signed c s h) ∙ ap unsigned_abs (sym e ∙ f)))

module _ (d : ℕ → WholePolynomial) (xs : List (Monomial × ℤ)) (k : ℕ) (x : Monomial × ℤ) (inside : k < length xs) (is : x ≡ get_or xs k x) (s z : ℤ) (unit_sign : unsigned_abs s ≡ 1) (signed : z ≡ x.1 *ℤ s) where
  pub terms_more : (new made old : WholePolynomial) → new ≡ made +ᴾ derivation d (term x.0 z)
      → made ≡ old +ᴾ constant s *ᴾ derivation d (sum_listed (take k xs))
      → new ≡ old +ᴾ constant s *ᴾ derivation d (sum_listed (take (k + 1) xs))
  terms_more new made old put before =
      one_behind new made old (constant s *ᴾ derivation d (sum_listed (take k xs))) (constant s *ᴾ derivation d (term x.0 x.1)) _
      (put ∙ ap (λ r. made +ᴾ r) (ap (λ y. derivation d (term x.0 y)) signed ∙ derivation_signed d x.0 x.1 s)) before
      (additive_more (signed_is_additive d s) xs k x inside is)

  pub terms_more_bulk : (new made old : WholePolynomial) → new ≡ made +ᴾ derivation d (term x.0 (pos (unsigned_abs z)))
      → made ≡ old +ᴾ derivation d (bulk_listed (take k xs)) → new ≡ old +ᴾ derivation d (bulk_listed (take (k + 1) xs))
  terms_more_bulk new made old put before =
      one_behind new made old (derivation d (bulk_listed (take k xs))) (derivation d (term x.0 (pos (unsigned_abs x.1)))) _
      (put ∙ ap (λ n. made +ᴾ derivation d (term x.0 (pos n))) (ap unsigned_abs signed ∙ size_signed x.1 s unit_sign)) before
      (additive_more_bulk (derivation_is_additive d) xs k x inside is)

  pub term_covered : ((w : ℕ) → IsNonNegative (d w)) → IsCovered (derivation d (term x.0 (pos (unsigned_abs z)))) (derivation d (bulk_listed xs))
  term_covered plain =
      subst (λ n. IsCovered (derivation d (term x.0 (pos n))) (derivation d (bulk_listed xs))) (sym (ap unsigned_abs signed ∙ size_signed x.1 s unit_sign))
      (additive_covers (derivation_is_additive d) (derivation_keeps_plain d plain) xs k x inside is)
