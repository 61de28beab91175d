-- What grows keeps what is past a limit: derivatives and multiples of coefficients.
use Rattle.std.specs.Prelude.{◌≡◌, ℕ, zero, suc, ◌*◌, ◌<◌, ◌≤◌, ◌^◌, Bool, true, false, cond, eqb, List, [], ◌∷◌, length, ℤ, pos, ◌*ℤ◌, ◌+ℤ◌, unsigned_abs}
use Rattle.std.proofs.Common.{refl, sym, ap, ap₂, subst, subst₂, ◌∙◌, arith, eqb-true, le_trans}
use Rattle.std.proofs.lemmas.Int.{unsigned_abs-mul}
use lib.IntN.{+ℤ_idl, +ℤ_comm}
use Rattle.std.specs.List.{AllByRecursion as Every}
use Rattle.std.specs.Ordering.{eq_by_cmp}
use Rattle.lie_math.specs.FiniteSum as finite
use Rattle.lie_math.specs.FiniteSum.{IsCanonical}
use Rattle.lie_math.specs.FiniteSumLaws.{of_list, list-of, ext, same_list, value-plus, value-term, value-none}
use Rattle.lie_math.specs.Limits.{absolute, number_limit}
use Rattle.lie_math.specs.Monomial.{Monomial, monomial_cmp, exponent, ◌·◌}
use Rattle.lie_math.specs.PartialDerivative.{partial, lower}
use Rattle.lie_math.specs.Polynomial.{WholePolynomial, terms, term, coefficient, 0ᴾ, ◌+ᴾ◌, ◌*ᴾ◌}
use Rattle.lie_math.specs.PolynomialRing.{*ᴾ_comm, *ᴾ-dist, term_times_term}
use Rattle.lie_math.proofs.CanonicalLists.{value_has}
use Rattle.lie_math.proofs.FiniteSum.{key, value-put}
use Rattle.lie_math.proofs.Limits.{IsCovered, IsNonNegative, length_covered, covered_first, zero_covered, coefficient-term}
use Rattle.lie_math.proofs.PartialDerivative.{partial-+ᴾ, partial-term}
use Rattle.lie_math.proofs.TermWise.{derived_list, polynomial_of-derived, canonical_derived, times_list, length-times, polynomial_of-times, canonical_times}
use Rattle.lie_math.proofs.Integer.{unsigned_abs_zero}
use Rattle.lie_math.proofs.Degree.{reached}
use Rattle.lie_jet.proofs.PolynomialBounds.{coefficient_absolute}
use Rattle.lie_normal.proofs.Products.{partial_bound, times_bound}
use Rattle.lie_replace.specs.Growing.{GrowsTo}

-- ---- covering
pub grows_covered : (p q : WholePolynomial) → IsCovered p q → GrowsTo p q
grows_covered p q h = record {
  wide = λ w. (w.0, (let a : unsigned_abs (coefficient p w.0) ≤ unsigned_abs (coefficient q w.0) = h.at_most w.0 in let b : number_limit ≤ unsigned_abs (coefficient p w.0) = w.1 in at_least a b));
  many = λ m. (let a = length_covered p q h in let b : 1000000 < length p.list = m in more a b);
  some = λ n z. n (ext terms p 0ᴾ (λ m. zero_covered (coefficient p m) (coefficient 0ᴾ m) (subst (λ (r : WholePolynomial). unsigned_abs (coefficient p m) ≤ unsigned_abs (coefficient r m)) z (h.at_most m)) (none_at m) ∙ sym (none_at m)));
}
  where
    none_at : (m : Monomial) → coefficient 0ᴾ m ≡ pos 0
    none_at m = value-none terms m

    at_least : {a b : ℕ} → a ≤ b → number_limit ≤ a → number_limit ≤ b
    at_least h k = le_trans k h

    more : {a b : ℕ} → a ≤ b → 1000000 < a → 1000000 < b
    more h k = omega arith

pub grows_trans : (p q r : WholePolynomial) → GrowsTo p q → GrowsTo q r → GrowsTo p r
grows_trans p q r h k = record { wide = λ w. k.wide (h.wide w); many = λ m. k.many (h.many m); some = λ n. k.some (h.some n) }

-- ---- a polynomial is the term of one monomial and the rest
rest : Monomial → WholePolynomial → WholePolynomial
rest m p = finite.put terms m (pos 0) p

apart : (m : Monomial) (p : WholePolynomial) → p ≡ term m (coefficient p m) +ᴾ rest m p
unfolding rest
apart m p = ext terms p _ (λ q. sym (value-plus terms (term m (coefficient p m)) (rest m p) q ∙ ap₂ ◌+ℤ◌ (value-term terms m (coefficient p m) q) (value-put terms m (pos 0) p q) ∙ go q (eq_by_cmp monomial_cmp q m) refl))
  where
    go : (q : Monomial) (t : Bool) → eq_by_cmp monomial_cmp q m ≡ t → cond t (coefficient p m) (pos 0) +ℤ cond t (pos 0) (coefficient p q) ≡ coefficient p q
    go q true e = +ℤ_comm (coefficient p m) (pos 0) ∙ +ℤ_idl (coefficient p m) ∙ ap (coefficient p) (sym (key terms q m e))
    go q false e = +ℤ_idl (coefficient p q)

rest_plain : (m : Monomial) (p : WholePolynomial) → IsNonNegative p → IsNonNegative (rest m p)
unfolding rest
rest_plain m p h = record { plain = λ q. subst (λ z. z ≡ pos (unsigned_abs z)) (sym (value-put terms m (pos 0) p q)) (go (eq_by_cmp monomial_cmp q m) (h.plain q)) }
  where
    go : {z : ℤ} (t : Bool) → z ≡ pos (unsigned_abs z) → cond t (pos 0) z ≡ pos (unsigned_abs (cond t (pos 0) z))
    go true h = refl
    go false h = h

pub term_plain : (m : Monomial) (a : ℤ) → a ≡ pos (unsigned_abs a) → IsNonNegative (term m a)
term_plain m a h = record { plain = λ q. subst (λ z. z ≡ pos (unsigned_abs z)) (sym (value-term terms m a q)) (go (eq_by_cmp monomial_cmp q m)) }
  where
    go : (t : Bool) → cond t a (pos 0) ≡ pos (unsigned_abs (cond t a (pos 0)))
    go true = h
    go false = refl

length_none : length (0ᴾ).list ≡ 0
unfolding finite.none finite.of
length_none = refl

none_listed : (p : WholePolynomial) → length p.list ≡ 0 → p ≡ 0ᴾ
unfolding finite.none finite.of
none_listed p e = same_list terms p 0ᴾ (nothing p.list e)
  where
    nothing : (es : List (Monomial × ℤ)) → length es ≡ 0 → es ≡ []
    nothing [] e = refl
    nothing (e ∷ es) k = absurd (omega arith)

-- ---- nothing is lost where each term grows
grows_listed : (p q : WholePolynomial) → length q.list ≡ length p.list
    → ((m : Monomial) → ¬ (coefficient p m ≡ pos 0) → (n : Monomial) × (unsigned_abs (coefficient p m) ≤ unsigned_abs (coefficient q n))) → GrowsTo p q
grows_listed p q l h = record {
  wide = λ w. (let b : number_limit ≤ unsigned_abs (coefficient p w.0) = w.1 in let g = h w.0 (wide_apart (coefficient p w.0) b) in (g.0, le_trans b g.1));
  many = λ m. subst (λ n. 1000000 < n) (sym l) m;
  some = λ n z. n (none_listed p (sym l ∙ ap (λ (r : WholePolynomial). length r.list) z ∙ length_none));
}
  where
    wide_apart : (z : ℤ) → number_limit ≤ unsigned_abs z → ¬ (z ≡ pos 0)
    wide_apart z h k = let w : 2 ^ 127 ≤ 0 = subst (λ y. 2 ^ 127 ≤ unsigned_abs y) k h in omega arith

-- ---- derivatives
-- each monomial has the variable
abbrev pub Has : ℕ → WholePolynomial → Type 0
Has v p = Every (λ (e : Monomial × ℤ). 1 ≤ exponent e.0 v) p.list

length-derived : (v : ℕ) (es : List (Monomial × ℤ)) → Every (λ (e : Monomial × ℤ). 1 ≤ exponent e.0 v) es → length (derived_list v es) ≡ length es
length-derived v [] h = refl
length-derived v (e ∷ es) h = go (eqb (exponent e.0 v) 0) refl (length-derived v es h.1)
  where
    go : (t : Bool) → eqb (exponent e.0 v) 0 ≡ t → length (derived_list v es) ≡ length es
        → length (cond t (derived_list v es) ((lower v e.0, e.1 *ℤ pos (exponent e.0 v)) ∷ derived_list v es)) ≡ suc (length es)
    go true k r = absurd (let z : exponent e.0 v ≡ 0 = eqb-true (exponent e.0 v) 0 k in let o : 1 ≤ exponent e.0 v = h.0 in omega arith)
    go false k r = ap suc r

pub list-partial : (v : ℕ) (p : WholePolynomial) → (partial v p).list ≡ derived_list v p.list
list-partial v p = ap (λ (q : WholePolynomial). q.list) (ap (partial v) (sym (of_list terms p)) ∙ sym (polynomial_of-derived v p.list)) ∙ list-of terms (derived_list v p.list) (canonical_derived v p.list p.canonical)

-- what has no negative number is its own absolute value
pub plain_same : (p : WholePolynomial) → IsNonNegative p → absolute p ≡ p
plain_same p h = ext terms (absolute p) p (λ m. coefficient_absolute p m ∙ sym (h.plain m))

pub partial_plain : (v : ℕ) (p : WholePolynomial) → IsNonNegative p → IsNonNegative (partial v p)
partial_plain v p h = subst (λ q. IsNonNegative (partial v q)) (plain_same p h) (partial_bound v p).plain

pub grows_partial : (v : ℕ) (p : WholePolynomial) → IsNonNegative p → Has v p → GrowsTo p (partial v p)
grows_partial v p plain h = grows_listed p (partial v p) (ap length (list-partial v p) ∙ length-derived v p.list h) (λ m n. (lower v m, at_lower m n))
  where
    at_lower : (m : Monomial) → ¬ (coefficient p m ≡ pos 0) → unsigned_abs (coefficient p m) ≤ unsigned_abs (coefficient (partial v p) (lower v m))
    at_lower m n =
        let o : 1 ≤ exponent m v = value_has terms (λ (e : Monomial × ℤ). 1 ≤ exponent e.0 v) m p.list p.canonical h n in
        let c : IsCovered (term (lower v m) (coefficient p m *ℤ pos (exponent m v))) (partial v p) =
        subst (IsCovered (term (lower v m) (coefficient p m *ℤ pos (exponent m v))))
        (ap (λ q. q +ᴾ partial v (rest m p)) (sym (partial-term v m (coefficient p m))) ∙ sym (partial-+ᴾ v (term m (coefficient p m)) (rest m p)) ∙ ap (partial v) (sym (apart m p)))
        (covered_first (term (lower v m) (coefficient p m *ℤ pos (exponent m v))) (partial v (rest m p)) (term_plain (lower v m) (coefficient p m *ℤ pos (exponent m v)) (times_plain (coefficient p m) (exponent m v) (plain.plain m))) (partial_plain v (rest m p) (rest_plain m p plain))) in
        le_trans (at_least (coefficient p m) (exponent m v) o) (subst (λ z. unsigned_abs z ≤ unsigned_abs (coefficient (partial v p) (lower v m))) (coefficient-term (lower v m) (coefficient p m *ℤ pos (exponent m v))) (c.at_most (lower v m)))
      where
        times_plain : (z : ℤ) (k : ℕ) → z ≡ pos (unsigned_abs z) → z *ℤ pos k ≡ pos (unsigned_abs (z *ℤ pos k))
        times_plain z k e = ap (λ y. y *ℤ pos k) e ∙ ap (λ y. pos y) (sym (unsigned_abs-mul z (pos k)))

        at_least : (z : ℤ) (k : ℕ) → 1 ≤ k → unsigned_abs z ≤ unsigned_abs (z *ℤ pos k)
        at_least z k o = subst (λ y. unsigned_abs z ≤ y) (sym (unsigned_abs-mul z (pos k))) (grow (unsigned_abs z) k o)
          where
            grow : (a b : ℕ) → 1 ≤ b → a ≤ a * b
            grow a (suc b) o = omega (arith, Rattle.std.proofs.Math.Nat.mul_comm a (suc b))
            grow a zero o = absurd (omega arith)

-- ---- multiples
pub times_plain : (a p : WholePolynomial) → IsNonNegative a → IsNonNegative p → IsNonNegative (a *ᴾ p)
times_plain a p h k = subst₂ (λ x y. IsNonNegative (x *ᴾ y)) (plain_same a h) (plain_same p k) (times_bound a p).plain

grows_term : (m : Monomial) (c : ℤ) (p : WholePolynomial) → ¬ (c ≡ pos 0) → c ≡ pos (unsigned_abs c) → IsNonNegative p → GrowsTo p (term m c *ᴾ p)
grows_term m c p n plain h =
    grows_listed p (term m c *ᴾ p) (ap length (ap (λ (q : WholePolynomial). q.list) (ap (λ q. term m c *ᴾ q) (sym (of_list terms p)) ∙ sym (polynomial_of-times m c p.list)) ∙ list-of terms (times_list m c p.list) (canonical_times m c p.list n p.canonical)) ∙ length-times m c p.list)
    (λ k o. (m · k, at_product k))
  where
    at_product : (k : Monomial) → unsigned_abs (coefficient p k) ≤ unsigned_abs (coefficient (term m c *ᴾ p) (m · k))
    at_product k =
        let z = coefficient p k in
        let c1 : IsCovered (term (m · k) (c *ℤ z)) (term m c *ᴾ p) =
        subst (IsCovered (term (m · k) (c *ℤ z)))
        (ap (λ q. q +ᴾ term m c *ᴾ rest k p) (sym (one_product m c k z)) ∙ sym (*ᴾ-dist (term m c) (term k z) (rest k p)) ∙ ap (λ q. term m c *ᴾ q) (sym (apart k p)))
        (covered_first (term (m · k) (c *ℤ z)) (term m c *ᴾ rest k p) (term_plain (m · k) (c *ℤ z) (product_plain c z plain (h.plain k))) (times_plain (term m c) (rest k p) (term_plain m c plain) (rest_plain k p h))) in
        le_trans (at_least c z n) (subst (λ y. unsigned_abs y ≤ unsigned_abs (coefficient (term m c *ᴾ p) (m · k))) (coefficient-term (m · k) (c *ℤ z)) (c1.at_most (m · k)))
      where
        one_product : (m : Monomial) (c : ℤ) (k : Monomial) (z : ℤ) → term m c *ᴾ term k z ≡ term (m · k) (c *ℤ z)
        one_product m c k z = term_times_term m k c z

        product_plain : (c z : ℤ) → c ≡ pos (unsigned_abs c) → z ≡ pos (unsigned_abs z) → c *ℤ z ≡ pos (unsigned_abs (c *ℤ z))
        product_plain c z e f = ap₂ ◌*ℤ◌ e f ∙ ap (λ y. pos y) (sym (unsigned_abs-mul c z))

        at_least : (c z : ℤ) → ¬ (c ≡ pos 0) → unsigned_abs z ≤ unsigned_abs (c *ℤ z)
        at_least c z n = subst (λ y. unsigned_abs z ≤ y) (sym (unsigned_abs-mul c z)) (grow (unsigned_abs c) (unsigned_abs z) (λ e. n (unsigned_abs_zero c e)))
          where
            grow : (a b : ℕ) → ¬ (a ≡ 0) → b ≤ a * b
            grow zero b o = absurd (o refl)
            grow (suc a) b o = omega (arith, Rattle.std.proofs.Math.Nat.mul_comm (suc a) b)

-- a multiple by a polynomial that is not 0
pub grows_times : (a p : WholePolynomial) → ¬ (a ≡ 0ᴾ) → IsNonNegative a → IsNonNegative p → GrowsTo p (a *ᴾ p)
grows_times a p n h k =
    let r = reached (λ m. 0) a n in
    let c = coefficient a r.0 in
    grows_trans p (term r.0 c *ᴾ p) (a *ᴾ p) (grows_term r.0 c p r.1 (h.plain r.0) k)
    (grows_covered (term r.0 c *ᴾ p) (a *ᴾ p) (subst (IsCovered (term r.0 c *ᴾ p)) (sym (splits a p r.0))
    (covered_first (term r.0 c *ᴾ p) (rest r.0 a *ᴾ p) (times_plain (term r.0 c) p (term_plain r.0 c (h.plain r.0)) k) (times_plain (rest r.0 a) p (rest_plain r.0 a h) k))))
  where
    splits : (a p : WholePolynomial) (m : Monomial) → a *ᴾ p ≡ term m (coefficient a m) *ᴾ p +ᴾ rest m a *ᴾ p
    splits a p m = *ᴾ_comm a p ∙ ap (λ q. p *ᴾ q) (apart m a) ∙ *ᴾ-dist p (term m (coefficient a m)) (rest m a) ∙ ap₂ ◌+ᴾ◌ (*ᴾ_comm p (term m (coefficient a m))) (*ᴾ_comm p (rest m a))
