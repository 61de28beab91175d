-- Weighted norms of polynomials: each number counts as often as is told by the degree of its monomial. What sums, products with variables and derivations do to them.
use Rattle.std.specs.Prelude.{◌≡◌, ℕ, zero, suc, ◌+◌, ◌-◌, ◌*◌, ◌≤◌, Bool, true, false, cond, List, [], ◌∷◌, ◌++◌, ℤ, pos, negsuc, ◌+ℤ◌, ◌*ℤ◌, unsigned_abs, ◌⊎◌}
use Rattle.std.proofs.Common.{refl, sym, ap, ap₂, subst, ◌∙◌, arith, inl, inr, Less, Equal, Greater}
use borrow.Author.Differences.{ints}
use Rattle.std.proofs.lemmas.Int.{unsigned_abs-mul}
use Rattle.std.specs.FinMap.Entries.{by_order}
use Rattle.std.specs.Ordering.{eq_by_cmp}
use Rattle.lie_math.specs.Canonical.{sum_of_entries-append, sum_of_entries-map, Additive}
use Rattle.lie_math.specs.Derivation.{IsDerivation}
use Rattle.lie_math.specs.FiniteSum as finite
use Rattle.lie_math.specs.FiniteSum.{Shape, FiniteSum}
use Rattle.lie_math.specs.FiniteSumLaws as finite_laws
use Rattle.lie_math.specs.Integer.{*ℤ-idl}
use Rattle.lie_math.specs.Limits.{absolutes, absolute}
use Rattle.lie_math.specs.Monomial.{powers, Monomial, degree, unit, ◌·◌, single}
use Rattle.lie_math.specs.MonomialOrder.{·_idl}
use Rattle.lie_math.specs.Natural.{naturals}
use Rattle.lie_math.specs.Polynomial.{terms, term, WholePolynomial, coefficient, 0ᴾ, ◌+ᴾ◌, polynomials, over_terms, ◌*ᴾ◌, constant, variable}
use Rattle.lie_math.specs.PolynomialRing.{term-*ᴾ, term_times_term, one-*ᴾ, polynomial_ring}
use Rattle.lie_math.specs.SortedSum.{sum_of_entries, put_new, add_at, normal, value_at}
use Rattle.lie_math.proofs.Derivation.{derived-0ᴾ}
use Rattle.lie_math.proofs.FiniteSum as finite_proofs
use Rattle.lie_math.proofs.Ring.{nil_times}

-- ---- numbers
pub times_le : (x a b : ℕ) → a ≤ b → a * x ≤ b * x
times_le x a b h = let e : b ≡ a + (b - a) = omega arith in let k : b * x ≡ (a + (b - a)) * x = ap (λ t. t * x) e in omega arith

pub le_times : (x a b : ℕ) → a ≤ b → x * a ≤ x * b
le_times x a b h = let e : b ≡ a + (b - a) = omega arith in let k : x * b ≡ x * (a + (b - a)) = ap (λ t. x * t) e in omega arith

pub le_trans : (a b c : ℕ) → a ≤ b → b ≤ c → a ≤ c
le_trans a b c h k = omega arith

pub le_same : (a b : ℕ) → a ≡ b → a ≤ b
le_same a b h = omega arith

pub le_sum : (a b c d : ℕ) → a ≤ c → b ≤ d → a + b ≤ c + d
le_sum a b c d h k = omega arith

-- ---- sums over entries of a number that is subadditive in the value
abbrev pub total : {K A : Type 0} → (K → A → ℕ) → List (K × A) → ℕ
total φ es = sum_of_entries naturals φ es

pub total_le : {K A : Type 0} (φ ψ : K → A → ℕ) → ((k : K) (a : A) → φ k a ≤ ψ k a) → (es : List (K × A)) → total φ es ≤ total ψ es
total_le φ ψ h [] = omega arith
total_le φ ψ h (e ∷ es) = le_sum _ _ _ _ (h e.0 e.1) (total_le φ ψ h es)

module _ {K A : Type 0} (S : Shape K A) (φ : K → A → ℕ) (sub : (k : K) (a b : A) → φ k (S.values.adder.plus a b) ≤ φ k a + φ k b) where
  total-put_new : (k : K) (a : A) (es : List (K × A)) → total φ (put_new S.order S.values k a es) ≤ φ k a + total φ es
  total-put_new k a es = elim (S.values.is_nil a) as (λ t. total φ (cond t es ((k, a) ∷ es)) ≤ φ k a + total φ es) [
    | true ↦ more (φ k a) (total φ es)
    | false ↦ le_same (φ k a + total φ es) _ refl
  ]
    where
      more : (a b : ℕ) → b ≤ a + b
      more a b = omega arith

  total-add_at : (k : K) (a : A) (es : List (K × A)) → total φ (add_at S.order S.values k a es) ≤ φ k a + total φ es
  total-add_at k a [] = total-put_new k a []
  total-add_at k a (e ∷ es) =
      elim (S.order k e.0) as (λ r. S.order k e.0 ≡ r → total φ (by_order r (put_new S.order S.values k a (e ∷ es)) (put_new S.order S.values k (S.values.adder.plus a e.1) es) (e ∷ add_at S.order S.values k a es)) ≤ φ k a + (φ e.0 e.1 + total φ es)) [
        | Less ↦ λ p. total-put_new k a (e ∷ es)
        | Equal ↦ λ p. joined _ _ _ _ _ (total-put_new k (S.values.adder.plus a e.1) es) (subst (λ x. φ k (S.values.adder.plus a e.1) ≤ φ k a + φ x e.1) (S.same k e.0 p) (sub k a e.1))
        | Greater ↦ λ p. passed _ _ _ _ (total-add_at k a es)
      ] refl
    where
      joined : (t s a b c : ℕ) → t ≤ s + c → s ≤ a + b → t ≤ a + (b + c)
      joined t s a b c h k = omega arith

      passed : (t a b c : ℕ) → t ≤ a + c → b + t ≤ a + (b + c)
      passed t a b c h = omega arith

  total-normal : (es : List (K × A)) → total φ (normal S.order S.values es) ≤ total φ es
  total-normal [] = omega arith
  total-normal (e ∷ es) = le_trans _ _ _ (total-add_at e.0 e.1 (normal S.order S.values es)) (le_sum _ _ _ _ (le_same (φ e.0 e.1) _ refl) (total-normal es))

  pub total-of : (es : List (K × A)) → total φ (finite.of S es).list ≤ total φ es
  unfolding finite.of
  total-of es = total-normal es

  pub total-plus : (p q : FiniteSum S) → total φ (finite.plus S p q).list ≤ total φ p.list + total φ q.list
  unfolding finite.plus
  total-plus p q = le_trans _ _ _ (total-of (p.list ++ q.list)) (le_same _ _ (sum_of_entries-append naturals φ p.list q.list))

  pub total-term : (k : K) (a : A) → total φ (finite.term S k a).list ≤ φ k a
  unfolding finite.term
  total-term k a = le_trans _ _ _ (total-of ((k, a) ∷ [])) (plain (φ k a))
    where
      plain : (n : ℕ) → n + 0 ≤ n
      plain n = omega arith

  pub total-none : total φ (finite.none S).list ≡ 0
  unfolding finite.none finite.of
  total-none = refl

  -- a sum of sums, one for each entry of a list
  pub total-over : {L C : Type 0} (ψ : L → C → FiniteSum S) (es : List (L × C)) → total φ (sum_of_entries (finite_laws.adder S) ψ es).list ≤ total (λ l c. total φ (ψ l c).list) es
  total-over ψ [] = le_same _ _ total-none
  total-over ψ (e ∷ es) = le_trans _ _ _ (total-plus (ψ e.0 e.1) (sum_of_entries (finite_laws.adder S) ψ es)) (le_sum _ _ _ _ (le_same (total φ (ψ e.0 e.1).list) _ refl) (total-over ψ es))

  -- no value counts for more than the sum
  pub value_at_most : (nil : (k : K) → φ k S.values.adder.nil ≡ 0) (k : K) (p : FiniteSum S) → φ k (finite.value S p k) ≤ total φ p.list
  value_at_most nil k p = go p.list
    where
      at : (e : K × A) (t : Bool) → eq_by_cmp S.order k e.0 ≡ t → φ k (cond t e.1 S.values.adder.nil) ≤ φ e.0 e.1
      at e true h = le_same _ _ (ap (λ x. φ x e.1) (finite_proofs.key S k e.0 h))
      at e false h = nothing _ _ (nil k)
        where
          nothing : (a b : ℕ) → a ≡ 0 → a ≤ b
          nothing a b h = omega arith

      go : (es : List (K × A)) → φ k (value_at S.order S.values k es) ≤ total φ es
      go [] = le_same _ _ (nil k)
      go (e ∷ es) = le_trans _ _ _ (sub k _ _) (le_sum _ _ _ _ (at e (eq_by_cmp S.order k e.0) refl) (go es))

-- ---- degrees
degree_additive : Additive {K = ℕ} powers.values.adder naturals (λ v e. e)
degree_additive = record { on_nil = λ v. refl; on_plus = λ v a b. refl }

pub degree-unit : degree unit ≡ 0
degree-unit = finite_laws.sum-none powers naturals (λ v e. e) degree_additive

pub degree_raised : (v : ℕ) (m : Monomial) → degree (single v · m) ≡ suc (degree m)
degree_raised v m = finite_laws.sum-plus powers naturals (λ v e. e) degree_additive (single v) m ∙ ap (λ n. n + degree m) (finite_laws.sum-term powers naturals (λ v e. e) degree_additive v 1) ∙ next (degree m)
  where
    next : (n : ℕ) → 1 + n ≡ suc n
    next n = omega arith

-- ---- weighted norms
abbrev pub weighted_term : (ℕ → ℕ) → Monomial → ℤ → ℕ
weighted_term w m a = unsigned_abs a * w (degree m)

abbrev pub weighted : (ℕ → ℕ) → WholePolynomial → ℕ
weighted w p = total (weighted_term w) p.list

pub absolute_sum : (a b : ℤ) → unsigned_abs (a +ℤ b) ≤ unsigned_abs a + unsigned_abs b
absolute_sum a b = omega (arith, ints)

weighted_sub : (w : ℕ → ℕ) (m : Monomial) (a b : ℤ) → weighted_term w m (a +ℤ b) ≤ weighted_term w m a + weighted_term w m b
weighted_sub w m a b = spread _ _ _ _ (times_le (w (degree m)) _ _ (absolute_sum a b))
  where
    spread : (t a b x : ℕ) → t ≤ (a + b) * x → t ≤ a * x + b * x
    spread t a b x h = omega arith

-- greater degrees do not count less
abbrev pub Rises : (ℕ → ℕ) → Type 0
Rises w = (n : ℕ) → w n ≤ w (suc n)

module _ (w : ℕ → ℕ) where
  pub weighted-plus : (p q : WholePolynomial) → weighted w (p +ᴾ q) ≤ weighted w p + weighted w q
  weighted-plus p q = total-plus terms (weighted_term w) (weighted_sub w) p q

  pub weighted-term : (m : Monomial) (a : ℤ) → weighted w (term m a) ≤ unsigned_abs a * w (degree m)
  weighted-term m a = total-term terms (weighted_term w) (weighted_sub w) m a

  pub weighted-none : weighted w 0ᴾ ≡ 0
  weighted-none = total-none terms (weighted_term w) (weighted_sub w)

  pub weighted-over : (φ : Monomial → ℤ → WholePolynomial) (es : List (Monomial × ℤ)) → weighted w (sum_of_entries polynomials φ es) ≤ total (λ m a. weighted w (φ m a)) es
  weighted-over φ es = total-over terms (weighted_term w) (weighted_sub w) φ es

  pub weighted_at_most : (p : WholePolynomial) (m : Monomial) → unsigned_abs (coefficient p m) * w (degree m) ≤ weighted w p
  weighted_at_most p m = value_at_most terms (weighted_term w) (weighted_sub w) (λ m. none (w (degree m))) m p
    where
      none : (n : ℕ) → 0 * n ≡ 0
      none n = omega arith

  -- a map of the terms that takes each to no more
  pub weighted-map : (x : ℕ → ℕ) (φ : Monomial → ℤ → WholePolynomial) → ((m : Monomial) (a : ℤ) → weighted w (φ m a) ≤ weighted_term x m a) → (p : WholePolynomial) → weighted w (over_terms φ p) ≤ weighted x p
  weighted-map x φ h p = le_trans _ _ _ (weighted-over φ p.list) (total_le _ _ h p.list)

  -- a variable raises each degree by one
  pub weighted-variable_times : (v : ℕ) (p : WholePolynomial) → weighted w (variable v *ᴾ p) ≤ weighted (λ n. w (suc n)) p
  weighted-variable_times v p =
      le_trans _ _ _ (le_same _ _ (ap (weighted w) (term-*ᴾ (single v) (pos 1) p)))
      (weighted-map (λ n. w (suc n)) (λ n b. term (single v · n) (pos 1 *ℤ b)) (λ n b. le_trans _ _ _ (weighted-term (single v · n) (pos 1 *ℤ b)) (le_same _ _ (ap₂ (λ z k. unsigned_abs z * w k) (*ℤ-idl b) (degree_raised v n)))) p)

  pub weighted_negative : (p : WholePolynomial) → weighted w (constant (negsuc 0) *ᴾ p) ≤ weighted w p
  weighted_negative p =
      le_trans _ _ _ (le_same _ _ (ap (weighted w) (term-*ᴾ unit (negsuc 0) p)))
      (weighted-map w (λ n b. term (unit · n) (negsuc 0 *ℤ b)) (λ n b. le_trans _ _ _ (weighted-term (unit · n) (negsuc 0 *ℤ b)) (le_same _ _ (ap₂ (λ z k. z * w (degree k)) (unsigned_abs-mul (negsuc 0) b ∙ one (unsigned_abs b)) (·_idl n)))) p)
    where
      one : (n : ℕ) → 1 * n ≡ n
      one n = omega arith

  -- the absolute values count as much
  pub weighted_absolute : (p : WholePolynomial) → weighted w (absolute p) ≤ weighted w p
  unfolding absolute
  weighted_absolute p = le_trans _ _ _ (total-of terms (weighted_term w) (weighted_sub w) (absolutes p.list)) (le_same _ _ (go p.list))
    where
      go : (es : List (Monomial × ℤ)) → total (weighted_term w) (absolutes es) ≡ total (weighted_term w) es
      go [] = refl
      go (e ∷ es) = ap (λ n. weighted_term w e.0 e.1 + n) (go es)

-- weights that are sums
pub weighted-sum : (v w : ℕ → ℕ) (p : WholePolynomial) → weighted (λ n. v n + w n) p ≡ weighted v p + weighted w p
weighted-sum v w p = go p.list
  where
    spread : (a x y s t : ℕ) → a * (x + y) + (s + t) ≡ (a * x + s) + (a * y + t)
    spread a x y s t = omega arith

    go : (es : List (Monomial × ℤ)) → total (weighted_term (λ n. v n + w n)) es ≡ total (weighted_term v) es + total (weighted_term w) es
    go [] = refl
    go (e ∷ es) = ap (λ n. unsigned_abs e.1 * (v (degree e.0) + w (degree e.0)) + n) (go es) ∙ spread (unsigned_abs e.1) (v (degree e.0)) (w (degree e.0)) _ _

pub weighted-multiple : (c : ℕ) (w : ℕ → ℕ) (p : WholePolynomial) → weighted (λ n. c * w n) p ≡ c * weighted w p
weighted-multiple c w p = go p.list
  where
    spread : (a c x s : ℕ) → a * (c * x) + c * s ≡ c * (a * x + s)
    spread a c x s = omega arith

    none : (c : ℕ) → 0 ≡ c * 0
    none c = omega arith

    go : (es : List (Monomial × ℤ)) → total (weighted_term (λ n. c * w n)) es ≡ c * total (weighted_term w) es
    go [] = none c
    go (e ∷ es) = ap (λ n. unsigned_abs e.1 * (c * w (degree e.0)) + n) (go es) ∙ spread (unsigned_abs e.1) c (w (degree e.0)) (total (weighted_term w) es)

-- ---- a derivation that takes each variable to 0, to 1 or to a variable
abbrev pub IsSimple : WholePolynomial → Type 0
IsSimple s = (s ≡ 0ᴾ) ⊎ ((s ≡ constant (pos 1)) ⊎ ((v : ℕ) × (s ≡ variable v)))

weighted_rises : (w : ℕ → ℕ) → Rises w → (p : WholePolynomial) → weighted w p ≤ weighted (λ n. w (suc n)) p
weighted_rises w rises p = total_le _ _ (λ m a. le_times (unsigned_abs a) _ _ (rises (degree m))) p.list

simple_times : (w : ℕ → ℕ) → Rises w → (s p : WholePolynomial) → IsSimple s → weighted w (s *ᴾ p) ≤ weighted (λ n. w (suc n)) p
simple_times w rises s p (inl e) = nothing _ _ (ap (λ z. weighted w (z *ᴾ p)) e ∙ ap (weighted w) (nil_times polynomial_ring p) ∙ weighted-none w)
  where
    nothing : (a b : ℕ) → a ≡ 0 → a ≤ b
    nothing a b h = omega arith
simple_times w rises s p (inr (inl e)) = le_trans _ _ _ (le_same _ _ (ap (λ z. weighted w (z *ᴾ p)) e ∙ ap (weighted w) (one-*ᴾ p))) (weighted_rises w rises p)
simple_times w rises s p (inr (inr (v, e))) = le_trans _ _ _ (le_same _ _ (ap (λ z. weighted w (z *ᴾ p)) e)) (weighted-variable_times w v p)

module _ {D : WholePolynomial → WholePolynomial} (d : IsDerivation D) (simple : (v : ℕ) → IsSimple (D (variable v))) where
  -- a term gives as many terms as its degree says, none of a greater degree
  abbrev IsDerivedAt : Monomial → Type 0
  IsDerivedAt m = (a : ℤ) (w : ℕ → ℕ) → Rises w → weighted w (D (term m a)) ≤ unsigned_abs a * (degree m * w (degree m))

  derived_unit : IsDerivedAt unit
  derived_unit a w rises = nothing _ _ (ap (weighted w) (d.whole a) ∙ weighted-none w)
    where
      nothing : (a b : ℕ) → a ≡ 0 → a ≤ b
      nothing a b h = omega arith

  derived_raised : (v : ℕ) (m : Monomial) → IsDerivedAt m → IsDerivedAt (single v · m)
  derived_raised v m h a w rises =
      le_trans _ _ _ (le_same _ _ (ap (λ t. weighted w (D t)) (sym (term_times_term (single v) m (pos 1) a ∙ ap (term (single v · m)) (*ℤ-idl a))) ∙ ap (weighted w) (d.times (variable v) (term m a))))
      (le_trans _ _ _ (weighted-plus w _ _)
      (le_trans _ _ _ (le_sum _ _ _ _ (le_trans _ _ _ (weighted-variable_times w v (D (term m a))) (h a (λ n. w (suc n)) (λ n. rises (suc n)))) (le_trans _ _ _ (simple_times w rises (D (variable v)) (term m a) (simple v)) (weighted-term (λ n. w (suc n)) m a)))
      (le_same _ _ (both (unsigned_abs a) (degree m) (w (suc (degree m))) ∙ ap (λ n. unsigned_abs a * (n * w n)) (sym (degree_raised v m))))))
    where
      both : (a n x : ℕ) → a * (n * x) + a * x ≡ a * (suc n * x)
      both a n x = omega arith

  derived_powers : (v e : ℕ) (m : Monomial) → IsDerivedAt m → IsDerivedAt (finite.term powers v e · m)
  derived_powers v zero m h = subst IsDerivedAt (sym (ap (λ n. n · m) ((finite_laws.term_additive powers).on_nil v) ∙ ·_idl m)) h
  derived_powers v (suc e) m h = subst IsDerivedAt (sym (ap (λ n. finite.term powers v n · m) (next e) ∙ ap (λ n. n · m) ((finite_laws.term_additive powers).on_plus v 1 e) ∙ finite_laws.plus_assoc powers _ _ _)) (derived_raised v (finite.term powers v e · m) (derived_powers v e m h))
    where
      next : (e : ℕ) → suc e ≡ 1 + e
      next e = omega arith

  derived_monomial : (m : Monomial) → IsDerivedAt m
  derived_monomial = finite_proofs.induct powers IsDerivedAt derived_unit derived_powers

  pub weighted_derived : (w : ℕ → ℕ) → Rises w → (p : WholePolynomial) → weighted w (D p) ≤ weighted (λ n. n * w n) p
  weighted_derived w rises p =
      le_trans _ _ _ (le_same _ _ (ap (weighted w) (ap D (sym (finite_laws.sum_of_terms terms p)) ∙ sum_of_entries-map polynomials polynomials D (derived-0ᴾ d) d.plus term p.list)))
      (weighted-map w (λ n. n * w n) (λ m a. D (term m a)) (λ m a. derived_monomial m a w rises) p)
