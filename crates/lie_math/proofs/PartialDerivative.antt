-- The partial derivative: of sums, of products, and in either order.
use Rattle.std.specs.Prelude.{◌≡◌, ℕ, zero, suc, ◌+◌, ◌-◌, Bool, true, false, cond, ℤ, pos, ◌*ℤ◌}
use Rattle.std.proofs.Common.{refl, sym, ap, ap₂, ◌∙◌, arith}
use mathlib.Core.Path.{fun_ext}
use native.Mathlib.Decide.{ℕ_discrete}
use lib.IntN.{*ℤ_comm, zero-*ℤ, *ℤ-zero}
use Rattle.std.specs.Ordering.{eq_by_cmp, nat_cmp}
use Rattle.lie_math.specs.Integer.{*ℤ-distl, *ℤ-distr, *ℤ_assoc}
use Rattle.lie_math.specs.FiniteSumLaws.{ext, sum-none, sum-plus, sum-term, term_additive, value-plus}
use Rattle.lie_math.specs.Polynomial.{polynomials, 0ᴾ, WholePolynomial, over_terms, term, terms, ◌*ᴾ◌, ◌+ᴾ◌}
use Rattle.lie_math.specs.PolynomialRing.{AdditiveOnTerms, term-*ᴾ, times_additive, times_right}
use Rattle.lie_math.proofs.FiniteSum.{value-put}
use Rattle.lie_math.specs.Canonical.{sum_of_entries-map, sum_of_entries-plus}
use Rattle.lie_math.specs.MonomialOrder.{·_comm}
use Rattle.lie_math.specs.Monomial.{Monomial, exponent, powers, ◌·◌}
use Rattle.lie_math.specs.PartialDerivative.{lower, partial}
use Rattle.lie_math.specs.FiniteSumLaws as finite_laws
use Rattle.lie_math.proofs.FiniteSum as finite_proofs

pub partial_additive : (v : ℕ) → AdditiveOnTerms (λ m a. term (lower v m) (a *ℤ pos (exponent m v)))
partial_additive v = record {
  on_nil = λ m. ap (term (lower v m)) (zero-*ℤ (pos (exponent m v))) ∙ (term_additive terms).on_nil (lower v m);
  on_plus = λ m a b. ap (term (lower v m)) (*ℤ-distr a b (pos (exponent m v))) ∙ (term_additive terms).on_plus (lower v m) _ _;
}

pub partial-+ᴾ : (v : ℕ) (p q : WholePolynomial) → partial v (p +ᴾ q) ≡ partial v p +ᴾ partial v q
unfolding partial
partial-+ᴾ v p q = sum-plus terms polynomials _ (partial_additive v) p q

pub partial-0ᴾ : (v : ℕ) → partial v 0ᴾ ≡ 0ᴾ
unfolding partial
partial-0ᴾ v = sum-none terms polynomials _ (partial_additive v)

pub partial-term : (v : ℕ) (m : Monomial) (a : ℤ) → partial v (term m a) ≡ term (lower v m) (a *ℤ pos (exponent m v))
unfolding partial
partial-term v m a = sum-term terms polynomials _ (partial_additive v) m a

tied : (q v : ℕ) (f : ℕ → ℕ) (c : ℕ → ℕ) → cond (eq_by_cmp nat_cmp q v) (f v) (c q) ≡ cond (eq_by_cmp nat_cmp q v) (f q) (c q)
tied q v f c = go (eq_by_cmp nat_cmp q v) refl
  where
    go : (b : Bool) → eq_by_cmp nat_cmp q v ≡ b → cond b (f v) (c q) ≡ cond b (f q) (c q)
    go true e = ap f (sym (finite_proofs.key powers q v e))
    go false e = refl

one_off : (b : Bool) (e f x : ℕ) → (b ≡ true → e ≡ suc x) → cond b (e + f - 1) (e + f) ≡ cond b (e - 1) e + f
one_off true e f x h = let k : e ≡ suc x = h refl in omega arith
one_off false e f x h = refl

pub lower-· : (v x : ℕ) (m n : Monomial) → exponent m v ≡ suc x → lower v (m · n) ≡ lower v m · n
lower-· v x m n h = ext powers (lower v (m · n)) (lower v m · n) (λ q.
    value-put powers v _ (m · n) q
    ∙ tied q v (λ w. exponent (m · n) w - 1) (λ w. exponent (m · n) w)
    ∙ ap (λ z. cond (eq_by_cmp nat_cmp q v) (z - 1) z) (value-plus powers m n q)
    ∙ one_off (eq_by_cmp nat_cmp q v) (exponent m q) (exponent n q) x (λ e. ap (exponent m) (finite_proofs.key powers q v e) ∙ h)
    ∙ ap (λ z. z + exponent n q) (sym (value-put powers v _ m q ∙ tied q v (λ w. exponent m w - 1) (λ w. exponent m w)))
    ∙ sym (value-plus powers (lower v m) n q))

pub last_factors_swap : (c d e : ℤ) → (c *ℤ d) *ℤ e ≡ (c *ℤ e) *ℤ d
last_factors_swap c d e = *ℤ_assoc c d e ∙ ap (λ x. c *ℤ x) (*ℤ_comm d e) ∙ sym (*ℤ_assoc c e d)

-- the derivative of a product of two terms, by whether v occurs in the factors
module _ (v : ℕ) (m n : Monomial) (a b : ℤ) where
  vanish : (k : Monomial) (c : ℤ) → term k (c *ℤ pos 0) ≡ 0ᴾ
  vanish k c = ap (term k) (*ℤ-zero c) ∙ (term_additive terms).on_nil k

  product_by : (e f : ℕ) → exponent m v ≡ e → exponent n v ≡ f → term (lower v (m · n)) ((a *ℤ b) *ℤ pos (e + f)) ≡ term (lower v m · n) ((a *ℤ pos e) *ℤ b) +ᴾ term (m · lower v n) (a *ℤ (b *ℤ pos f))
  product_by zero zero p q =
      vanish (lower v (m · n)) (a *ℤ b)
      ∙ sym (ap₂ ◌+ᴾ◌ (ap (term (lower v m · n)) (last_factors_swap a (pos 0) b) ∙ vanish (lower v m · n) (a *ℤ b)) (ap (term (m · lower v n)) (sym (*ℤ_assoc a b (pos 0))) ∙ vanish (m · lower v n) (a *ℤ b)) ∙ finite_laws.plus_idl terms 0ᴾ)
  product_by zero (suc y) p q =
      ap₂ term (ap (lower v) (·_comm m n) ∙ lower-· v y n m q ∙ ·_comm (lower v n) m) (*ℤ_assoc a b (pos (0 + suc y)) ∙ ap (λ k. a *ℤ (b *ℤ pos k)) (plain y))
      ∙ sym (ap (λ x. x +ᴾ term (m · lower v n) (a *ℤ (b *ℤ pos (suc y)))) (ap (term (lower v m · n)) (last_factors_swap a (pos 0) b) ∙ vanish (lower v m · n) (a *ℤ b)) ∙ finite_laws.plus_idl terms _)
    where
      plain : (y : ℕ) → 0 + suc y ≡ suc y
      plain y = omega arith
  product_by (suc x) zero p q =
      ap₂ term (lower-· v x m n p) (ap (λ k. (a *ℤ b) *ℤ pos k) (plain x) ∙ last_factors_swap a b (pos (suc x)))
      ∙ sym (ap (λ z. term (lower v m · n) ((a *ℤ pos (suc x)) *ℤ b) +ᴾ z) (ap (term (m · lower v n)) (sym (*ℤ_assoc a b (pos 0))) ∙ vanish (m · lower v n) (a *ℤ b)) ∙ finite_laws.plus_comm terms _ 0ᴾ ∙ finite_laws.plus_idl terms _)
    where
      plain : (x : ℕ) → suc x + 0 ≡ suc x
      plain x = omega arith
  product_by (suc x) (suc y) p q =
      ap (term (lower v (m · n))) (*ℤ-distl (a *ℤ b) (pos (suc x)) (pos (suc y)))
      ∙ (term_additive terms).on_plus (lower v (m · n)) _ _
      ∙ ap₂ ◌+ᴾ◌ (ap₂ term (lower-· v x m n p) (last_factors_swap a b (pos (suc x)))) (ap₂ term (ap (lower v) (·_comm m n) ∙ lower-· v y n m q ∙ ·_comm (lower v n) m) (*ℤ_assoc a b (pos (suc y))))

  pub product_term : partial v (term (m · n) (a *ℤ b)) ≡ term (lower v m · n) ((a *ℤ pos (exponent m v)) *ℤ b) +ᴾ term (m · lower v n) (a *ℤ (b *ℤ pos (exponent n v)))
  product_term =
      partial-term v (m · n) (a *ℤ b) ∙ ap (λ e. term (lower v (m · n)) ((a *ℤ b) *ℤ pos e)) (value-plus powers m n v)
      ∙ product_by (exponent m v) (exponent n v) refl refl

-- Leibniz
pub partial-*ᴾ : (v : ℕ) (p q : WholePolynomial) → partial v (p *ᴾ q) ≡ partial v p *ᴾ q +ᴾ p *ᴾ partial v q
unfolding ◌*ᴾ◌ partial
partial-*ᴾ v p q = whole ∙ ap (λ F. over_terms (λ m a. over_terms (F m a) q) p) (fun_ext (λ m. fun_ext (λ a. fun_ext (λ n. fun_ext (λ b. product_term v m n a b)))))
    ∙ ap (λ φ. over_terms φ p) (fun_ext (λ m. fun_ext (λ a. sum_of_entries-plus polynomials (λ n b. term (lower v m · n) ((a *ℤ pos (exponent m v)) *ℤ b)) (λ n b. term (m · lower v n) (a *ℤ (b *ℤ pos (exponent n v)))) q.list)))
    ∙ sum_of_entries-plus polynomials (λ m a. over_terms (λ n b. term (lower v m · n) ((a *ℤ pos (exponent m v)) *ℤ b)) q) (λ m a. over_terms (λ n b. term (m · lower v n) (a *ℤ (b *ℤ pos (exponent n v)))) q) p.list
    ∙ ap₂ ◌+ᴾ◌ (sym left) (sym right)
  where
    whole : partial v (p *ᴾ q) ≡ over_terms (λ m a. over_terms (λ n b. partial v (term (m · n) (a *ℤ b))) q) p
    whole = sum_of_entries-map polynomials polynomials (partial v) (partial-0ᴾ v) (partial-+ᴾ v) _ p.list
        ∙ ap (λ φ. over_terms φ p) (fun_ext (λ m. fun_ext (λ a. sum_of_entries-map polynomials polynomials (partial v) (partial-0ᴾ v) (partial-+ᴾ v) _ q.list)))

    left : partial v p *ᴾ q ≡ over_terms (λ m a. over_terms (λ n b. term (lower v m · n) ((a *ℤ pos (exponent m v)) *ℤ b)) q) p
    left = sum_of_entries-map polynomials polynomials (λ s. s *ᴾ q) (sum-none terms polynomials _ (times_additive q)) (sum-plus terms polynomials _ (times_additive q)) _ p.list
        ∙ ap (λ φ. over_terms φ p) (fun_ext (λ m. fun_ext (λ a. term-*ᴾ (lower v m) (a *ℤ pos (exponent m v)) q)))

    right : p *ᴾ partial v q ≡ over_terms (λ m a. over_terms (λ n b. term (m · lower v n) (a *ℤ (b *ℤ pos (exponent n v)))) q) p
    right = ap (λ φ. over_terms φ p) (fun_ext (λ m. fun_ext (λ a.
        sum_of_entries-map polynomials polynomials (λ s. over_terms (λ n b. term (m · n) (a *ℤ b)) s) (sum-none terms polynomials _ (times_right m a)) (sum-plus terms polynomials _ (times_right m a)) _ q.list
        ∙ ap (λ φ. over_terms φ q) (fun_ext (λ n. fun_ext (λ b. sum-term terms polynomials _ (times_right m a) (lower v n) (b *ℤ pos (exponent n v))))))))

-- partial derivatives commute
put_swap : (a b : Bool) (x y z : ℕ) → (a ≡ true → b ≡ true → ⊥) → cond a x (cond b y z) ≡ cond b y (cond a x z)
put_swap true true x y z h = absurd (h refl refl)
put_swap true false x y z h = refl
put_swap false b x y z h = refl

module _ (v w : ℕ) (apart : v ≡ w → ⊥) where
  keeps : (m : Monomial) → exponent (lower v m) w ≡ exponent m w
  keeps m = value-put powers v _ m w ∙ go (eq_by_cmp nat_cmp w v) refl
    where
      go : (b : Bool) → eq_by_cmp nat_cmp w v ≡ b → cond b (exponent m v - 1) (exponent m w) ≡ exponent m w
      go true e = absurd (apart (sym (finite_proofs.key powers w v e)))
      go false e = refl

pub lower_commutes : (v w : ℕ) → (v ≡ w → ⊥) → (m : Monomial) → lower v (lower w m) ≡ lower w (lower v m)
lower_commutes v w apart m = ext powers (lower v (lower w m)) (lower w (lower v m)) (λ q.
    value-put powers v _ (lower w m) q
    ∙ ap₂ (λ x y. cond (eq_by_cmp nat_cmp q v) (x - 1) y) (keeps w v (λ e. apart (sym e)) m) (value-put powers w _ m q)
    ∙ put_swap (eq_by_cmp nat_cmp q v) (eq_by_cmp nat_cmp q w) _ _ _ (λ a b. apart (sym (finite_proofs.key powers q v a) ∙ finite_proofs.key powers q w b))
    ∙ sym (value-put powers w _ (lower v m) q ∙ ap₂ (λ x y. cond (eq_by_cmp nat_cmp q w) (x - 1) y) (keeps v w apart m) (value-put powers v _ m q)))

pub partial_comm_apart : (v w : ℕ) → (v ≡ w → ⊥) → (p : WholePolynomial) → partial v (partial w p) ≡ partial w (partial v p)
unfolding partial
partial_comm_apart v w apart p = twice v w p ∙ ap (λ φ. over_terms φ p) (fun_ext (λ m. fun_ext (λ a.
    ap₂ term (lower_commutes v w apart m) (ap (λ e. (a *ℤ pos (exponent m w)) *ℤ pos e) (keeps w v (λ e. apart (sym e)) m) ∙ last_factors_swap a (pos (exponent m w)) (pos (exponent m v)) ∙ ap (λ e. (a *ℤ pos (exponent m v)) *ℤ pos e) (sym (keeps v w apart m))))))
    ∙ sym (twice w v p)
  where
    twice : (v w : ℕ) (p : WholePolynomial) → partial v (partial w p) ≡ over_terms (λ m a. term (lower v (lower w m)) ((a *ℤ pos (exponent m w)) *ℤ pos (exponent (lower w m) v))) p
    twice v w p = sum_of_entries-map polynomials polynomials (partial v) (partial-0ᴾ v) (partial-+ᴾ v) _ p.list ∙ ap (λ φ. over_terms φ p) (fun_ext (λ m. fun_ext (λ a. partial-term v (lower w m) (a *ℤ pos (exponent m w)))))

pub partial_commutes : (v w : ℕ) (p : WholePolynomial) → partial v (partial w p) ≡ partial w (partial v p)
partial_commutes v w p = elim (ℕ_discrete v w) [ yes e ↦ ap₂ (λ x y. partial x (partial y p)) e (sym e) | no n ↦ partial_comm_apart v w n p ]
