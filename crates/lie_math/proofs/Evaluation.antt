-- The value of a polynomial: the one map that keeps sums, products and whole numbers, and takes the variables where they are told. Every polynomial is made of numbers and variables.
use Rattle.std.specs.Prelude.{◌≡◌, ℕ, zero, suc, ◌+◌, ℤ, pos, ◌*ℤ◌}
use Rattle.std.proofs.Common.{refl, sym, ap, ap₂, subst, ◌∙◌, arith}
use mathlib.Core.Path.{fun_ext}
use lib.IntN.{*ℤ_comm}
use Rattle.lie_math.specs.Canonical.{Additive, middle, sum_of_entries-map}
use Rattle.lie_math.specs.SortedSum.{sum_of_entries}
use Rattle.lie_math.specs.Evaluation.{factors, monomial_value, to_power, value_in}
use Rattle.lie_math.specs.FiniteSumLaws.{sum-none, sum-plus, sum-term, term_additive}
use Rattle.lie_math.specs.Ring.{Algebra}
use Rattle.lie_math.specs.Polynomial.{polynomials, 0ᴾ, WholePolynomial, constant, over_terms, term, terms, variable, ◌*ᴾ◌, ◌+ᴾ◌}
use Rattle.lie_math.specs.Monomial.{Monomial, powers, single, unit, ◌·◌}
use Rattle.lie_math.specs.MonomialOrder.{·_idl}
use Rattle.lie_math.specs.Natural.{naturals}
use Rattle.lie_math.specs.PolynomialRing.{term_times_term}
use Rattle.lie_math.proofs.Ring.{dist_r, nil_times, times_idr, times_nil}
use Rattle.lie_math.specs.Integer.{*ℤ-idl, integers}
use Rattle.lie_math.specs.FiniteSum as finite
use Rattle.lie_math.proofs.FiniteSum as finite_proofs

module _ {B : Type 0} (A : Algebra B) where
  pub to_power-plus : (b : B) (m n : ℕ) → to_power A b (m + n) ≡ A.ring.times (to_power A b m) (to_power A b n)
  to_power-plus b zero n = ap (to_power A b) (plain n) ∙ sym (A.ring.times_idl _)
    where
      plain : (n : ℕ) → 0 + n ≡ n
      plain n = omega arith
  to_power-plus b (suc m) n = ap (to_power A b) (plain m n) ∙ ap (A.ring.times b) (to_power-plus b m n) ∙ sym (A.ring.times_assoc b (to_power A b m) (to_power A b n))
    where
      plain : (m n : ℕ) → suc m + n ≡ suc (m + n)
      plain m n = omega arith

  module _ (at : ℕ → B) where
    pub to_power_additive : Additive naturals (factors A) (λ v e. to_power A (at v) e)
    to_power_additive = record { on_nil = λ v. refl; on_plus = λ v a b. to_power-plus (at v) a b }

    term_value_additive : Additive integers A.ring.adder (λ m a. A.ring.times (A.whole a) (monomial_value A at m))
    term_value_additive = record {
      on_nil = λ m. ap (λ x. A.ring.times x (monomial_value A at m)) A.whole_zero ∙ nil_times A.ring (monomial_value A at m);
      on_plus = λ m a b. ap (λ x. A.ring.times x (monomial_value A at m)) (A.whole_plus a b) ∙ dist_r A.ring (A.whole a) (A.whole b) (monomial_value A at m);
    }

    pub value_in-plus : (p q : WholePolynomial) → value_in A at (p +ᴾ q) ≡ A.ring.adder.plus (value_in A at p) (value_in A at q)
    unfolding value_in
    value_in-plus p q = sum-plus terms A.ring.adder _ term_value_additive p q

    pub value_in-0ᴾ : value_in A at 0ᴾ ≡ A.ring.adder.nil
    unfolding value_in
    value_in-0ᴾ = sum-none terms A.ring.adder _ term_value_additive

    pub value_in-term : (m : Monomial) (a : ℤ) → value_in A at (term m a) ≡ A.ring.times (A.whole a) (monomial_value A at m)
    unfolding value_in
    value_in-term m a = sum-term terms A.ring.adder _ term_value_additive m a

    pub value_in-constant : (a : ℤ) → value_in A at (constant a) ≡ A.whole a
    value_in-constant a = value_in-term unit a ∙ ap (A.ring.times (A.whole a)) (sum-none powers (factors A) _ to_power_additive) ∙ times_idr A.ring (A.whole a)

    pub value_in-variable : (v : ℕ) → value_in A at (variable v) ≡ at v
    value_in-variable v = value_in-term (single v) (pos 1) ∙ ap (λ x. A.ring.times x (monomial_value A at (single v))) A.whole_one ∙ A.ring.times_idl _
        ∙ sum-term powers (factors A) _ to_power_additive v 1 ∙ times_idr A.ring (at v)

    exchange : (a b x y : B) → A.ring.times (A.ring.times a b) (A.ring.times x y) ≡ A.ring.times (A.ring.times a x) (A.ring.times b y)
    exchange a b x y = middle (factors A) a b x y

    pub value_in-times : (p q : WholePolynomial) → value_in A at (p *ᴾ q) ≡ A.ring.times (value_in A at p) (value_in A at q)
    unfolding value_in ◌*ᴾ◌
    value_in-times p q =
        sum_of_entries-map polynomials A.ring.adder (value_in A at) value_in-0ᴾ value_in-plus (λ m a. over_terms (λ n b. term (m · n) (a *ℤ b)) q) p.list
        ∙ ap (λ φ. sum_of_entries A.ring.adder φ p.list) (fun_ext (λ m. fun_ext (λ a.
        sum_of_entries-map polynomials A.ring.adder (value_in A at) value_in-0ᴾ value_in-plus (λ n b. term (m · n) (a *ℤ b)) q.list
        ∙ ap (λ φ. sum_of_entries A.ring.adder φ q.list) (fun_ext (λ n. fun_ext (λ b. value_in-term (m · n) (a *ℤ b) ∙ ap₂ A.ring.times (A.whole_times a b) (sum-plus powers (factors A) _ to_power_additive m n) ∙ exchange (A.whole a) (A.whole b) (monomial_value A at m) (monomial_value A at n))))
        ∙ sym (sum_of_entries-map A.ring.adder A.ring.adder (A.ring.times (A.ring.times (A.whole a) (monomial_value A at m))) (times_nil A.ring _) (A.ring.dist _) (λ n b. A.ring.times (A.whole b) (monomial_value A at n)) q.list))))
        ∙ sym (sum_of_entries-map A.ring.adder A.ring.adder (λ x. A.ring.times x (value_in A at q)) (nil_times A.ring _) (λ x y. dist_r A.ring x y (value_in A at q)) (λ m a. A.ring.times (A.whole a) (monomial_value A at m)) p.list)

-- ---- every polynomial is made of numbers and variables

module _ (P : WholePolynomial → Type 0) (whole : (c : ℤ) → P (constant c)) (on_variable : (v : ℕ) → P (variable v)) (sum : (p q : WholePolynomial) → P p → P q → P (p +ᴾ q)) (product : (p q : WholePolynomial) → P p → P q → P (p *ᴾ q)) where
  of_power : (v e : ℕ) → P (term (finite.term powers v e) (pos 1))
  of_power v zero = subst (λ m. P (term m (pos 1))) (sym ((term_additive powers).on_nil v)) (whole (pos 1))
  of_power v (suc e) =
      subst P (term_times_term (single v) (finite.term powers v e) (pos 1) (pos 1) ∙ ap (λ m. term m (pos 1)) (sym ((term_additive powers).on_plus v 1 e) ∙ ap (finite.term powers v) (plain e)))
      (product (variable v) (term (finite.term powers v e) (pos 1)) (on_variable v) (of_power v e))
    where
      plain : (e : ℕ) → 1 + e ≡ suc e
      plain e = omega arith

  of_mono : (m : Monomial) → P (term m (pos 1))
  of_mono = finite_proofs.induct powers (λ m. P (term m (pos 1))) (whole (pos 1)) (λ v e m h.
      subst P (term_times_term (finite.term powers v e) m (pos 1) (pos 1)) (product _ _ (of_power v e) h))

  of_term : (m : Monomial) (a : ℤ) → P (term m a)
  of_term m a = subst P (term_times_term unit m a (pos 1) ∙ ap₂ term (·_idl m) (*ℤ_comm a (pos 1) ∙ *ℤ-idl a)) (product (constant a) (term m (pos 1)) (whole a) (of_mono m))

  pub generated : (p : WholePolynomial) → P p
  generated = finite_proofs.induct terms P (subst P ((term_additive terms).on_nil unit) (whole (pos 0))) (λ m a p h. sum (term m a) p (of_term m a) h)

-- a map that keeps numbers, sums, products and what the variables are told is the value
pub value_is_unique : {B : Type 0} (A : Algebra B) (at : ℕ → B) (h : WholePolynomial → B) → ((c : ℤ) → h (constant c) ≡ A.whole c) → ((v : ℕ) → h (variable v) ≡ at v)
    → ((p q : WholePolynomial) → h (p +ᴾ q) ≡ A.ring.adder.plus (h p) (h q)) → ((p q : WholePolynomial) → h (p *ᴾ q) ≡ A.ring.times (h p) (h q)) → (p : WholePolynomial) → h p ≡ value_in A at p
value_is_unique A at h whole told sums products = generated (λ p. h p ≡ value_in A at p)
    (λ c. whole c ∙ sym (value_in-constant A at c)) (λ v. told v ∙ sym (value_in-variable A at v))
    (λ p q e f. sums p q ∙ ap₂ A.ring.adder.plus e f ∙ sym (value_in-plus A at p q))
    (λ p q e f. products p q ∙ ap₂ A.ring.times e f ∙ sym (value_in-times A at p q))
