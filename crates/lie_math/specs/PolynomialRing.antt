-- Well-formedness of polynomials: they are values, and a commutative ring with its whole numbers.
use Rattle.std.specs.Prelude.{◌≡◌, [], ℤ, pos, negsuc, ◌+ℤ◌, ◌*ℤ◌}
use Rattle.std.proofs.Common.{refl, sym, ap, ap₂, ◌∙◌}
use mathlib.Core.Path.{fun_ext}
use lib.IntN.{*ℤ_comm, zero-*ℤ, *ℤ-zero}
use Rattle.std.specs.Coded.{Coded, coded_ℤ}
use Rattle.lie_math.specs.Integer.{*ℤ-distl, *ℤ-distr, *ℤ-idl, *ℤ_assoc, integers}
use Rattle.lie_math.specs.Canonical.{Additive, sum_of_entries-map, sum_of_entries-nil, sum_of_entries-plus, sum_of_entries-swap}
use Rattle.lie_math.specs.Ring.{Algebra, Ring}
use Rattle.lie_math.specs.Polynomial.{polynomials, 0ᴾ, WholePolynomial, constant, negᴾ, over_terms, polynomial_of, term, terms, ◌*ᴾ◌, ◌+ᴾ◌}
use Rattle.lie_math.specs.MonomialOrder.{monomial_code, ·_assoc, ·_comm, ·_idl}
use Rattle.lie_math.specs.Monomial.{Monomial, unit, ◌·◌}
use Rattle.lie_math.specs.FiniteSumLaws.{sum-none, sum-plus, sum-term, sum_of_terms, term_additive}
use Rattle.lie_math.specs.FiniteSum as finite
use Rattle.lie_math.specs.FiniteSumLaws as finite_laws

abbrev pub polynomial_code : Coded WholePolynomial
polynomial_code = finite_laws.code terms monomial_code coded_ℤ

-- ---- the ring laws

-- a function of terms, additive in each coefficient
abbrev pub AdditiveOnTerms : (Monomial → ℤ → WholePolynomial) → Type 0
AdditiveOnTerms φ = Additive integers polynomials φ

pub times_right : (m : Monomial) (a : ℤ) → AdditiveOnTerms (λ n b. term (m · n) (a *ℤ b))
times_right m a = record {
  on_nil = λ n. ap (term (m · n)) (*ℤ-zero a) ∙ (term_additive terms).on_nil (m · n);
  on_plus = λ n b c. ap (term (m · n)) (*ℤ-distl a b c) ∙ (term_additive terms).on_plus (m · n) (a *ℤ b) (a *ℤ c);
}

pub times_left : (n : Monomial) (b : ℤ) → AdditiveOnTerms (λ m a. term (m · n) (a *ℤ b))
times_left n b = record {
  on_nil = λ m. ap (term (m · n)) (zero-*ℤ b) ∙ (term_additive terms).on_nil (m · n);
  on_plus = λ m a c. ap (term (m · n)) (*ℤ-distr a c b) ∙ (term_additive terms).on_plus (m · n) (a *ℤ b) (c *ℤ b);
}

-- a sum of additive functions is additive
pub over_additive : (F : Monomial → ℤ → Monomial → ℤ → WholePolynomial) (q : WholePolynomial)
    → ((n : Monomial) (b : ℤ) → AdditiveOnTerms (λ m a. F m a n b)) → AdditiveOnTerms (λ m a. over_terms (F m a) q)
over_additive F q add = record {
  on_nil = λ m. ap (λ φ. over_terms φ q) (fun_ext (λ n. fun_ext (λ b. (add n b).on_nil m))) ∙ sum_of_entries-nil polynomials q.list;
  on_plus = λ m a c. ap (λ φ. over_terms φ q) (fun_ext (λ n. fun_ext (λ b. (add n b).on_plus m a c)))
      ∙ sum_of_entries-plus polynomials (F m a) (F m c) q.list;
}

pub times_additive : (q : WholePolynomial) → AdditiveOnTerms (λ m a. over_terms (λ n b. term (m · n) (a *ℤ b)) q)
times_additive q = over_additive (λ m a n b. term (m · n) (a *ℤ b)) q times_left

-- the product of two terms, by the monomials and the numbers of both
abbrev ProductOfTerms : Type 0
ProductOfTerms = Monomial → ℤ → Monomial → ℤ → WholePolynomial

terms_commute : ◌≡◌ {A = ProductOfTerms} (λ m a n b. term (m · n) (a *ℤ b)) (λ m a n b. term (n · m) (b *ℤ a))
terms_commute = fun_ext (λ m. fun_ext (λ a. fun_ext (λ n. fun_ext (λ b. ap₂ term (·_comm m n) (*ℤ_comm a b)))))

pub *ᴾ_comm : (p q : WholePolynomial) → p *ᴾ q ≡ q *ᴾ p
unfolding ◌*ᴾ◌
*ᴾ_comm p q =
    ap (λ (F : ProductOfTerms). over_terms (λ m a. over_terms (F m a) q) p) terms_commute
    ∙ sum_of_entries-swap polynomials (λ m a n b. term (n · m) (b *ℤ a)) p.list q.list

pub +ᴾ-*ᴾ : (p q r : WholePolynomial) → (p +ᴾ q) *ᴾ r ≡ p *ᴾ r +ᴾ q *ᴾ r
unfolding ◌*ᴾ◌
+ᴾ-*ᴾ p q r = sum-plus terms polynomials _ (times_additive r) p q

pub 0ᴾ-*ᴾ : (p : WholePolynomial) → 0ᴾ *ᴾ p ≡ 0ᴾ
unfolding ◌*ᴾ◌
0ᴾ-*ᴾ p = sum-none terms polynomials _ (times_additive p)

pub *ᴾ-dist : (p q r : WholePolynomial) → p *ᴾ (q +ᴾ r) ≡ p *ᴾ q +ᴾ p *ᴾ r
*ᴾ-dist p q r = *ᴾ_comm p (q +ᴾ r) ∙ +ᴾ-*ᴾ q r p ∙ ap₂ ◌+ᴾ◌ (*ᴾ_comm q p) (*ᴾ_comm r p)

pub term-*ᴾ : (m : Monomial) (a : ℤ) (q : WholePolynomial) → term m a *ᴾ q ≡ over_terms (λ n b. term (m · n) (a *ℤ b)) q
unfolding ◌*ᴾ◌
term-*ᴾ m a q = sum-term terms polynomials _ (times_additive q) m a

pub *ᴾ_assoc : (p q r : WholePolynomial) → (p *ᴾ q) *ᴾ r ≡ p *ᴾ (q *ᴾ r)
unfolding ◌*ᴾ◌
*ᴾ_assoc p q r = left ∙ ap (λ F. over_terms (λ m a. over_terms (λ n b. over_terms (F m a n b) r) q) p)
    (fun_ext (λ m. fun_ext (λ a. fun_ext (λ n. fun_ext (λ b. fun_ext (λ k. fun_ext (λ c. ap₂ term (·_assoc m n k) (*ℤ_assoc a b c))))))))
    ∙ sym right
  where
    h : WholePolynomial → WholePolynomial
    h s = over_terms (λ m a. over_terms (λ n b. term (m · n) (a *ℤ b)) r) s

    g : Monomial → ℤ → WholePolynomial → WholePolynomial
    g m a s = over_terms (λ n b. term (m · n) (a *ℤ b)) s

    left : over_terms (λ m a. over_terms (λ n b. term (m · n) (a *ℤ b)) r)
        (over_terms (λ m a. over_terms (λ n b. term (m · n) (a *ℤ b)) q) p)
        ≡ over_terms (λ m a. over_terms (λ n b. over_terms (λ k c. term ((m · n) · k) ((a *ℤ b) *ℤ c)) r) q) p
    left = sum_of_entries-map polynomials polynomials h (sum-none terms polynomials _ (times_additive r))
        (sum-plus terms polynomials _ (times_additive r)) _ p.list
        ∙ ap (λ φ. over_terms φ p) (fun_ext (λ m. fun_ext (λ a.
        sum_of_entries-map polynomials polynomials h (sum-none terms polynomials _ (times_additive r))
        (sum-plus terms polynomials _ (times_additive r)) _ q.list
        ∙ ap (λ φ. over_terms φ q) (fun_ext (λ n. fun_ext (λ b. sum-term terms polynomials _ (times_additive r) (m · n) (a *ℤ b)))))))

    right : over_terms (λ m a. over_terms (λ n b. term (m · n) (a *ℤ b))
        (over_terms (λ m a. over_terms (λ n b. term (m · n) (a *ℤ b)) r) q)) p
        ≡ over_terms (λ m a. over_terms (λ n b. over_terms (λ k c. term (m · (n · k)) (a *ℤ (b *ℤ c))) r) q) p
    right = ap (λ φ. over_terms φ p) (fun_ext (λ m. fun_ext (λ a.
        sum_of_entries-map polynomials polynomials (g m a) (sum-none terms polynomials _ (times_right m a))
        (sum-plus terms polynomials _ (times_right m a)) _ q.list
        ∙ ap (λ φ. over_terms φ q) (fun_ext (λ n. fun_ext (λ b.
        sum_of_entries-map polynomials polynomials (g m a) (sum-none terms polynomials _ (times_right m a))
        (sum-plus terms polynomials _ (times_right m a)) _ r.list
        ∙ ap (λ φ. over_terms φ r) (fun_ext (λ k. fun_ext (λ c. sum-term terms polynomials _ (times_right m a) (n · k) (b *ℤ c))))))))))

pub one-*ᴾ : (p : WholePolynomial) → constant (pos 1) *ᴾ p ≡ p
one-*ᴾ p = term-*ᴾ unit (pos 1) p ∙ ap (λ φ. over_terms φ p) (fun_ext (λ n. fun_ext (λ b. ap₂ term (·_idl n) (*ℤ-idl b))))
    ∙ sum_of_terms terms p

pub negᴾ_l : (p : WholePolynomial) → negᴾ p +ᴾ p ≡ 0ᴾ
negᴾ_l p =
    ap (λ x. negᴾ p +ᴾ x) (sym (one-*ᴾ p)) ∙ sym (+ᴾ-*ᴾ (constant (negsuc 0)) (constant (pos 1)) p)
    ∙ ap (λ x. x *ᴾ p) (sym ((term_additive terms).on_plus unit (negsuc 0) (pos 1)) ∙ (term_additive terms).on_nil unit) ∙ 0ᴾ-*ᴾ p

abbrev pub polynomial_ring : Ring WholePolynomial
polynomial_ring = record {
  adder = polynomials;
  one = constant (pos 1);
  times = ◌*ᴾ◌;
  neg = negᴾ;
  times_assoc = *ᴾ_assoc;
  times_comm = *ᴾ_comm;
  times_idl = one-*ᴾ;
  dist = *ᴾ-dist;
  neg_l = negᴾ_l;
}

pub term_times_term : (m n : Monomial) (a b : ℤ) → term m a *ᴾ term n b ≡ term (m · n) (a *ℤ b)
term_times_term m n a b = term-*ᴾ m a (term n b) ∙ sum-term terms polynomials _ (times_right m a) n b

pub constant-plus : (a b : ℤ) → constant (a +ℤ b) ≡ constant a +ᴾ constant b
constant-plus a b = (term_additive terms).on_plus unit a b

pub constant-times : (a b : ℤ) → constant (a *ℤ b) ≡ constant a *ᴾ constant b
constant-times a b = ap (λ m. term m (a *ℤ b)) (sym (·_idl unit)) ∙ sym (term_times_term unit unit a b)

abbrev pub polynomial_algebra : Algebra WholePolynomial
polynomial_algebra = record {
  ring = polynomial_ring;
  whole = constant;
  whole_zero = (term_additive terms).on_nil unit;
  whole_one = refl;
  whole_plus = constant-plus;
  whole_times = constant-times;
}

pub polynomial_of-none : polynomial_of [] ≡ 0ᴾ
unfolding finite.none
polynomial_of-none = refl
