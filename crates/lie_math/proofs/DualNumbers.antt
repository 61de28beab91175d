-- Numbers a + b·ε with ε·ε = 0 over a ring, and the derivation that they give.
use Rattle.std.specs.Prelude.{◌≡◌, ℕ}
use Rattle.std.proofs.Common.{refl, sym, ap, ap₂, ◌∙◌}
use Rattle.lie_math.specs.Evaluation.{value_in}
use Rattle.lie_math.specs.Ring.{Algebra, Ring}
use Rattle.lie_math.specs.Polynomial.{0ᴾ, WholePolynomial, constant, terms, variable, ◌*ᴾ◌, ◌+ᴾ◌}
use Rattle.lie_math.specs.FiniteSumLaws.{plus_idl, term_additive}
use Rattle.lie_math.proofs.Ring.{dist_r, nil_times, plus_idr, times_nil}
use Rattle.lie_math.specs.PolynomialRing.{constant-plus, constant-times, polynomial_ring}
use Rattle.lie_math.specs.Monomial.{unit}
use Rattle.lie_math.proofs.Evaluation.{generated, value_in-constant, value_in-plus, value_in-times, value_in-variable}
use Rattle.lie_math.specs.Canonical.{left_comm}
use Rattle.lie_math.specs.Derivation.{IsDerivation}

module _ {B : Type 0} (R : Ring B) where
  abbrev dplus : B × B → B × B → B × B
  dplus x y = (R.adder.plus x.0 y.0, R.adder.plus x.1 y.1)

  abbrev dtimes : B × B → B × B → B × B
  dtimes x y = (R.times x.0 y.0, R.adder.plus (R.times x.0 y.1) (R.times x.1 y.0))

  pub d_assoc : (x y z : B × B) → dplus (dplus x y) z ≡ dplus x (dplus y z)
  d_assoc x y z i = (R.adder.assoc x.0 y.0 z.0 i, R.adder.assoc x.1 y.1 z.1 i)

  pub d_comm : (x y : B × B) → dplus x y ≡ dplus y x
  d_comm x y i = (R.adder.comm x.0 y.0 i, R.adder.comm x.1 y.1 i)

  pub d_idl : (x : B × B) → dplus (R.adder.nil, R.adder.nil) x ≡ x
  d_idl x i = (R.adder.idl x.0 i, R.adder.idl x.1 i)

  assoc_second : (a b c x y z : B) → R.adder.plus (R.times (R.times a b) z) (R.times (R.adder.plus (R.times a y) (R.times x b)) c) ≡ R.adder.plus (R.times a (R.adder.plus (R.times b z) (R.times y c))) (R.times x (R.times b c))
  assoc_second a b c x y z = simp (R.dist, dist_r R, R.times_assoc, R.adder.assoc)

  pub d_times_assoc : (x y z : B × B) → dtimes (dtimes x y) z ≡ dtimes x (dtimes y z)
  d_times_assoc x y z i = (R.times_assoc x.0 y.0 z.0 i, assoc_second x.0 y.0 z.0 x.1 y.1 z.1 i)

  comm_second : (a b x y : B) → R.adder.plus (R.times a y) (R.times x b) ≡ R.adder.plus (R.times b x) (R.times y a)
  comm_second a b x y = R.adder.comm _ _ ∙ ap₂ R.adder.plus (R.times_comm x b) (R.times_comm a y)

  pub d_times_comm : (x y : B × B) → dtimes x y ≡ dtimes y x
  d_times_comm x y i = (R.times_comm x.0 y.0 i, comm_second x.0 y.0 x.1 y.1 i)

  idl_second : (a x : B) → R.adder.plus (R.times R.one x) (R.times R.adder.nil a) ≡ x
  idl_second a x = ap₂ R.adder.plus (R.times_idl x) (nil_times R a) ∙ plus_idr R x

  pub d_times_idl : (x : B × B) → dtimes (R.one, R.adder.nil) x ≡ x
  d_times_idl x i = (R.times_idl x.0 i, idl_second x.0 x.1 i)

  dist_second : (a b c x y z : B) → R.adder.plus (R.times a (R.adder.plus y z)) (R.times x (R.adder.plus b c)) ≡ R.adder.plus (R.adder.plus (R.times a y) (R.times x b)) (R.adder.plus (R.times a z) (R.times x c))
  dist_second a b c x y z = simp (R.dist, R.adder.assoc, left_comm R.adder)

  pub d_dist : (x y z : B × B) → dtimes x (dplus y z) ≡ dplus (dtimes x y) (dtimes x z)
  d_dist x y z i = (R.dist x.0 y.0 z.0 i, dist_second x.0 y.0 z.0 x.1 y.1 z.1 i)

  pub d_neg_l : (x : B × B) → dplus (R.neg x.0, R.neg x.1) x ≡ (R.adder.nil, R.adder.nil)
  d_neg_l x i = (R.neg_l x.0 i, R.neg_l x.1 i)

  abbrev dual : Ring (B × B)
  dual = record {
    adder = record { nil = (R.adder.nil, R.adder.nil); plus = dplus; idl = d_idl; assoc = d_assoc; comm = d_comm };
    one = (R.one, R.adder.nil);
    times = dtimes;
    neg = λ x. (R.neg x.0, R.neg x.1);
    times_assoc = d_times_assoc;
    times_comm = d_times_comm;
    times_idl = d_times_idl;
    dist = d_dist;
    neg_l = d_neg_l;
  }

pub zero_part : (p q : WholePolynomial) → 0ᴾ ≡ p *ᴾ 0ᴾ +ᴾ 0ᴾ *ᴾ q
zero_part p q = sym (ap₂ ◌+ᴾ◌ (times_nil polynomial_ring p) (nil_times polynomial_ring q) ∙ plus_idl terms 0ᴾ)

abbrev dual_polynomials : Algebra (WholePolynomial × WholePolynomial)
dual_polynomials = record {
  ring = dual polynomial_ring;
  whole = λ a. (constant a, 0ᴾ);
  whole_zero = λ i. ((term_additive terms).on_nil unit i, 0ᴾ);
  whole_one = refl;
  whole_plus = λ a b i. (constant-plus a b i, sym (plus_idl terms 0ᴾ) i);
  whole_times = λ a b i. (constant-times a b i, zero_part (constant a) (constant b) i);
}

-- the derivation with the given values at the variables
abbrev with_values : (ℕ → WholePolynomial) → ℕ → WholePolynomial × WholePolynomial
with_values d w = (variable w, d w)

unfoldable pub dual_derivation : (ℕ → WholePolynomial) → WholePolynomial → WholePolynomial
dual_derivation d p = (value_in dual_polynomials (with_values d) p).1

same_part : (d : ℕ → WholePolynomial) (p : WholePolynomial) → (value_in dual_polynomials (with_values d) p).0 ≡ p
same_part d = generated (λ p. (value_in dual_polynomials (with_values d) p).0 ≡ p)
    (λ c. ap (λ x. x.0) (value_in-constant dual_polynomials (with_values d) c))
    (λ w. ap (λ x. x.0) (value_in-variable dual_polynomials (with_values d) w))
    (λ p q h k. ap (λ x. x.0) (value_in-plus dual_polynomials (with_values d) p q) ∙ ap₂ ◌+ᴾ◌ h k)
    (λ p q h k. ap (λ x. x.0) (value_in-times dual_polynomials (with_values d) p q) ∙ ap₂ ◌*ᴾ◌ h k)

pub dual_is_derivation : (d : ℕ → WholePolynomial) → IsDerivation (dual_derivation d)
unfolding dual_derivation
dual_is_derivation d = record {
  plus = λ p q. ap (λ x. x.1) (value_in-plus dual_polynomials (with_values d) p q);
  times = λ p q. ap (λ x. x.1) (value_in-times dual_polynomials (with_values d) p q) ∙ ap₂ (λ a b. a *ᴾ (value_in dual_polynomials (with_values d) q).1 +ᴾ (value_in dual_polynomials (with_values d) p).1 *ᴾ b) (same_part d p) (same_part d q);
  whole = λ c. ap (λ x. x.1) (value_in-constant dual_polynomials (with_values d) c);
}

pub dual-variable : (d : ℕ → WholePolynomial) (w : ℕ) → dual_derivation d (variable w) ≡ d w
unfolding dual_derivation
dual-variable d w = ap (λ x. x.1) (value_in-variable dual_polynomials (with_values d) w)
