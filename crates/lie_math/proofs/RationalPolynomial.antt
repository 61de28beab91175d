-- Equality of rational polynomials and of vector fields, and that a system gives equal fields alike.
use Rattle.std.specs.Prelude.{◌≡◌, ℕ, ◌*◌, ◌<◌, get_or, pos}
use Rattle.std.proofs.Common.{refl, sym, ap, ◌∙◌}
use Rattle.lie_math.specs.Polynomial.{WholePolynomial, constant, ◌*ᴾ◌}
use Rattle.lie_math.specs.PolynomialRing.{polynomial_ring, constant-times, *ᴾ_assoc, *ᴾ_comm}
use Rattle.lie_math.proofs.Ring.{times_left_comm}
use Rattle.lie_math.proofs.Cancellation.{constant_cancel}
use Rattle.lie_math.proofs.Integer.{not_zero}
use Rattle.lie_math.specs.LinearForm.{apply, no_form}
use Rattle.lie_math.specs.RationalPolynomial.{RationalPolynomial, IsSameRational}
use Rattle.lie_math.specs.VectorField.{VectorField, component, IsSameField}
use Rattle.lie_math.specs.LinearSystem.{LinearSystem, Gives}

pub same_rational-itself : (r : RationalPolynomial) → IsSameRational r r
same_rational-itself r = refl

pub same_rational-swapped : (r s : RationalPolynomial) → IsSameRational r s → IsSameRational s r
same_rational-swapped r s h = sym h

-- from b a = a' b' and c b' = b c': both sides of c a and a' c' times b
crossed : (a b c x y z : WholePolynomial) → b *ᴾ x ≡ a *ᴾ y → c *ᴾ y ≡ b *ᴾ z → b *ᴾ (c *ᴾ x) ≡ b *ᴾ (a *ᴾ z)
crossed a b c x y z h k = times_left_comm polynomial_ring b c x ∙ ap (λ w. c *ᴾ w) h ∙ times_left_comm polynomial_ring c a y ∙ ap (λ w. a *ᴾ w) k ∙ times_left_comm polynomial_ring a b z

pub same_rational-joined : (r s t : RationalPolynomial) → 0 < s.over → IsSameRational r s → IsSameRational s t → IsSameRational r t
same_rational-joined r s t h e f = constant_cancel (pos s.over) (not_zero s.over h) _ _ (crossed (constant (pos r.over)) (constant (pos s.over)) (constant (pos t.over)) r.whole s.whole t.whole e f)

-- a multiple of both parts
pub same_rational-multiple : (n : ℕ) (r : RationalPolynomial) → IsSameRational (record { over = n * r.over; whole = constant (pos n) *ᴾ r.whole }) r
same_rational-multiple n r =
    sym (*ᴾ_assoc (constant (pos r.over)) (constant (pos n)) r.whole) ∙ ap (λ c. c *ᴾ r.whole) (*ᴾ_comm (constant (pos r.over)) (constant (pos n)) ∙ sym (constant-times (pos n) (pos r.over)))

pub same_field-swapped : (V W : VectorField) → IsSameField V W → IsSameField W V
same_field-swapped V W h s = sym (h s)

-- equal fields are given by the same systems
pub gives-same_field : (S : LinearSystem) (V W : VectorField) → 0 < V.denominator → IsSameField V W → Gives S V → Gives S W
gives-same_field S V W h e g = record {
  solution = g.solution;
  solves = g.solves;
  multiple = g.multiple;
  positive = g.positive;
  same = λ s.
      constant_cancel (pos V.denominator) (not_zero V.denominator h) _ _
      (crossed (constant (pos W.denominator)) (constant (pos V.denominator)) (constant (pos g.multiple)) (component W s) (component V s) (apply g.solution (get_or S.general s no_form)) (sym (e s)) (g.same s));
}
