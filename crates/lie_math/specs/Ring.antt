-- A commutative ring, and one with its whole numbers.
use Rattle.std.specs.Prelude.{◌≡◌, ℤ, pos, ◌+ℤ◌, ◌*ℤ◌}
use Rattle.lie_math.specs.Monoid.{Adder}

pub record Ring (A : Type 0) : Type 0 where
  pub adder : Adder A
  pub one : A
  pub times : A → A → A
  pub neg : A → A
  pub times_assoc : (a b c : A) → times (times a b) c ≡ times a (times b c)
  pub times_comm : (a b : A) → times a b ≡ times b a
  pub times_idl : (a : A) → times one a ≡ a
  pub dist : (a b c : A) → times a (adder.plus b c) ≡ adder.plus (times a b) (times a c)
  pub neg_l : (a : A) → adder.plus (neg a) a ≡ adder.nil

-- a ring with its whole numbers
pub record Algebra (B : Type 0) : Type 0 where
  pub ring : Ring B
  pub whole : ℤ → B
  pub whole_zero : whole (pos 0) ≡ ring.adder.nil
  pub whole_one : whole (pos 1) ≡ ring.one
  pub whole_plus : (a b : ℤ) → whole (a +ℤ b) ≡ ring.adder.plus (whole a) (whole b)
  pub whole_times : (a b : ℤ) → whole (a *ℤ b) ≡ ring.times (whole a) (whole b)
