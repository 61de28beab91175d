-- What follows from the laws of a commutative ring.
use Rattle.std.specs.Prelude.{◌≡◌}
use Rattle.std.proofs.Common.{sym, ap, ◌∙◌}
use Rattle.lie_math.specs.Ring.{Ring}
use Rattle.lie_math.specs.Canonical.{idr}

module _ {A : Type 0} (R : Ring A) where
  pub plus_idr : (a : A) → R.adder.plus a R.adder.nil ≡ a
  plus_idr a = idr R.adder a

  pub times_idr : (a : A) → R.times a R.one ≡ a
  times_idr a = R.times_comm a R.one ∙ R.times_idl a

  pub dist_r : (a b c : A) → R.times (R.adder.plus a b) c ≡ R.adder.plus (R.times a c) (R.times b c)
  dist_r a b c = R.times_comm _ c ∙ R.dist c a b ∙ (λ i. R.adder.plus (R.times_comm c a i) (R.times_comm c b i))

  pub times_left_comm : (a b c : A) → R.times a (R.times b c) ≡ R.times b (R.times a c)
  times_left_comm a b c = sym (R.times_assoc a b c) ∙ ap (λ x. R.times x c) (R.times_comm a b) ∙ R.times_assoc b a c

  -- a term may be taken off both sides
  pub plus_cancel : (a b c : A) → R.adder.plus c a ≡ R.adder.plus c b → a ≡ b
  plus_cancel a b c e = sym (off a) ∙ ap (R.adder.plus (R.neg c)) e ∙ off b
    where
      off : (x : A) → R.adder.plus (R.neg c) (R.adder.plus c x) ≡ x
      off x = sym (R.adder.assoc (R.neg c) c x) ∙ ap (λ y. R.adder.plus y x) (R.neg_l c) ∙ R.adder.idl x

  pub times_nil : (a : A) → R.times a R.adder.nil ≡ R.adder.nil
  times_nil a = plus_cancel _ _ (R.times a R.adder.nil) (sym (R.dist a R.adder.nil R.adder.nil) ∙ ap (R.times a) (R.adder.idl R.adder.nil) ∙ sym (plus_idr _))

  pub nil_times : (a : A) → R.times R.adder.nil a ≡ R.adder.nil
  nil_times a = R.times_comm _ a ∙ times_nil a
  -- the other one of two that add up to nil
