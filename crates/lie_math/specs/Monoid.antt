-- Commutative monoids, and those whose nil can be told.
use Rattle.std.specs.Prelude.{◌≡◌, Bool, true}

-- a commutative monoid
pub record Adder (A : Type 0) : Type 0 where
  pub nil : A
  pub plus : A → A → A
  pub idl : (a : A) → plus nil a ≡ a
  pub assoc : (a b c : A) → plus (plus a b) c ≡ plus a (plus b c)
  pub comm : (a b : A) → plus a b ≡ plus b a

-- one whose nil can be told
pub record Values (A : Type 0) : Type 0 where
  pub adder : Adder A
  pub is_nil : A → Bool
  pub is_nil_nil : is_nil adder.nil ≡ true
  pub nil_of_is : (a : A) → is_nil a ≡ true → a ≡ adder.nil
