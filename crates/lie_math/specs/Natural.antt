-- The natural numbers as values, for exponents, and with the greatest one as their sum, for degrees.
use Rattle.std.specs.Prelude.{max, ◌≡◌, ℕ, ◌+◌, true, T}
use Rattle.std.proofs.Common.{refl, sym, subst, eqb, arith, eqb→eq}
use Rattle.lie_math.specs.Monoid.{Adder, Values}

pub nat_idl : (a : ℕ) → 0 + a ≡ a
nat_idl a = omega arith

pub nat_assoc : (a b c : ℕ) → (a + b) + c ≡ a + (b + c)
nat_assoc a b c = omega arith

pub nat_comm : (a b : ℕ) → a + b ≡ b + a
nat_comm a b = omega arith

pub nat_nil : (a : ℕ) → eqb a 0 ≡ true → a ≡ 0
nat_nil a e = eqb→eq a 0 (subst T (sym e) tt)

abbrev pub naturals : Adder ℕ
naturals = record { nil = 0; plus = ◌+◌; idl = nat_idl; assoc = nat_assoc; comm = nat_comm }

abbrev pub exponents : Values ℕ
exponents = record { adder = naturals; is_nil = λ n. eqb n 0; is_nil_nil = refl; nil_of_is = nat_nil }

pub max_idl : (a : ℕ) → max 0 a ≡ a
max_idl a = omega arith

pub max_assoc : (a b c : ℕ) → max (max a b) c ≡ max a (max b c)
max_assoc a b c = omega arith

pub max_comm : (a b : ℕ) → max a b ≡ max b a
max_comm a b = omega arith

abbrev pub maxima : Adder ℕ
maxima = record { nil = 0; plus = max; idl = max_idl; assoc = max_assoc; comm = max_comm }
