-- Monomials as words: the degree and the exponents of some variables are the digits of a number.
use Rattle.std.specs.Prelude.{◌≡◌, ℕ, suc, ◌+◌, ◌*◌, ◌≤◌, ◌⊎◌, List, [], ◌∷◌}
use Rattle.lie_math.specs.Monomial.{Monomial, exponent, degree}

-- the exponents of the variables, written in the base behind a number
abbrev pub written_behind : ℕ → ℕ → List ℕ → Monomial → ℕ
written_behind base n [] m = n
written_behind base n (v ∷ vs) m = written_behind base (n * base + exponent m v) vs m

-- one of the variables
abbrev pub IsOneOf : ℕ → List ℕ → Type 0
IsOneOf w [] = ⊥
IsOneOf w (v ∷ vs) = (w ≡ v) ⊎ IsOneOf w vs

-- the variables rise, from k on
abbrev pub RiseFrom : ℕ → List ℕ → Type 0
RiseFrom k [] = Unit {0}
RiseFrom k (v ∷ vs) = (k ≤ v) × RiseFrom (suc v) vs

-- the word of a monomial in the variables whose degree is at most the greatest one
pub record IsWord (base : ℕ) (vs : List ℕ) (most : ℕ) (m : Monomial) (word : ℕ) : Type 0 where
  pub is : word ≡ written_behind base (degree m) vs m
  pub held : (v : ℕ) → ¬ (IsOneOf v vs) → exponent m v ≡ 0
  pub low : degree m ≤ most
