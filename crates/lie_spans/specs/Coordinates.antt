-- The coordinates of a vector in a list of vectors, as fractions.
use Rattle.std.specs.Prelude.{◌≡◌, ℕ, ◌<◌, List, ℤ, pos, ◌*ℤ◌, length, get_or, ◌≤◌, unsigned_abs}
use Rattle.std.specs.Int.{IsGcd}
use Rattle.lie_spans.specs.Spans.{IsSpanned}
use Rattle.lie_spans.specs.Reduced.{IsPivot}

-- w is the sum of the vectors, each times its fraction: of a combination that is a multiple of w, each number over the multiple is the
-- fraction
pub record IsSumOf {V C : Type 0} (entry : V → C → ℤ) (vs : List V) (numerator : ℕ → ℤ) (denominator : ℕ → ℕ) (w : C → ℤ) : Type 0 where
  pub spanned : IsSpanned entry vs w
  pub fractions : (i : ℕ) → i < length vs → spanned.numbers i *ℤ pos (denominator i) ≡ numerator i *ℤ pos spanned.multiple

-- each fraction is, at the pivot of its vector, the entry of w over that of the vector
abbrev pub AreAtPivots : {V C : Type 0} → (V → C → ℤ) → (C → C → Type 0) → List V → (ℕ → ℤ) → (ℕ → ℕ) → (C → ℤ) → Type 0
AreAtPivots {V} {C} entry before vs numerator denominator w =
    (i : ℕ) (r : V) (k : C) → i < length vs → r ≡ get_or vs i r → IsPivot entry before r k
    → numerator i *ℤ entry r k ≡ w k *ℤ pos (denominator i)

-- a fraction in lowest terms, over a number of at least 1
pub record IsLowest (numerator : ℤ) (denominator : ℕ) : Type 0 where
  pub positive : 1 ≤ denominator
  pub lowest : IsGcd (unsigned_abs numerator) denominator 1
