-- Reduced lists of vectors: each has no common divisor, the pivots rise, and each is positive at its pivot, where all others are 0.
use Rattle.std.specs.Prelude.{◌≡◌, ℕ, List, ℤ, pos, ◌<ℤ◌, unsigned_abs}
use Prim.Native.Nat.{◌∣◌}
use Rattle.std.specs.List.{AllByRecursion as Every}
use Rattle.lie_spans.specs.Spans.{EveryTwo}

-- no number but 1 divides all entries
abbrev pub HasNoCommonDivisor : {V C : Type 0} → (V → C → ℤ) → V → Type 0
HasNoCommonDivisor {V} {C} entry v = (d : ℕ) → ((k : C) → d ∣ unsigned_abs (entry v k)) → d ≡ 1

-- k is the first column where v is not 0, and v is positive there
pub record IsPivot {V C : Type 0} (entry : V → C → ℤ) (before : C → C → Type 0) (v : V) (k : C) : Type 0 where
  pub positive : pos 0 <ℤ entry v k
  pub first : (j : C) → before j k → entry v j ≡ pos 0

-- the pivot of v is before that of w, and each is 0 at the other's
pub record IsApart {V C : Type 0} (entry : V → C → ℤ) (before : C → C → Type 0) (v w : V) (j k : C) : Type 0 where
  pub rise : before j k
  pub left : entry v k ≡ pos 0
  pub right : entry w j ≡ pos 0

pub record IsReduced {V C : Type 0} (entry : V → C → ℤ) (before : C → C → Type 0) (vs : List V) : Type 0 where
  pub primitive : Every (HasNoCommonDivisor entry) vs
  pub pivots : Every (λ v. (k : C) × IsPivot entry before v k) vs
  pub apart : EveryTwo (λ v w. (j k : C) → IsPivot entry before v j → IsPivot entry before w k → IsApart entry before v w j k) vs
