-- Variables that are tried one after the other: By v N says that N is found by v, and Makes v what the test makes where it comes to v.
use Rattle.std.specs.Prelude.{ℕ, ◌<◌}
use Rattle.lie_math.specs.LinearForm.{LinearForm}
use Rattle.lie_systems.specs.Works.{Made, IsWorkWithin}

-- by none of the variables below v anything is found, and what was made is within the limits
pub record ArePassed (By : ℕ → LinearForm → Type 0) (Makes : ℕ → Made → Type 0) (v : ℕ) : Type 0 where
  pub none : (w : ℕ) (N : LinearForm) → w < v → ¬ (By w N)
  pub within : (w : ℕ) → w < v → IsWorkWithin (Makes w)
