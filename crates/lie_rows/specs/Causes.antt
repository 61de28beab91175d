-- Why an elimination gives no rows.
use Rattle.std.specs.Prelude.{ℕ, ◌<◌, List}
use Rattle.std.specs.List.{AllByRecursion as Every}
use Rattle.lie_math.specs.Limits.{number_limit}
use Rattle.lie_systems.specs.Works.{Made, OnCoefficients, IsWorkPast}
use Rattle.lie_ring.specs.declared.failures.PastKind.TheVariants.{Coefficient}
use Rattle.lie_ring.specs.declared.failures.PolyFail.{PolyFail}
use Rattle.lie_ring.specs.declared.failures.PolyFail.TheVariants.{Past, NoMemory}

-- each number is at most 2^127 - 1
abbrev pub AreWithin : List ℕ → Type 0
AreWithin bulks = Every (λ b. b < number_limit) bulks

-- the answer is for want of memory, or an action makes a number past 2^127 - 1; no other limit is passed
abbrev pub IsWorkCause : PolyFail → (Made → Type 0) → Type 0
IsWorkCause (Past Coefficient) makes = IsWorkPast makes OnCoefficients
IsWorkCause (Past kind) makes = ⊥
IsWorkCause NoMemory makes = Unit {0}
