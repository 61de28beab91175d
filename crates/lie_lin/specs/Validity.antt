-- Parts of what makes a system valid, each of which is decided by one function.
use Rattle.std.specs.Prelude.{◌≡◌, ℕ, ◌<◌, true, List, slice_index_or}
use Rattle.std.specs.List.{AllByRecursion as Every}
use Rattle.std.specs.List.Sorted.{IsStrictlySortedBy}
use Rattle.std.specs.Ordering.{nat_cmp, on}
use Rattle.lie_systems.specs.ValidSystems.{HasVariablesBelow}
use Rattle.lie_jet.specs.declared.derivative.Der.{Der}
use Rattle.lie_lin.specs.Systems.{has_bit, unknown_of}
use Rattle.lie_lin.specs.declared.system.Unknown as kept

-- the variables of the pairs are below n
abbrev pub AreLow : ℕ → List (ℕ × ℕ) → Type 0
AreLow n es = Every (λ (e : ℕ × ℕ). e.0 < n) es

-- each variable by which it is derived is below 8, and its bit is set
abbrev pub AreOwn : ℕ → List ℕ → Type 0
AreOwn bits counts = (v : ℕ) → ¬ (slice_index_or counts v 0 ≡ 0) → (v < 8) × (has_bit bits v ≡ true)

-- a derivative of this unknown by its own variables
abbrev pub IsOwner : kept.Unknown → Der → Type 0
IsOwner f d = (f.number ≡ d.unknown) × AreOwn f.vars d.counts

-- its number is below next, and its variables are below n
abbrev pub IsUnknownBelow : ℕ → ℕ → kept.Unknown → Type 0
IsUnknownBelow n next f = (f.number < next) × HasVariablesBelow n (unknown_of f)

abbrev pub AreRising : List kept.Unknown → Type 0
AreRising fs = IsStrictlySortedBy (on (λ (f : kept.Unknown). f.number) nat_cmp) fs
