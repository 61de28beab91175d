-- Lists of equations in order: the place where one goes, and what is added to a list.
use Rattle.std.specs.Prelude.{◌≡◌, ℕ, ◌<◌, ◌≤◌, ◌⊎◌, ◌↔◌, List, length, remove, slice_index_or}
use Rattle.std.proofs.Common.{Ordering, Less, Greater}
use Rattle.std.specs.List.{AllByRecursion as Every, Contains}
use Rattle.std.specs.List.Sorted.{IsStrictlySortedBy}
use Rattle.lie_math.specs.LinearForm.{LinearForm, no_form}
use Rattle.lie_math.specs.LinearSystem.{LinearSystem}
use Rattle.lie_systems.specs.EquationOrder.{equation_cmp}
use Rattle.lie_systems.specs.Normalised.{primitive, IsNormalised}
use Rattle.lie_systems.specs.ValidSystems.{IsFormOf}

-- where x is to be put in a list in order: it is greater than each element before the place, and less than each from there on
pub record IsInsertionPoint {X : Type 0} (R : X → X → Ordering) (x : X) (xs : List X) (i : ℕ) : Type 0 where
  pub within : i ≤ length xs
  pub above : (k : ℕ) (d : X) → k < i → R x (slice_index_or xs k d) ≡ Greater
  pub below : (k : ℕ) (d : X) → i ≤ k → k < length xs → R x (slice_index_or xs k d) ≡ Less

-- the list with one element at the place is the other without it
pub record IsOneMore {X : Type 0} (i : ℕ) (old new : List X) : Type 0 where
  pub within : i < length new
  pub without : remove new i ≡ old

-- what has P is added to the equations, which stay in order, each once
pub record Adds (P : LinearForm → Type 0) (old new : List LinearForm) : Type 0 where
  pub ordered : IsStrictlySortedBy equation_cmp new
  pub kept : Every (Contains new) old
  pub added : (e : LinearForm) → P e → Contains new e
  pub alone : Every (λ e. Contains old e ⊎ P e) new

-- the normalised equation of a form that is not empty
abbrev pub IsEquationOf : LinearForm → LinearForm → Type 0
IsEquationOf E e = (¬ (E ≡ no_form)) × (e ≡ primitive E)

-- Ns is in order, and has the equations of Es and E besides, each once
pub record HasAlso (E : LinearForm) (Es Ns : List LinearForm) : Type 0 where
  pub ordered : IsStrictlySortedBy equation_cmp Ns
  pub elements : (N : LinearForm) → Contains Ns N ↔ ((E ≡ N) ⊎ Contains Es N)

-- the same, where an empty equation counts for nothing
pub record HasUnlessEmpty (E : LinearForm) (Es Ns : List LinearForm) : Type 0 where
  pub ordered : IsStrictlySortedBy equation_cmp Ns
  pub elements : (N : LinearForm) → Contains Ns N ↔ (((E ≡ N) × ¬ (N ≡ no_form)) ⊎ Contains Es N)

-- empty, or an equation that a valid system of these unknowns in n variables can have
abbrev pub IsEquationFor : ℕ → LinearSystem → LinearForm → Type 0
IsEquationFor n S E = IsFormOf n S.unknowns E × (¬ (E ≡ no_form) → IsNormalised E)
