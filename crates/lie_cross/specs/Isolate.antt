-- What the test of the rule isolate makes where it comes to a variable, and the first form with one derivative.
use Rattle.std.specs.Prelude.{◌≡◌, ℕ, suc, ◌≤◌, ◌⊎◌, List, length, Option, MatchOption}
use Rattle.std.proofs.Common.{Less}
use Rattle.std.specs.List.{Contains, AllByRecursion as Every}
use Rattle.lie_math.specs.LinearForm.{LinearForm}
use Rattle.lie_math.specs.LinearSystem.{Unknown}
use Rattle.lie_systems.specs.EquationOrder.{equation_cmp}
use Rattle.lie_systems.specs.Works.{Made}
use Rattle.lie_steps.specs.Bulks.{derivatives_made_by}
use Rattle.lie_steps.specs.Isolate.{SomeDepends, SomeIsFree, free_degree, greatest_free_degree, freed, IsSinglePart, IsPartMade}

-- ---- the first part
-- a form with one derivative
abbrev pub IsSingle : LinearForm → Type 0
IsSingle P = length P.list ≡ 1

-- of the forms with one derivative P is the first in the order of equations
pub record IsFirstSingle (Ps : List LinearForm) (P : LinearForm) : Type 0 where
  pub listed : Contains Ps P
  pub single : IsSingle P
  pub first : (Q : LinearForm) → Contains Ps Q → IsSingle Q → ¬ (equation_cmp Q P ≡ Less)

-- none of them has one derivative, or this is the first that has
abbrev pub IsEarliest : List LinearForm → Option LinearForm → Type 0
IsEarliest Ps found = MatchOption found (Every (λ Q. ¬ (IsSingle Q)) Ps) (IsFirstSingle Ps)

-- the same of the parts of D by the outer variables
pub record IsFirstPart (unknowns : List Unknown) (D P : LinearForm) : Type 0 where
  pub part : IsSinglePart unknowns D P
  pub first : (Q : LinearForm) → IsSinglePart unknowns D Q → ¬ (equation_cmp Q P ≡ Less)

abbrev pub IsEarliestPart : List Unknown → LinearForm → Option LinearForm → Type 0
IsEarliestPart unknowns D found = MatchOption found ((Q : LinearForm) → ¬ (IsSinglePart unknowns D Q)) (IsFirstPart unknowns D)

-- ---- the actions
-- E is derived by v once more than n times, and then parted
abbrev pub PartMakes : List Unknown → LinearForm → ℕ → Made → Type 0
PartMakes unknowns E v b = Contains (derivatives_made_by unknowns v (suc (free_degree unknowns E v)) E) b
    ⊎ IsPartMade unknowns (freed unknowns E v) b

-- these, where E may be derived by v
abbrev pub IsolationTries : List Unknown → LinearForm → ℕ → Made → Type 0
IsolationTries unknowns E v b = SomeDepends unknowns E v × SomeIsFree unknowns E v × (free_degree unknowns E v ≤ greatest_free_degree)
    × PartMakes unknowns E v b
