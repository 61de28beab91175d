-- An equation that gives an unknown as a form in others over a number: the form is put in for it.
use Rattle.std.specs.Prelude.{◌≡◌, ℕ, false, List, [], ◌++◌, ℤ, pos, neg_ℤ, unsigned_abs}
use Rattle.std.specs.List.{Contains}
use Rattle.lie_math.specs.FiniteSum as finite
use Rattle.lie_math.specs.Polynomial.{constant}
use Rattle.lie_math.specs.Counts.{Derivative}
use Rattle.lie_math.specs.LinearForm.{LinearForm, forms, times_form}
use Rattle.lie_math.specs.LinearSystem.{Unknown, LinearSystem}
use Rattle.lie_systems.specs.Normalised.{sign}
use Rattle.lie_systems.specs.Works.{Made}
use Rattle.lie_steps.specs.Equations.{equation, IsPlace, IsGreatest, rest_of, mentions, depends, Lacks}
use Rattle.lie_steps.specs.Replacement.{eliminated_divided, solution_made, replacement_made}
use Rattle.lie_steps.specs.Tidying.{IsTidySystem}

-- E is c times the derivative d of f plus a rest without f, in which no variable occurs on which f does not depend
pub record IsSolvedFor (unknowns : List Unknown) (E : LinearForm) (d : Derivative) (c : ℤ) : Type 0 where
  pub apart : ¬ (c ≡ pos 0)
  pub leads : finite.value forms E d ≡ constant c
  pub alone : mentions d.unknown (rest_of d E) ≡ false
  pub within : (v : ℕ) → depends unknowns d.unknown v ≡ false → Lacks unknowns v (rest_of d E)

-- d is an unknown itself, and E is solved for it
pub record IsSubstitutable (unknowns : List Unknown) (E : LinearForm) (d : Derivative) : Type 0 where
  pub itself : d.counts ≡ []
  pub number : ℤ
  pub solved : IsSolvedFor unknowns E d number

-- the i-th equation is solved for d, the greatest such unknown
pub record IsSubstitutedAt (S : LinearSystem) (i : ℕ) (d : Derivative) (c : ℤ) : Type 0 where
  pub place : IsPlace S i
  pub solved : IsSolvedFor S.unknowns (equation S i) d c
  pub greatest : IsGreatest (IsSubstitutable S.unknowns (equation S i)) d

-- the rest times minus the sign of c
abbrev pub solution : LinearSystem → ℕ → Derivative → ℤ → LinearForm
solution S i d c = times_form (constant (neg_ℤ (sign c))) (rest_of d (equation S i))

-- the unknown is that over the absolute value of c
abbrev pub substituted : LinearSystem → ℕ → Derivative → ℤ → LinearSystem
substituted S i d c = eliminated_divided S i d.unknown (solution S i d c) (unsigned_abs c) []

abbrev pub AppliesSubstitute : LinearSystem → ℕ → Type 0
AppliesSubstitute S i = (d : Derivative) × (c : ℤ) × IsSubstitutedAt S i d c

abbrev pub AfterSubstitute : LinearSystem → ℕ → LinearSystem → Type 0
AfterSubstitute S i T = (d : Derivative) × (c : ℤ) × IsSubstitutedAt S i d c × IsTidySystem (substituted S i d c) T

-- the actions of the step
abbrev pub SubstituteMakes : LinearSystem → ℕ → Made → Type 0
SubstituteMakes S i b = (d : Derivative) × (c : ℤ) × IsSubstitutedAt S i d c
    × Contains (solution_made (solution S i d c) (unsigned_abs c)
    ++ replacement_made S i d.unknown (solution S i d c) (unsigned_abs c) []) b
