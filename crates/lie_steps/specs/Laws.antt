-- The laws that the crate's functions promise, where they are long.
use Rattle.std.specs.Prelude.{◌≡◌, ℕ, ◌/◌, ◌≤◌, ◌⊎◌, ◌↔◌, List, get_or, ℤ, pos, ◌*ℤ◌, unsigned_abs}
use Rattle.std.specs.Int.{◌∣◌}
use Rattle.std.specs.List.{AllByRecursion as Every, Contains}
use Rattle.lie_math.specs.Polynomial.{WholePolynomial, 0ᴾ}
use Rattle.lie_math.specs.Variables.{IsIn}
use Rattle.lie_math.specs.LinearForm.{LinearForm, no_form, apply}
use Rattle.lie_math.specs.LinearSystem.{Unknown, has, LinearSystem, Gives}
use Rattle.lie_math.specs.VectorField.{VectorField}
use Rattle.lie_systems.specs.ValidSystems.{IsFormOf, IsValid}
use Rattle.lie_math.specs.Counts.{Derivative}
use Rattle.lie_systems.specs.Triples.{Triple}
use Rattle.lie_math.specs.CommonDivisors.{common_divisor}
use Rattle.lie_steps.specs.Equations.{equation, IsPlace}
use Rattle.lie_steps.specs.Split.{IsSplitBy, AppliesSplit}
use Rattle.lie_steps.specs.Substitute.{IsSubstitutable, AppliesSubstitute}
use Rattle.lie_steps.specs.Integrate.{divisor, IsIntegrable, AppliesIntegrate}
use Rattle.lie_steps.specs.Isolate.{SomeDepends, SomeIsFree, free_degree, freed, IsSinglePart, AppliesIsolate}
use Rattle.lie_steps.specs.Foreign.{IsForeignBy, AppliesForeign}
use Rattle.lie_systems.specs.Works.{Limit, Made, IsWorkWithin, IsWorkPast}
use Rattle.lie_steps.specs.NormalForm.{IsReducible, IsReduction, reduced_once, IsNormalForm, reduction_made, NormalFormMakes}
use Rattle.lie_steps.specs.Cross.{AppliesCross, AfterCross}
use Rattle.lie_steps.specs.Rules.{Next, IsStuck}
use Rattle.lie_steps.specs.Runs.{Run, Ends, IsFinite}

-- the two systems give the same fields
abbrev pub HaveSameFields : LinearSystem → LinearSystem → Type 0
HaveSameFields S T = (V : VectorField) → Gives S V ↔ Gives T V

-- what makes T of S keeps validity and the fields
abbrev pub Keeps : (LinearSystem → ℕ → LinearSystem → Type 0) → Type 0
Keeps After = (n : ℕ) (S T : LinearSystem) (i : ℕ) → IsValid n S → After S i T → IsValid n T × HaveSameFields S T

-- of a valid system it makes one system at most
abbrev pub IsFunctional : (LinearSystem → ℕ → LinearSystem → Type 0) → Type 0
IsFunctional After = (n : ℕ) (S T U : LinearSystem) (i : ℕ) → IsValid n S → After S i T → After S i U → T ≡ U

-- where the rule applies to a valid system it makes a system
abbrev pub IsTotal : (LinearSystem → ℕ → Type 0) → (LinearSystem → ℕ → LinearSystem → Type 0) → Type 0
IsTotal Applies After = (n : ℕ) (S : LinearSystem) (i : ℕ) → IsValid n S → Applies S i → (T : LinearSystem) × After S i T

-- the same of the rule for two equations
abbrev pub CrossKeeps : Type 0
CrossKeeps = (n : ℕ) (S T : LinearSystem) (i j : ℕ) → IsValid n S → AfterCross S i j T → IsValid n T × HaveSameFields S T

abbrev pub CrossIsFunctional : Type 0
CrossIsFunctional = (n : ℕ) (S T U : LinearSystem) (i j : ℕ) → IsValid n S → AfterCross S i j T → AfterCross S i j U → T ≡ U

abbrev pub CrossIsTotal : Type 0
CrossIsTotal = (S : LinearSystem) (i j : ℕ) → AppliesCross S i j → (T : LinearSystem) × AfterCross S i j T

-- any number of steps keeps validity and the fields
abbrev pub RunKeeps : Type 0
RunKeeps = (n k : ℕ) (S T : LinearSystem) → IsValid n S → Run S k T → IsValid n T × HaveSameFields S T

-- there is one next system at most
abbrev pub NextIsUnique : Type 0
NextIsUnique = (n : ℕ) (S T U : LinearSystem) → IsValid n S → Next S T → Next S U → T ≡ U

-- a run ends at one system at most, and after one number of steps
abbrev pub RunEndsOnce : Type 0
RunEndsOnce = (n k m : ℕ) (S T U : LinearSystem) → IsValid n S → Ends S k T → Ends S m U → (k ≡ m) × (T ≡ U)

-- a system to which no rule applies has no next one
abbrev pub StuckHasNoNext : Type 0
StuckHasNoNext = (S T : LinearSystem) → IsStuck S → ¬ (Next S T)

-- ---- normal forms
-- each form of a valid system has a normal form by a list of its forms
abbrev pub NormalFormExists : Type 0
NormalFormExists = (n : ℕ) (S : LinearSystem) (Ls : List LinearForm) (E : LinearForm) → IsValid n S → Every (IsFormOf n S.unknowns) Ls
    → IsFormOf n S.unknowns E → (N : LinearForm) × IsNormalForm S.unknowns Ls E N

-- and one at most
abbrev pub NormalFormIsUnique : Type 0
NormalFormIsUnique = (unknowns : List Unknown) (Ls : List LinearForm) (E N M : LinearForm) → IsNormalForm unknowns Ls E N
    → IsNormalForm unknowns Ls E M → N ≡ M

-- functions for the unknowns, each in its own variables, that solve the list solve a form exactly if they solve its normal form
abbrev pub NormalFormHasSameSolutions : Type 0
NormalFormHasSameSolutions = (n : ℕ) (S : LinearSystem) (Ls : List LinearForm) (E N : LinearForm) (F : ℕ → WholePolynomial) → IsValid n S
    → Every (IsFormOf n S.unknowns) Ls → IsFormOf n S.unknowns E → IsNormalForm S.unknowns Ls E N
    → Every (λ (f : Unknown). IsIn (has f) (F f.number)) S.unknowns → Every (λ L. apply F L ≡ 0ᴾ) Ls → (apply F E ≡ 0ᴾ) ↔ (apply F N ≡ 0ᴾ)

-- the work of a normal form is that of its first reduction, and then that of the normal form of what this leaves
abbrev pub NormalFormWorkByTurns : Type 0
NormalFormWorkByTurns = (unknowns : List Unknown) (Ls : List LinearForm) (E : LinearForm) (d : Derivative) (j : ℕ) (l : Derivative)
    → IsReduction Ls E d j l → (b : Made)
    → NormalFormMakes unknowns Ls E b
    ↔ (Contains (reduction_made unknowns E d (get_or Ls j no_form) l) b
    ⊎ NormalFormMakes unknowns Ls (reduced_once unknowns E d (get_or Ls j no_form) l) b)

-- a form that cannot be reduced makes no work
abbrev pub NoReductionNoWork : Type 0
NoReductionNoWork = (unknowns : List Unknown) (Ls : List LinearForm) (E : LinearForm) (b : Made)
    → ((d : Derivative) → ¬ (IsReducible Ls E d)) → ¬ (NormalFormMakes unknowns Ls E b)

-- the work of a normal form of a valid system is within the limits, or past one of them
abbrev pub NormalFormIsWithinOrPast : Type 0
NormalFormIsWithinOrPast = (n : ℕ) (S : LinearSystem) (Ls : List LinearForm) (E : LinearForm) → IsValid n S
    → Every (IsFormOf n S.unknowns) Ls → IsFormOf n S.unknowns E
    → IsWorkWithin (NormalFormMakes S.unknowns Ls E) ⊎ ((limit : Limit) × IsWorkPast (NormalFormMakes S.unknowns Ls E) limit)

-- ---- where a rule does not apply, nothing meets its condition
abbrev pub SplitAppliesToAny : Type 0
SplitAppliesToAny = (S : LinearSystem) (i : ℕ) → IsPlace S i → ¬ (AppliesSplit S i) → (v : ℕ) → ¬ (IsSplitBy S.unknowns (equation S i) v)

abbrev pub SubstituteAppliesToAny : Type 0
SubstituteAppliesToAny = (S : LinearSystem) (i : ℕ) → IsPlace S i → ¬ (AppliesSubstitute S i) → (d : Derivative)
    → ¬ (IsSubstitutable S.unknowns (equation S i) d)

abbrev pub IntegrateAppliesToAny : Type 0
IntegrateAppliesToAny = (S : LinearSystem) (i : ℕ) → IsPlace S i → ¬ (AppliesIntegrate S i) → (d : Derivative)
    → ¬ (IsIntegrable S.unknowns (equation S i) d)

abbrev pub ForeignAppliesToAny : Type 0
ForeignAppliesToAny = (S : LinearSystem) (i : ℕ) → IsPlace S i → ¬ (AppliesForeign S i) → (v : ℕ) (N : LinearForm) → ¬ (IsForeignBy S i v N)

abbrev pub IsolateAppliesToAny : Type 0
IsolateAppliesToAny = (S : LinearSystem) (i : ℕ) → IsPlace S i → ¬ (AppliesIsolate S i) → (v : ℕ)
    → SomeDepends S.unknowns (equation S i) v → SomeIsFree S.unknowns (equation S i) v → free_degree S.unknowns (equation S i) v ≤ 31
    → (P : LinearForm) → ¬ (IsSinglePart S.unknowns (freed S.unknowns (equation S i) v) P)

-- a valid system is stuck, or has a next one
abbrev pub NextOrStuck : Type 0
NextOrStuck = (n : ℕ) (S : LinearSystem) → IsValid n S → ((T : LinearSystem) × Next S T) ⊎ IsStuck S

-- a number makes the integral of a triple whole exactly if it is a multiple of its denominator in lowest terms
abbrev pub ClearsByLowestTerms : Type 0
ClearsByLowestTerms = (c : ℤ) (v k : ℕ) (t : Triple) (L : ℕ) → ¬ (c ≡ pos 0)
    → (unsigned_abs (divisor c v k t) ∣ unsigned_abs (pos L *ℤ t.2))
    ↔ ((unsigned_abs (divisor c v k t) / common_divisor (unsigned_abs (divisor c v k t)) (unsigned_abs t.2)) ∣ L)

-- a finite system is stuck
abbrev pub FiniteIsStuck : Type 0
FiniteIsStuck = (S : LinearSystem) → IsFinite S → IsStuck S
