-- The ten rules in their order, the places where they may apply, and the next step of a system.
use Rattle.std.specs.Prelude.{◌≡◌, ℕ, ◌<◌, ◌⊎◌}
use Rattle.lie_math.specs.LinearSystem.{LinearSystem}
use Rattle.lie_systems.specs.Works.{Made}
use Rattle.lie_steps.specs.Equations.{IsPlace}
use Rattle.lie_steps.specs.Bulks.{system_made}
use Rattle.lie_steps.specs.Zero.{AppliesZero, AfterZero, ZeroMakes}
use Rattle.lie_steps.specs.Lowest.{AppliesLowest, AfterLowest}
use Rattle.lie_steps.specs.Absent.{AppliesAbsent, AfterAbsent, AbsentMakes}
use Rattle.lie_steps.specs.Split.{AppliesSplit, AfterSplit, SplitMakes}
use Rattle.lie_steps.specs.Substitute.{AppliesSubstitute, AfterSubstitute, SubstituteMakes}
use Rattle.lie_steps.specs.Integrate.{AppliesIntegrate, AfterIntegrate, IntegrateMakes}
use Rattle.lie_steps.specs.Isolate.{AppliesIsolate, AfterIsolate, IsolateTries}
use Rattle.lie_steps.specs.Reduce.{AppliesReduce, AfterReduce, ReduceMakes}
use Rattle.lie_steps.specs.Foreign.{AppliesForeign, AfterForeign, ForeignTries}
use Rattle.lie_steps.specs.Cross.{AppliesCross, AfterCross, CrossTries}

pub data Rule : Type 0 where
  Zero : Rule
  Lowest : Rule
  Absent : Rule
  Split : Rule
  Substitute : Rule
  Integrate : Rule
  Isolate : Rule
  Reduce : Rule
  Foreign : Rule
  Cross : Rule

-- the rules are tried by their ranks
abbrev pub rank : Rule → ℕ
rank Zero = 1
rank Lowest = 2
rank Absent = 3
rank Split = 4
rank Substitute = 5
rank Integrate = 6
rank Isolate = 7
rank Reduce = 8
rank Foreign = 9
rank Cross = 10

-- a place is that of an equation, or of a pair of equations
pub record Place : Type 0 where
  pub first : ℕ
  pub second : ℕ

-- a rule that looks at one equation has 0 as its second place
abbrev pub At : Place → (ℕ → Type 0) → Type 0
At p A = (p.second ≡ 0) × A p.first

abbrev pub Applies : Rule → LinearSystem → Place → Type 0
Applies Zero S p = At p (AppliesZero S)
Applies Lowest S p = At p (AppliesLowest S)
Applies Absent S p = At p (AppliesAbsent S)
Applies Split S p = At p (AppliesSplit S)
Applies Substitute S p = At p (AppliesSubstitute S)
Applies Integrate S p = At p (AppliesIntegrate S)
Applies Isolate S p = At p (AppliesIsolate S)
Applies Reduce S p = At p (AppliesReduce S)
Applies Foreign S p = At p (AppliesForeign S)
Applies Cross S p = AppliesCross S p.first p.second

-- what the rule makes at the place
abbrev pub After : Rule → LinearSystem → Place → LinearSystem → Type 0
After Zero S p T = AfterZero S p.first T
After Lowest S p T = AfterLowest S p.first T
After Absent S p T = AfterAbsent S p.first T
After Split S p T = AfterSplit S p.first T
After Substitute S p T = AfterSubstitute S p.first T
After Integrate S p T = AfterIntegrate S p.first T
After Isolate S p T = AfterIsolate S p.first T
After Reduce S p T = AfterReduce S p.first T
After Foreign S p T = AfterForeign S p.first T
After Cross S p T = AfterCross S p.first p.second T

-- the earlier equation first, for pairs the earlier first and then the earlier second one
abbrev pub IsEarlier : Place → Place → Type 0
IsEarlier p q = (p.first < q.first) ⊎ ((p.first ≡ q.first) × (p.second < q.second))

-- the rule of the lesser rank first, and for one rule the earlier place
abbrev pub IsBefore : Rule → Place → Rule → Place → Type 0
IsBefore r p s q = (rank r < rank s) ⊎ ((r ≡ s) × IsEarlier p q)

-- the first rule that applies, at the first place where it does, makes T of S
pub record Next (S T : LinearSystem) : Type 0 where
  pub rule : Rule
  pub place : Place
  pub applies : Applies rule S place
  pub first : (r : Rule) (p : Place) → IsBefore r p rule place → ¬ (Applies r S p)
  pub after : After rule S place T

-- no rule applies anywhere
abbrev pub IsStuck : LinearSystem → Type 0
IsStuck S = (r : Rule) (p : Place) → ¬ (Applies r S p)

-- ---- the actions
-- of the test of a rule at a place; the other rules make nothing to be tested
abbrev pub Tries : Rule → LinearSystem → Place → Made → Type 0
Tries Isolate S p b = At p (λ i. IsPlace S i × IsolateTries S i b)
Tries Foreign S p b = At p (λ i. IsPlace S i × ForeignTries S i b)
Tries Cross S p b = (p.first < p.second) × IsPlace S p.second × CrossTries S p.first p.second b
Tries rule S p b = ⊥

-- of the step, without its end; the other rules take the new equation from the test, or make a single derivative
abbrev pub Makes : Rule → LinearSystem → Place → Made → Type 0
Makes Zero S p b = ZeroMakes S p.first b
Makes Absent S p b = AbsentMakes S p.first b
Makes Split S p b = SplitMakes S p.first b
Makes Substitute S p b = SubstituteMakes S p.first b
Makes Integrate S p b = IntegrateMakes S p.first b
Makes Reduce S p b = ReduceMakes S p.first b
Makes rule S p b = ⊥

-- the search for the first rule that applies: the tests up to it
abbrev pub SearchMakes : LinearSystem → Made → Type 0
SearchMakes S b = (r : Rule) × (p : Place) × Tries r S p b × ((s : Rule) (q : Place) → IsBefore s q r p → ¬ (Applies s S q))

-- the search, then the step, and the system that it leaves
abbrev pub NextMakes : LinearSystem → Made → Type 0
NextMakes S b = SearchMakes S b ⊎ ((T : LinearSystem) × (n : Next S T) × (Makes n.rule S n.place b ⊎ (b ≡ system_made T)))
