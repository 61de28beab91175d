-- Worked values of the rules. The variables with the numbers 0 and 1 are x and y.
use Rattle.std.specs.Prelude.{◌≡◌, ℕ, List, [], ◌∷◌, pos, negsuc}
use Rattle.lie_math.specs.LinearForm.{LinearForm, unknown_form}
use Rattle.lie_math.specs.LinearSystem.{Unknown, LinearSystem}
use Rattle.lie_systems.specs.Triples.{sum_of_triples}
use Rattle.lie_systems.specs.WorkedValues.{triple, x}
use Rattle.lie_steps.specs.Absent.{AppliesAbsent, AfterAbsent}
use Rattle.lie_steps.specs.Cross.{AppliesCross, IsCrossedAt}
use Rattle.lie_steps.specs.Foreign.{IsForeignAt}
use Rattle.lie_steps.specs.Integrate.{AppliesIntegrate, AfterIntegrate}
use Rattle.lie_steps.specs.Isolate.{AppliesIsolate, IsIsolationTried, freed}
use Rattle.lie_steps.specs.Lowest.{AppliesLowest, AfterLowest}
use Rattle.lie_steps.specs.Reduce.{AppliesReduce}
use Rattle.lie_steps.specs.Split.{AppliesSplit, IsSplitAt}
use Rattle.lie_steps.specs.Substitute.{AppliesSubstitute, AfterSubstitute}
use Rattle.lie_steps.specs.Zero.{AppliesZero, AfterZero}

-- the unknown with the number n, a function of x, of y, of both, or a constant
abbrev pub of_x : ℕ → Unknown
of_x n = record { number = n; variables = 0 ∷ [] }

abbrev pub of_y : ℕ → Unknown
of_y n = record { number = n; variables = 1 ∷ [] }

abbrev pub of_both : ℕ → Unknown
of_both n = record { number = n; variables = 0 ∷ 1 ∷ [] }

abbrev pub constant_unknown : ℕ → Unknown
constant_unknown n = record { number = n; variables = [] }

-- f, f_x, f_y and f_xx
abbrev pub itself : List ℕ
itself = []

abbrev pub by_x : List ℕ
by_x = 1 ∷ []

abbrev pub by_y : List ℕ
by_y = 0 ∷ 1 ∷ []

abbrev pub by_x_twice : List ℕ
by_x_twice = 2 ∷ []

-- equations for the unknowns, one general form, and the next number
abbrev pub system : List Unknown → List LinearForm → LinearForm → ℕ → LinearSystem
system unknowns Es G next = record { unknowns = unknowns; equations = Es; general = G ∷ []; next = next }

-- ---- zero: of f1 = 0, and of 2*f2 + f1 in the general form, 2*f2 is left, and nothing is divided
abbrev pub ZeroValue : Type 0
ZeroValue =
    AfterZero (system (of_x 1 ∷ of_x 2 ∷ []) (unknown_form 1 ∷ [])
    (sum_of_triples (triple (pos 2) [] 2 itself ∷ triple (pos 1) [] 1 itself ∷ [])) 3) 0
    (system (of_x 2 ∷ []) [] (sum_of_triples (triple (pos 2) [] 2 itself ∷ [])) 3)

-- f1_x = 0 is not of the kind
abbrev pub NoZeroOfDerivative : Type 0
NoZeroOfDerivative = ¬ (AppliesZero (system (of_x 1 ∷ []) (sum_of_triples (triple (pos 1) [] 1 by_x ∷ []) ∷ []) (unknown_form 1) 2) 0)

-- ---- lowest: f1_xx + f1_x = 0 becomes f1_x = 0
abbrev pub LowestValue : Type 0
LowestValue =
    AfterLowest (system (of_x 1 ∷ []) (sum_of_triples (triple (pos 1) [] 1 by_x_twice ∷ triple (pos 1) [] 1 by_x ∷ []) ∷ [])
    (unknown_form 1) 2) 0
    (system (of_x 1 ∷ []) (sum_of_triples (triple (pos 1) [] 1 by_x ∷ []) ∷ []) (unknown_form 1) 2)

-- f1_x + f2 = 0 has two unknowns, and x*f1_x + f1 = 0 no constant coefficients
abbrev pub NoLowestOfTwoUnknowns : Type 0
NoLowestOfTwoUnknowns = ¬
    (AppliesLowest (system (of_x 1 ∷ of_x 2 ∷ []) (sum_of_triples (triple (pos 1) [] 1 by_x ∷ triple (pos 1) [] 2 itself ∷ []) ∷ [])
    (unknown_form 1) 3) 0)

abbrev pub NoLowestOfCoefficient : Type 0
NoLowestOfCoefficient = ¬
    (AppliesLowest (system (of_x 1 ∷ []) (sum_of_triples (triple (pos 1) x 1 by_x ∷ triple (pos 1) [] 1 itself ∷ []) ∷ [])
    (unknown_form 1) 2) 0)

-- ---- absent: with f1_xy = 0 the general form 2*f1 is 2*f3 + 2*f2, where f2 is of y and f3 of x
abbrev pub AbsentValue : Type 0
AbsentValue =
    AfterAbsent (system (of_both 1 ∷ []) (sum_of_triples (triple (pos 1) [] 1 (1 ∷ 1 ∷ []) ∷ []) ∷ [])
    (sum_of_triples (triple (pos 2) [] 1 itself ∷ [])) 2) 0
    (system (of_y 2 ∷ of_x 3 ∷ []) [] (sum_of_triples (triple (pos 2) [] 3 itself ∷ triple (pos 2) [] 2 itself ∷ [])) 4)

-- f1 = 0 is not of the kind
abbrev pub NoAbsentOfUnknown : Type 0
NoAbsentOfUnknown = ¬ (AppliesAbsent (system (of_x 1 ∷ []) (unknown_form 1 ∷ []) (unknown_form 1) 2) 0)

-- ---- split: y*z*f1 + f1_x, with f1 of x and the number 2 of z, is split by y first
abbrev pub split_system : LinearSystem
split_system = system (of_x 1 ∷ [])
    (sum_of_triples (triple (pos 1) ((1, 1) ∷ (2, 1) ∷ []) 1 itself ∷ triple (pos 1) [] 1 by_x ∷ []) ∷ []) (unknown_form 1) 2

abbrev pub SplitValue : Type 0
SplitValue = IsSplitAt split_system 0 1 × ¬ (IsSplitAt split_system 0 2)

-- in x*f1_x + f1 the unknown depends on x
abbrev pub NoSplitByOwnVariable : Type 0
NoSplitByOwnVariable = ¬
    (AppliesSplit (system (of_x 1 ∷ []) (sum_of_triples (triple (pos 1) x 1 by_x ∷ triple (pos 1) [] 1 itself ∷ []) ∷ [])
    (unknown_form 1) 2) 0)

-- ---- substitute: with 2*f2 - f1 = 0, f2 of x and y and f1 of x, f2 is f1 over 2, and the general form 4*f2 is f1
abbrev pub substitute_system : LinearSystem
substitute_system = system (of_x 1 ∷ of_both 2 ∷ [])
    (sum_of_triples (triple (pos 2) [] 2 itself ∷ triple (negsuc 0) [] 1 itself ∷ []) ∷ [])
    (sum_of_triples (triple (pos 4) [] 2 itself ∷ [])) 3

abbrev pub SubstituteValue : Type 0
SubstituteValue = AfterSubstitute substitute_system 0 (system (of_x 1 ∷ []) [] (unknown_form 1) 3)

-- in f2 + f1 = 0 with f2 of x and f1 of y neither is a function of the variable of the other
abbrev pub NoSubstituteOfOthersVariable : Type 0
NoSubstituteOfOthersVariable = ¬
    (AppliesSubstitute (system (of_y 1 ∷ of_x 2 ∷ [])
    (sum_of_triples (triple (pos 1) [] 2 itself ∷ triple (pos 1) [] 1 itself ∷ []) ∷ []) (unknown_form 1) 3) 0)

-- ---- integrate: with f1_x - f2 = 0, f1 of x and y and f2 of y, the general form f1 is x*f2 + f3 with f3 of y
abbrev pub IntegrateValue : Type 0
IntegrateValue =
    AfterIntegrate (system (of_both 1 ∷ of_y 2 ∷ [])
    (sum_of_triples (triple (pos 1) [] 1 by_x ∷ triple (negsuc 0) [] 2 itself ∷ []) ∷ []) (unknown_form 1) 3) 0
    (system (of_y 2 ∷ of_y 3 ∷ []) [] (sum_of_triples (triple (pos 1) [] 3 itself ∷ triple (pos 1) x 2 itself ∷ [])) 4)

-- in f1_x + f2 = 0 with f2 of x the rest depends on x
abbrev pub NoIntegralOfOwnVariable : Type 0
NoIntegralOfOwnVariable = ¬
    (AppliesIntegrate (system (of_both 1 ∷ of_x 2 ∷ [])
    (sum_of_triples (triple (pos 1) [] 1 by_x ∷ triple (pos 1) [] 2 itself ∷ []) ∷ []) (unknown_form 1) 3) 0)

-- ---- isolate: in f1_x + x*f2, f1 of x and f2 a constant, x is derived by twice, and f1_xxx is left
abbrev pub FreedValue : Type 0
FreedValue =
    freed (of_x 1 ∷ constant_unknown 2 ∷ []) (sum_of_triples (triple (pos 1) [] 1 by_x ∷ triple (pos 1) x 2 itself ∷ [])) 0
    ≡ sum_of_triples (triple (pos 1) [] 1 (3 ∷ []) ∷ [])

-- f1_x + x^31*f2 = 0 may be derived by x, and in f1_x + x^32*f2 = 0 the exponent is too high
abbrev pub IsolationOfHighestPower : Type 0
IsolationOfHighestPower = IsIsolationTried (of_x 1 ∷ constant_unknown 2 ∷ [])
    (sum_of_triples (triple (pos 1) [] 1 by_x ∷ triple (pos 1) ((0, 31) ∷ []) 2 itself ∷ [])) 0

abbrev pub high_equation : LinearForm
high_equation = sum_of_triples (triple (pos 1) [] 1 by_x ∷ triple (pos 1) ((0, 32) ∷ []) 2 itself ∷ [])

abbrev pub NoIsolationOfHighPower : Type 0
NoIsolationOfHighPower = ¬ (AppliesIsolate (system (of_x 1 ∷ constant_unknown 2 ∷ []) (high_equation ∷ []) (unknown_form 1) 3) 0)

-- ---- reduce: f1_xx + f2 = 0 is reduced by f1_x = 0, and not by f1_y = 0
abbrev pub reduced_system : List ℕ → LinearSystem
reduced_system J =
    system (of_both 1 ∷ of_both 2 ∷ [])
    (sum_of_triples (triple (pos 1) [] 1 by_x_twice ∷ triple (pos 1) [] 2 itself ∷ []) ∷ sum_of_triples
    (triple (pos 1) [] 1 J ∷ []) ∷ [])
    (unknown_form 1) 3

abbrev pub ReduceValue : Type 0
ReduceValue = AppliesReduce (reduced_system by_x) 0

abbrev pub NoReductionByOtherVariable : Type 0
NoReductionByOtherVariable = ¬ (AppliesReduce (reduced_system by_y) 0)

-- ---- foreign: the derivative of f1_x + f2 by y, f1 of x and f2 of y, is f2_y, and nothing comes of that by x
abbrev pub foreign_system : LinearSystem
foreign_system =
    system (of_x 1 ∷ of_y 2 ∷ []) (sum_of_triples (triple (pos 1) [] 1 by_x ∷ triple (pos 1) [] 2 itself ∷ []) ∷ []) (unknown_form 1) 3

abbrev pub ForeignValue : Type 0
ForeignValue = IsForeignAt foreign_system 0 1 (sum_of_triples (triple (pos 1) [] 2 by_y ∷ []))

abbrev pub NoForeignByOwnVariable : Type 0
NoForeignByOwnVariable = (N : LinearForm) → ¬ (IsForeignAt foreign_system 0 0 N)

-- ---- cross: of f1_x + f2 = 0 and f1_y = 0 comes f2_y = 0
abbrev pub crossed_system : LinearSystem
crossed_system =
    system (of_both 1 ∷ of_both 2 ∷ [])
    (sum_of_triples (triple (pos 1) [] 1 by_x ∷ triple (pos 1) [] 2 itself ∷ []) ∷ sum_of_triples
    (triple (pos 1) [] 1 by_y ∷ []) ∷ []) (unknown_form 1) 3

abbrev pub CrossValue : Type 0
CrossValue = IsCrossedAt crossed_system 0 1 (sum_of_triples (triple (pos 1) [] 2 by_y ∷ []))

-- f1_x = 0 and f2_y = 0 have leads of two unknowns
abbrev pub NoCrossOfTwoUnknowns : Type 0
NoCrossOfTwoUnknowns = ¬
    (AppliesCross (system (of_both 1 ∷ of_both 2 ∷ [])
    (sum_of_triples (triple (pos 1) [] 1 by_x ∷ []) ∷ sum_of_triples (triple (pos 1) [] 2 by_y ∷ []) ∷ []) (unknown_form 1) 3) 0 1)
