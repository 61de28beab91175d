-- Worked values of what steps, tests, the search and runs make, each a whole list. The variables with the numbers 0 and 1 are x and y.
use Rattle.std.specs.Prelude.{◌↔◌, List, [], ◌∷◌, ◌++◌, pos, negsuc}
use Rattle.std.specs.List.{Contains}
use Rattle.lie_math.specs.LinearForm.{LinearForm, no_form, unknown_form}
use Rattle.lie_math.specs.LinearSystem.{LinearSystem}
use Rattle.lie_systems.specs.Triples.{sum_of_triples}
use Rattle.lie_systems.specs.WorkedValues.{triple, x}
use Rattle.lie_systems.specs.Works.{Made, AForm, ANumber, Triples, AnUnknown}
use Rattle.lie_steps.specs.Cross.{CrossTries}
use Rattle.lie_steps.specs.Foreign.{ForeignTries}
use Rattle.lie_steps.specs.Integrate.{IntegrateMakes}
use Rattle.lie_steps.specs.Isolate.{IsolateTries}
use Rattle.lie_steps.specs.NormalForm.{NormalFormMakes}
use Rattle.lie_steps.specs.Reduce.{ReduceMakes}
use Rattle.lie_steps.specs.Rules.{SearchMakes}
use Rattle.lie_steps.specs.Runs.{RunMakes}
use Rattle.lie_steps.specs.Substitute.{SubstituteMakes}
use Rattle.lie_steps.specs.Zero.{ZeroMakes}
use Rattle.lie_steps.specs.WorkedRules.{of_x, of_y, constant_unknown, itself, by_x, by_x_twice, system, substitute_system}
use Rattle.lie_steps.specs.WorkedSteps.{unknown_system, integrate_before}

-- these are made, and nothing else
abbrev pub MakesExactly : (Made → Type 0) → List Made → Type 0
MakesExactly makes bs = (b : Made) → makes b ↔ Contains bs b

-- zero: with f1 = 0 the general forms x*f1_y, -6*f2_x - 2*x*f1 and 0 become 0, 6*f2_x and 0, with one triple; no number is made
abbrev pub ZeroMakesThese : Type 0
ZeroMakesThese = MakesExactly (ZeroMakes unknown_system 0)
    (AForm no_form ∷ AForm (sum_of_triples (triple (pos 6) [] 2 by_x ∷ [])) ∷ AForm no_form ∷ Triples 1 ∷ [])

-- substitute: with 2*f2 - f1 = 0 the solution f1 over 2 is made, and 4*f1 of the general form 4*f2
abbrev pub SubstituteMakesThese : Type 0
SubstituteMakesThese = MakesExactly (SubstituteMakes substitute_system 0)
    (AForm (unknown_form 1) ∷ ANumber 2 ∷ AForm (sum_of_triples (triple (pos 4) [] 1 itself ∷ [])) ∷ Triples 1 ∷ [])

-- integrate: with 3*f3_y - f2 = 0 the number 5 is taken, y*f2 + f5 over 3 is made, and 6*x*f1_yy + x*y*f2 + 18*f2 of the equation with f3
abbrev pub IntegrateMakesThese : Type 0
IntegrateMakesThese = MakesExactly (IntegrateMakes integrate_before 0)
    (AnUnknown 5
    ∷ AForm (sum_of_triples (triple (pos 1) ((1, 1) ∷ []) 2 itself ∷ triple (pos 1) [] 5 itself ∷ []))
    ∷ ANumber 3
    ∷ AForm (sum_of_triples
    (triple (pos 6) x 1 (0 ∷ 2 ∷ []) ∷ triple (pos 1) ((0, 1) ∷ (1, 1) ∷ []) 2 itself ∷ triple (pos 18) [] 2 itself ∷ []))
    ∷ [])

-- ---- normal forms
-- f1_xx + f2 is reduced by f1_x - f1 = 0 twice: the first turn derives to f1_xx + f1_x, combines to 2*f1_xx + f1_x + f2 and leaves
-- f1_x + f2, and the second combines this to 2*f1_x + f2 + f1 and leaves f2 + f1
abbrev pub turned_form : LinearForm
turned_form = sum_of_triples (triple (pos 1) [] 1 by_x_twice ∷ triple (pos 1) [] 2 itself ∷ [])

abbrev pub turning_equation : LinearForm
turning_equation = sum_of_triples (triple (pos 1) [] 1 by_x ∷ triple (negsuc 0) [] 1 itself ∷ [])

abbrev pub first_turn : List Made
first_turn =
    AForm (sum_of_triples (triple (pos 1) [] 1 by_x_twice ∷ triple (pos 1) [] 1 by_x ∷ []))
    ∷ AForm (sum_of_triples (triple (pos 2) [] 1 by_x_twice ∷ triple (pos 1) [] 1 by_x ∷ triple (pos 1) [] 2 itself ∷ []))
    ∷ []

abbrev pub second_turn : List Made
second_turn = AForm (sum_of_triples (triple (pos 2) [] 1 by_x ∷ triple (pos 1) [] 1 itself ∷ triple (pos 1) [] 2 itself ∷ [])) ∷ []

abbrev pub turned_system : LinearSystem
turned_system = system (of_x 1 ∷ of_x 2 ∷ []) (turned_form ∷ turning_equation ∷ []) (unknown_form 1) 3

abbrev pub TwoTurnsMakeThese : Type 0
TwoTurnsMakeThese = MakesExactly (NormalFormMakes turned_system.unknowns (turning_equation ∷ []) turned_form) (first_turn ++ second_turn)

-- reduce: the same, of the system of the two
abbrev pub ReduceMakesThese : Type 0
ReduceMakesThese = MakesExactly (ReduceMakes turned_system 0) (first_turn ++ second_turn)

-- foreign: x*f1_yy + f1 = 0, f1 of y, is derived by x to f1_yy, which its own equation reduces by 2*x*f1_yy + f1
abbrev pub own_system : LinearSystem
own_system = system (of_y 1 ∷ []) (sum_of_triples (triple (pos 1) x 1 (0 ∷ 2 ∷ []) ∷ triple (pos 1) [] 1 itself ∷ []) ∷ [])
    (unknown_form 1) 2

abbrev pub ForeignTriesThese : Type 0
ForeignTriesThese = MakesExactly (ForeignTries own_system 0)
    (AForm (sum_of_triples (triple (pos 1) [] 1 (0 ∷ 2 ∷ []) ∷ []))
    ∷ AForm (sum_of_triples (triple (pos 2) x 1 (0 ∷ 2 ∷ []) ∷ triple (pos 1) [] 1 itself ∷ []))
    ∷ [])

-- cross: f1_x = 0 is derived to f1_xx and combined with f1_xx + f1_x = 0 to 2*f1_xx + f1_x, and -f1_x, which is left, is reduced by 2*f1_x
abbrev pub chain_system : LinearSystem
chain_system = system (of_x 1 ∷ [])
    (sum_of_triples (triple (pos 1) [] 1 by_x ∷ [])
    ∷ sum_of_triples (triple (pos 1) [] 1 by_x_twice ∷ triple (pos 1) [] 1 by_x ∷ [])
    ∷ [])
    (unknown_form 1) 2

abbrev pub CrossTriesThese : Type 0
CrossTriesThese = MakesExactly (CrossTries chain_system 0 1)
    (AForm (sum_of_triples (triple (pos 1) [] 1 by_x_twice ∷ []))
    ∷ AForm (sum_of_triples (triple (pos 2) [] 1 by_x_twice ∷ triple (pos 1) [] 1 by_x ∷ []))
    ∷ AForm (sum_of_triples (triple (pos 2) [] 1 by_x ∷ []))
    ∷ [])

-- ---- isolate
-- y*f1_x - f1 - x*f2 = 0, f1 of x and f2 a constant, is derived by x twice, to y*f1_xx + f1_x + f2 and y*f1_xxx + f1_xx; by y this has the
-- parts f1_xxx and f1_xx
abbrev pub freed_system : LinearSystem
freed_system = system (of_x 1 ∷ constant_unknown 2 ∷ [])
    (sum_of_triples (triple (pos 1) ((1, 1) ∷ []) 1 by_x ∷ triple (negsuc 0) [] 1 itself ∷ triple (negsuc 0) x 2 itself ∷ []) ∷ [])
    (unknown_form 1) 3

pub record IsolateTriesThese : Type 0 where
  pub first : IsolateTries freed_system 0
      (AForm (sum_of_triples (triple (pos 1) ((1, 1) ∷ []) 1 by_x_twice ∷ triple (pos 1) [] 1 by_x ∷ triple (pos 1) [] 2 itself ∷ [])))
  pub second : IsolateTries freed_system 0
      (AForm (sum_of_triples (triple (pos 1) ((1, 1) ∷ []) 1 (3 ∷ []) ∷ triple (pos 1) [] 1 by_x_twice ∷ [])))
  pub part_of_y : IsolateTries freed_system 0 (AForm (sum_of_triples (triple (pos 1) [] 1 (3 ∷ []) ∷ [])))
  pub part_without : IsolateTries freed_system 0 (AForm (sum_of_triples (triple (pos 1) [] 1 by_x_twice ∷ [])))

-- ---- the search and the run
-- to x*f1_x + f1 = 0, f1 of x, no rule applies: foreign alone tries something, the derivative by a variable that it lacks
abbrev pub searched_system : LinearSystem
searched_system = system (of_x 1 ∷ []) (sum_of_triples (triple (pos 1) x 1 by_x ∷ triple (pos 1) [] 1 itself ∷ []) ∷ []) (unknown_form 1) 2

abbrev pub SearchMakesThis : Type 0
SearchMakesThis = SearchMakes searched_system (AForm no_form)

-- from f1 = 0 and f2 = 0 with the general form f1 + f2 + f3 the first step makes f2 + f3, and the second f3 and one triple
abbrev pub zeros_system : LinearSystem
zeros_system = system (of_x 1 ∷ of_x 2 ∷ of_x 3 ∷ []) (unknown_form 1 ∷ unknown_form 2 ∷ [])
    (sum_of_triples (triple (pos 1) [] 1 itself ∷ triple (pos 1) [] 2 itself ∷ triple (pos 1) [] 3 itself ∷ [])) 4

pub record SecondStepMakesThese : Type 0 where
  pub first : RunMakes zeros_system 0 (AForm (sum_of_triples (triple (pos 1) [] 2 itself ∷ triple (pos 1) [] 3 itself ∷ [])))
  pub second : RunMakes zeros_system 1 (AForm (unknown_form 3))
  pub triples : RunMakes zeros_system 1 (Triples 1)
