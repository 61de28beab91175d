-- Worked steps, one for each rule, each of a system before and after. The variables with the numbers 0 and 1 are x and u.
use Rattle.std.specs.Prelude.{ℕ, List, [], ◌∷◌, pos, negsuc}
use Rattle.lie_math.specs.LinearForm.{LinearForm, no_form, unknown_form}
use Rattle.lie_math.specs.LinearSystem.{Unknown, LinearSystem}
use Rattle.lie_systems.specs.Triples.{sum_of_triples}
use Rattle.lie_systems.specs.WorkedValues.{triple, x}
use Rattle.lie_steps.specs.Absent.{AfterAbsent}
use Rattle.lie_steps.specs.Cross.{AfterCross}
use Rattle.lie_steps.specs.Foreign.{AfterForeign}
use Rattle.lie_steps.specs.Integrate.{AfterIntegrate}
use Rattle.lie_steps.specs.Isolate.{AfterIsolate}
use Rattle.lie_steps.specs.Lowest.{AfterLowest}
use Rattle.lie_steps.specs.Reduce.{AfterReduce}
use Rattle.lie_steps.specs.Split.{AfterSplit}
use Rattle.lie_steps.specs.Substitute.{AfterSubstitute}
use Rattle.lie_steps.specs.Zero.{AfterZero}
use Rattle.lie_steps.specs.WorkedRules.{of_x, of_y, of_both, constant_unknown, itself, by_x, by_y, by_x_twice}

-- the derivative of f1, and f1_x + f1
abbrev pub derived_by : List ℕ → LinearForm
derived_by J = sum_of_triples (triple (pos 1) [] 1 J ∷ [])

abbrev pub derived_and_itself : LinearForm
derived_and_itself = sum_of_triples (triple (pos 1) [] 1 by_x ∷ triple (pos 1) [] 1 itself ∷ [])

-- split: of 6*f2 - 3*x*u*f1 - u*f1 = 0 with constants f1 and f2 become f1 = 0 and 6*f2 - u*f1 = 0
abbrev pub split_equation : LinearForm
split_equation = sum_of_triples
    (triple (pos 6) [] 2 itself ∷ triple (negsuc 2) ((0, 1) ∷ (1, 1) ∷ []) 1 itself ∷ triple (negsuc 0) ((1, 1) ∷ []) 1 itself ∷ [])

abbrev pub split_rest : LinearForm
split_rest = sum_of_triples (triple (pos 6) [] 2 itself ∷ triple (negsuc 0) ((1, 1) ∷ []) 1 itself ∷ [])

-- a system of two components over the unknowns
abbrev pub of_equations : List Unknown → List LinearForm → LinearForm → LinearForm → ℕ → LinearSystem
of_equations unknowns Es G H next = record { unknowns = unknowns; equations = Es; general = G ∷ H ∷ []; next = next }

abbrev pub split_step_system : List LinearForm → LinearSystem
split_step_system Es = of_equations (constant_unknown 1 ∷ constant_unknown 2 ∷ []) Es
    (sum_of_triples (triple (negsuc 0) [] 1 itself ∷ [])) no_form 3

abbrev pub SplitStep : Type 0
SplitStep =
    AfterSplit (split_step_system (split_equation ∷ [])) 0 (split_step_system (unknown_form 1 ∷ split_rest ∷ []))

-- isolate: of f2_xx - 2*f3_u = 0, f2 of x and f3 of u, comes f2_xxx = 0
abbrev pub isolate_equation : LinearForm
isolate_equation = sum_of_triples (triple (pos 1) [] 2 by_x_twice ∷ triple (negsuc 1) [] 3 by_y ∷ [])

abbrev pub isolated_equation : LinearForm
isolated_equation = sum_of_triples (triple (pos 1) [] 2 (3 ∷ []) ∷ [])

abbrev pub isolate_system : List LinearForm → LinearSystem
isolate_system Es = of_equations (of_y 1 ∷ of_x 2 ∷ of_y 3 ∷ []) Es (sum_of_triples (triple (pos 1) x 3 itself ∷ [])) no_form 4

abbrev pub IsolateStep : Type 0
IsolateStep = AfterIsolate (isolate_system (unknown_form 1 ∷ isolate_equation ∷ [])) 1
    (isolate_system (unknown_form 1 ∷ isolated_equation ∷ isolate_equation ∷ []))

-- reduce: f1_x = 0 reduced by f1_x + f1 = 0 becomes f1 = 0; there are three variables, and f1 does not depend on the second
abbrev pub pair_system : List LinearForm → LinearSystem
pair_system Es = record {
  unknowns = record { number = 1; variables = 0 ∷ 2 ∷ [] } ∷ [];
  equations = Es;
  general = no_form
      ∷ sum_of_triples (triple (negsuc 5) ((2, 1) ∷ []) 1 by_x ∷ triple (pos 1) [] 1 itself ∷ [])
      ∷ sum_of_triples (triple (pos 3) [] 1 itself ∷ [])
      ∷ [];
  next = 2;
}

abbrev pub ReduceStep : Type 0
ReduceStep = AfterReduce (pair_system (derived_by by_x ∷ derived_and_itself ∷ [])) 0
    (pair_system (unknown_form 1 ∷ derived_and_itself ∷ []))

-- foreign: of 2*f3_uu + x*u*f3 = 0, f3 of u, comes f3 = 0
abbrev pub foreign_equation : LinearForm
foreign_equation = sum_of_triples (triple (pos 2) [] 3 (0 ∷ 2 ∷ []) ∷ triple (pos 1) ((0, 1) ∷ (1, 1) ∷ []) 3 itself ∷ [])

abbrev pub foreign_step_system : List LinearForm → LinearSystem
foreign_step_system Es = of_equations (of_both 1 ∷ of_y 2 ∷ of_y 3 ∷ []) Es (sum_of_triples (triple (pos 2) [] 1 by_x ∷ [])) no_form 4

abbrev pub ForeignStep : Type 0
ForeignStep = AfterForeign (foreign_step_system (foreign_equation ∷ [])) 0 (foreign_step_system (unknown_form 3 ∷ foreign_equation ∷ []))

-- cross: of f1_x = 0 and f1_x + f1 = 0 comes f1 = 0
abbrev pub CrossStep : Type 0
CrossStep = AfterCross (pair_system (derived_by by_x ∷ derived_and_itself ∷ [])) 0 1
    (pair_system (unknown_form 1 ∷ derived_by by_x ∷ derived_and_itself ∷ []))

-- zero and substitute: with f1 = 0 the general form -6*f2_x - 2*x*f1 becomes -6*f2_x by the one, and -f2_x by the other, which divides it
abbrev pub unknown_system : LinearSystem
unknown_system = record {
  unknowns = of_both 1 ∷ record { number = 2; variables = 0 ∷ 1 ∷ 2 ∷ [] } ∷ [];
  equations = unknown_form 1 ∷ [];
  general = sum_of_triples (triple (pos 1) x 1 by_y ∷ [])
      ∷ sum_of_triples (triple (negsuc 5) [] 2 by_x ∷ triple (negsuc 1) x 1 itself ∷ [])
      ∷ no_form
      ∷ [];
  next = 3;
}

abbrev pub without_unknown : LinearForm → LinearSystem
without_unknown G = record {
  unknowns = record { number = 2; variables = 0 ∷ 1 ∷ 2 ∷ [] } ∷ [];
  equations = [];
  general = no_form ∷ G ∷ no_form ∷ [];
  next = 3;
}

abbrev pub ZeroStep : Type 0
ZeroStep = AfterZero unknown_system 0 (without_unknown (sum_of_triples (triple (negsuc 5) [] 2 by_x ∷ [])))

abbrev pub SubstituteStep : Type 0
SubstituteStep = AfterSubstitute unknown_system 0 (without_unknown (sum_of_triples (triple (negsuc 0) [] 2 by_x ∷ [])))

-- lowest: 3*f1_xu - f1 = 0 becomes f1 = 0
abbrev pub lowest_step_system : LinearForm → LinearSystem
lowest_step_system E = of_equations (of_both 1 ∷ of_y 2 ∷ []) (E ∷ [])
    (sum_of_triples (triple (negsuc 0) [] 1 itself ∷ [])) (sum_of_triples (triple (negsuc 5) [] 2 by_y ∷ [])) 3

abbrev pub mixed_equation : LinearForm
mixed_equation = sum_of_triples (triple (pos 3) [] 1 (1 ∷ 1 ∷ []) ∷ triple (negsuc 0) [] 1 itself ∷ [])

abbrev pub LowestStep : Type 0
LowestStep = AfterLowest (lowest_step_system mixed_equation) 0 (lowest_step_system (unknown_form 1))

-- absent: with f2_uu = 0, f2 of u, the general form -x*f2 + f1 becomes -x*u*f4 - x*f3 + f1 with constants f3 and f4
abbrev pub absent_step_system : List Unknown → List LinearForm → LinearForm → ℕ → LinearSystem
absent_step_system unknowns Es G next = of_equations (of_both 1 ∷ unknowns) Es G
    (sum_of_triples (triple (pos 1) x 1 itself ∷ triple (pos 2) ((1, 1) ∷ []) 1 itself ∷ [])) next

abbrev pub absent_general : LinearForm
absent_general = sum_of_triples
    (triple (negsuc 0) ((0, 1) ∷ (1, 1) ∷ []) 4 itself ∷ triple (negsuc 0) x 3 itself ∷ triple (pos 1) [] 1 itself ∷ [])

abbrev pub AbsentStep : Type 0
AbsentStep =
    AfterAbsent (absent_step_system (of_y 2 ∷ []) (sum_of_triples (triple (pos 1) [] 2 (0 ∷ 2 ∷ []) ∷ []) ∷ [])
    (sum_of_triples (triple (negsuc 0) x 2 itself ∷ triple (pos 1) [] 1 itself ∷ [])) 3) 0
    (absent_step_system (constant_unknown 3 ∷ constant_unknown 4 ∷ []) [] absent_general 5)

-- integrate: with 3*f3_u - f2 = 0, f3 of u and f2 a constant, 3*f3 is u*f2 + f5, and 2*x*f1_uu + x*u*f3_u - 6*f2 = 0 becomes
-- 6*x*f1_uu + x*u*f2 - 18*f2 = 0
abbrev pub integrate_step_system : List LinearForm → List Unknown → ℕ → LinearSystem
integrate_step_system Es fresh next = of_equations (of_y 1 ∷ constant_unknown 2 ∷ fresh) Es
    (sum_of_triples (triple (pos 1) [] 4 by_x ∷ triple (negsuc 0) [] 1 itself ∷ [])) no_form next

abbrev pub integrate_before : LinearSystem
integrate_before = integrate_step_system (sum_of_triples (triple (pos 3) [] 3 by_y ∷ triple (negsuc 0) [] 2 itself ∷ [])
    ∷ sum_of_triples (triple (pos 2) x 1 (0 ∷ 2 ∷ []) ∷ triple (pos 1) ((0, 1) ∷ (1, 1) ∷ []) 3 by_y ∷ triple (negsuc 5) [] 2 itself ∷ [])
    ∷ []) (of_y 3 ∷ of_x 4 ∷ []) 5

abbrev pub IntegrateStep : Type 0
IntegrateStep = AfterIntegrate integrate_before 0
    (integrate_step_system (sum_of_triples
    (triple (pos 6) x 1 (0 ∷ 2 ∷ []) ∷ triple (pos 1) ((0, 1) ∷ (1, 1) ∷ []) 2 itself ∷ triple (negsuc 17) [] 2 itself ∷ []) ∷ [])
    (of_x 4 ∷ constant_unknown 5 ∷ []) 6)
