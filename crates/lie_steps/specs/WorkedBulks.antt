-- Worked values of what the actions of the rules make. The variables with the numbers 0 and 1 are x and y.
use Rattle.std.specs.Prelude.{◌≡◌, zero, [], ◌∷◌, pos, negsuc}
use Rattle.lie_math.specs.LinearForm.{LinearForm, no_form, unknown_form}
use Rattle.lie_math.specs.LinearSystem.{LinearSystem}
use Rattle.lie_systems.specs.Triples.{sum_of_triples}
use Rattle.lie_systems.specs.WorkedValues.{triple, x}
use Rattle.lie_systems.specs.Works.{Made, AForm, ANumber, Triples, AnUnknown}
use Rattle.lie_steps.specs.Bulks.{absolute_form, derivatives_made, derivatives_made_by}
use Rattle.lie_steps.specs.Cross.{crossed_made, CrossTries}
use Rattle.lie_steps.specs.Foreign.{ForeignTries}
use Rattle.lie_steps.specs.Integrate.{integrated_made}
use Rattle.lie_steps.specs.NormalForm.{reduction_made}
use Rattle.lie_steps.specs.Replacement.{replacement_made, all_replaced_divided, all_replaced_made}
use Rattle.lie_steps.specs.Rules.{Rule, Place, Applies, Makes, SearchMakes, NextMakes}
use Rattle.lie_steps.specs.Runs.{RunMakes}
use Rattle.lie_steps.specs.Split.{all_powers, SplitMakes}
use Rattle.lie_steps.specs.WorkedRules.{of_x, of_y, of_both, constant_unknown, itself, by_x, by_y, by_x_twice, system}
use Rattle.lie_steps.specs.WorkedRules.{split_system, foreign_system, crossed_system}
use Rattle.lie_steps.specs.WorkedValues.{constant_equation}

-- the derivatives of x*f1 - x*f2 by x and then by y, f1 of both and f2 of x: first x*f1_x + f1 + x*f2_x + f2, and then x*f1_xy + f1_y
abbrev pub BulksOfDerivatives : Type 0
BulksOfDerivatives =
    derivatives_made (of_both 1 ∷ of_x 2 ∷ []) (1 ∷ 1 ∷ [])
    (sum_of_triples (triple (pos 1) x 1 itself ∷ triple (negsuc 0) x 2 itself ∷ []))
    ≡ AForm (sum_of_triples
    (triple (pos 1) x 1 by_x ∷ triple (pos 1) [] 1 itself ∷ triple (pos 1) x 2 by_x ∷ triple (pos 1) [] 2 itself ∷ []))
    ∷ AForm (sum_of_triples (triple (pos 1) x 1 (1 ∷ 1 ∷ []) ∷ triple (pos 1) [] 1 by_y ∷ []))
    ∷ []

-- f1 is replaced by -x*f2 over 2 in f1_x - f2 = 0 and in the general forms f1 and 3*f2; f2_x = 0 stays, and makes nothing
abbrev pub replaced_system : LinearSystem
replaced_system = record {
  unknowns = of_x 1 ∷ of_x 2 ∷ [];
  equations = unknown_form 1
      ∷ sum_of_triples (triple (pos 1) [] 2 by_x ∷ [])
      ∷ sum_of_triples (triple (pos 1) [] 1 by_x ∷ triple (negsuc 0) [] 2 itself ∷ [])
      ∷ [];
  general = unknown_form 1 ∷ sum_of_triples (triple (pos 3) [] 2 itself ∷ []) ∷ [];
  next = 3;
}

-- x*f2_x + 3*f2, then x*f2 and 6*f2, and together two triples
abbrev pub BulksOfReplacement : Type 0
BulksOfReplacement =
    replacement_made replaced_system 0 1 (sum_of_triples (triple (negsuc 0) x 2 itself ∷ [])) 2 []
    ≡ AForm (sum_of_triples (triple (pos 1) x 2 by_x ∷ triple (pos 3) [] 2 itself ∷ []))
    ∷ AForm (sum_of_triples (triple (pos 1) x 2 itself ∷ []))
    ∷ AForm (sum_of_triples (triple (pos 6) [] 2 itself ∷ []))
    ∷ Triples 2
    ∷ []

-- general forms without f1 stay, and are not divided
abbrev pub GeneralWithoutUnknown : Type 0
GeneralWithoutUnknown =
    (all_replaced_divided [] 1 no_form 2 (sum_of_triples (triple (pos 2) [] 2 itself ∷ []) ∷ [])
    ≡ sum_of_triples (triple (pos 2) [] 2 itself ∷ []) ∷ [])
    × (all_replaced_made [] 1 no_form 2 (sum_of_triples (triple (pos 2) [] 2 itself ∷ []) ∷ []) ≡ [])

-- y*f1 - f1_x has the parts f1 and f1_x by y
abbrev pub BulksOfParts : Type 0
BulksOfParts =
    all_powers 1 (absolute_form (sum_of_triples (triple (pos 1) ((1, 1) ∷ []) 1 itself ∷ triple (negsuc 0) [] 1 by_x ∷ [])))
    ≡ unknown_form 1 ∷ sum_of_triples (triple (pos 1) [] 1 by_x ∷ []) ∷ []

-- y*z*f1 + f1_x = 0 is split into z*f1 and f1_x
abbrev pub SplitMakesParts : Type 0
SplitMakesParts =
    SplitMakes split_system 0 (AForm (sum_of_triples (triple (pos 1) ((2, 1) ∷ []) 1 itself ∷ [])))
    × SplitMakes split_system 0 (AForm (sum_of_triples (triple (pos 1) [] 1 by_x ∷ [])))

-- with 2*f1_x + f2 = 0, f1 of x and y and f2 of y: the number 3, f3 + x*f2 for 2*f1 and the number 2, and f3 + x*f2 in the general form
abbrev pub BulksOfIntegral : Type 0
BulksOfIntegral =
    integrated_made
    (system (of_both 1 ∷ of_y 2 ∷ []) (sum_of_triples (triple (pos 2) [] 1 by_x ∷ triple (pos 1) [] 2 itself ∷ []) ∷ []) (unknown_form 1) 3)
    0 (of_both 1) (record { unknown = 1; counts = by_x }) (pos 2) 0 1 2
    ≡ AnUnknown 3
    ∷ AForm (sum_of_triples (triple (pos 1) [] 3 itself ∷ triple (pos 1) x 2 itself ∷ []))
    ∷ ANumber 2
    ∷ AForm (sum_of_triples (triple (pos 1) [] 3 itself ∷ triple (pos 1) x 2 itself ∷ []))
    ∷ Triples 2
    ∷ []

-- f1_x - x*f2 = 0, f1 of x and f2 a constant, is derived twice: f1_xx + f2, and f1_xxx
abbrev pub BulksOfIsolation : Type 0
BulksOfIsolation =
    derivatives_made_by (of_x 1 ∷ constant_unknown 2 ∷ []) 0 2
    (sum_of_triples (triple (pos 1) [] 1 by_x ∷ triple (negsuc 0) x 2 itself ∷ []))
    ≡ AForm (sum_of_triples (triple (pos 1) [] 1 by_x_twice ∷ triple (pos 1) [] 2 itself ∷ []))
    ∷ AForm (sum_of_triples (triple (pos 1) [] 1 (3 ∷ []) ∷ []))
    ∷ []

-- f1_x + f2 = 0 and f1_y = 0 are derived by y and by x, and combined: f1_xy + f2_y, f1_xy, and 2*f1_xy + f2_y
abbrev pub combination_bulk : LinearForm
combination_bulk = sum_of_triples (triple (pos 2) [] 1 (1 ∷ 1 ∷ []) ∷ triple (pos 1) [] 2 by_y ∷ [])

abbrev pub BulksOfCross : Type 0
BulksOfCross =
    crossed_made crossed_system 0 1 (record { unknown = 1; counts = by_x }) (record { unknown = 1; counts = by_y })
    ≡ AForm (sum_of_triples (triple (pos 1) [] 1 (1 ∷ 1 ∷ []) ∷ triple (pos 1) [] 2 by_y ∷ []))
    ∷ AForm (sum_of_triples (triple (pos 1) [] 1 (1 ∷ 1 ∷ []) ∷ []))
    ∷ AForm combination_bulk
    ∷ []

abbrev pub CrossTriesCombination : Type 0
CrossTriesCombination = CrossTries crossed_system 0 1 (AForm combination_bulk)

-- the derivative of f1_x + f2 by y, f1 of x and f2 of y, is f2_y
abbrev pub ForeignTriesDerivative : Type 0
ForeignTriesDerivative = ForeignTries foreign_system 0 (AForm (sum_of_triples (triple (pos 1) [] 2 by_y ∷ [])))

-- to reduce f1_xx + f2 by f1_x = 0 this is derived by x, and combined: f1_xx, and 2*f1_xx + f2
abbrev pub BulksOfReduction : Type 0
BulksOfReduction =
    reduction_made (of_both 1 ∷ of_both 2 ∷ [])
    (sum_of_triples (triple (pos 1) [] 1 by_x_twice ∷ triple (pos 1) [] 2 itself ∷ [])) (record { unknown = 1; counts = by_x_twice })
    (sum_of_triples (triple (pos 1) [] 1 by_x ∷ [])) (record { unknown = 1; counts = by_x })
    ≡ AForm (sum_of_triples (triple (pos 1) [] 1 by_x_twice ∷ []))
    ∷ AForm (sum_of_triples (triple (pos 2) [] 1 by_x_twice ∷ triple (pos 1) [] 2 itself ∷ []))
    ∷ []

-- ---- the step from f1_x = 0 for the fields f1*d_x
-- its search makes nothing; it takes the number 2, puts f2 for f1, and leaves one triple
pub record StepOfConstants : Type 0 where
  pub search : (b : Made) → ¬ (SearchMakes constant_equation b)
  pub unknown : NextMakes constant_equation (AnUnknown 2)
  pub general : NextMakes constant_equation (AForm (unknown_form 2))
  pub triples : NextMakes constant_equation (Triples 1)
  pub run : RunMakes constant_equation 0 (AnUnknown 2)

-- a step makes something only where its rule applies
abbrev pub MakesWhereItApplies : Type 0
MakesWhereItApplies = (r : Rule) (S : LinearSystem) (p : Place) (b : Made) → p.second ≡ zero → Makes r S p b → Applies r S p
