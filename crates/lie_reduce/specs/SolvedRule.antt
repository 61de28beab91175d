-- What the work on an equation in solved form asks of its rule.
use Rattle.std.specs.Prelude.{◌≡◌, pos}
use Rattle.lie_math.specs.Derivation.{is_below}
use Rattle.lie_math.specs.Variables.{FreeOf, IsIn}
use Rattle.lie_geometry.specs.Coordinates.{Space, coordinates_up_to, number}
use Rattle.lie_jet.specs.Jets.{coordinate_of, IsJet}
use Rattle.lie_jet.specs.Limits.{greatest_written_order}
use Rattle.lie_solved.specs.declared.solved.LeadRule.{LeadRule}

-- the lead is a jet of a written order, its factor is not 0, and the right side is in coordinates of written orders without the lead
pub record IsSolvedRule (S : Space) (r : LeadRule) : Type 0 where
  pub jet : IsJet S greatest_written_order r.lead
  pub factor : ¬ (r.c ≡ pos 0)
  pub free : FreeOf (number S (coordinate_of S r.lead)) r.right
  pub right : IsIn (is_below (coordinates_up_to S greatest_written_order)) r.right
