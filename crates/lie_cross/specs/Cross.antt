-- Leads that cross looks for.
use Rattle.std.specs.Prelude.{◌≡◌}
use Rattle.lie_math.specs.Counts.{Derivative}
use Rattle.lie_math.specs.LinearForm.{LinearForm}
use Rattle.lie_systems.specs.Leads.{IsLead}

-- l and m are the leads of E and L, and are of one unknown
pub record AreLeadsOfOne (E L : LinearForm) (l m : Derivative) : Type 0 where
  pub lead : IsLead l E
  pub other : IsLead m L
  pub unknown : l.unknown ≡ m.unknown
