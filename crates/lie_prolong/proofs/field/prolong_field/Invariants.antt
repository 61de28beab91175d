use Rattle.std.proofs.Common.{◌≡◌, ◌+◌, ◌<◌, ◌≤◌, ℕ, map, take}
use Rattle.lie_math.specs.Limits.{IsWithinLimits}
use Rattle.lie_math.specs.VectorField.{component}
use Rattle.lie_geometry.specs.Coordinates.{coordinate}
use Rattle.lie_geometry.specs.Prolongation.{coefficient_at}
use Rattle.lie_prolong.specs.Bulks.{bulk_at}
use Rattle.lie_jet.specs.JetLists.{AreFirstValues}
use Rattle.lie_prolong.proofs.field.prolong_field.Given as goal

abbrev pub invariant-loop-jet : goal.invariant-loop-jet
invariant-loop-jet l = record {
  jets : map (λ v. v.0) l.made.items ≡ take l.jet-index l.jet-items;
  values : AreFirstValues l.space (coefficient_at l.space (component l.field)) l.made.items;
  fits : (w : ℕ) → l.space.p ≤ w → w < l.space.p + l.jet-index → IsWithinLimits (bulk_at l.space (component l.field) (coordinate l.space w));
}
