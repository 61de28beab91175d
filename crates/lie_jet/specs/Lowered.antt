-- A jet derived once less, by the last variable by which it is derived.
use Rattle.std.specs.Prelude.{◌≡◌, ℕ, suc, ◌<◌, ◌∷◌, take}
use Rattle.lie_math.specs.Counts.{order}
use Rattle.lie_geometry.specs.Coordinates.{Space}
use Rattle.lie_geometry.specs.Prolongation.{indices}
use Rattle.lie_jet.specs.Jets.{IsJet}
use Rattle.lie_jet.specs.declared.jet.Jet.{Jet}

-- l is j without its first index k
pub record IsLowered (S : Space) (j : Jet) (k : ℕ) (l : Jet) : Type 0 where
  pub within : k < S.p
  pub jet : IsJet S 11 l
  pub dependent : l.dep ≡ j.dep
  pub order_less : suc (order (take S.p l.counts)) ≡ order (take S.p j.counts)
  pub first : indices (take S.p j.counts) ≡ k ∷ indices (take S.p l.counts)
