-- There is one opening system, it is valid, and it gives the invariant fields.
use Rattle.std.specs.Prelude.{◌+◌}
use Rattle.std.proofs.Common.{refl, sym, subst}
use Rattle.lie_geometry.specs.DeterminingEquations.{determining_system}
use Rattle.lie_systems.specs.ValidSystems.{IsValid}
use Rattle.lie_determining.specs.Equations.{HasDerivativesInZ}
use Rattle.lie_determining.specs.Laws.{OpeningIsUnique, OpeningIsValid, OpeningGivesInvariant}
use Rattle.lie_determining.proofs.DerivativesInZ.{condition_in_z}
use Rattle.lie_determining.proofs.OpeningEquations.{conditions, equations_of_opening, one_opening_system, opening_says}
use Rattle.lie_determining.proofs.ValidOpening as valid
use Rattle.lie_determining.proofs.SortedLists.{every_in_map}

pub opening_is_unique : OpeningIsUnique
opening_is_unique S rs T U h k = one_opening_system S rs T U h k

pub opening_is_valid : OpeningIsValid
opening_is_valid S space rs T h =
    subst (IsValid (S.p + S.q)) (sym h.2)
    (valid.opening_is_valid S (conditions S rs) h.0
    (every_in_map (HasDerivativesInZ S) _ rs (λ r. condition_in_z S space.0 space.1 rs r)) (equations_of_opening S rs h.0 h.1))

pub opening_gives_invariant : OpeningGivesInvariant
opening_gives_invariant S space rs solved high T h = opening_says S rs space solved high T h
