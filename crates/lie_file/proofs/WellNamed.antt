-- The system of a file has 1 to 4 variables of each kind, and a name for each.
use Rattle.std.specs.Prelude.{ℕ, ◌+◌, ◌≡◌, List, ◌++◌, length}
use Rattle.std.proofs.Common.{ap, arith}
use Rattle.std.proofs.lemmas.List.{length-append}
use Rattle.lie_geometry.specs.Coordinates.{Space}
use Rattle.lie_jet.specs.Jets.{IsSmall}
use Rattle.lie_system.specs.Systems.{SystemRead}
use Rattle.lie_file.specs.FileGrammar.{AreSystem}
use Rattle.lie_scan.proofs.FileCoordinates.{small_space}

pub record IsWellNamed (s : SystemRead) : Type 0 where
  pub small : IsSmall s.space
  pub many : length s.names ≡ (s.space).p + (s.space).q

pub well_named : (contents : List (List ℕ)) (s : SystemRead) → AreSystem contents s → IsWellNamed s
well_named contents s h =
    let small = small_space s.space (length h.independent) (length h.dependent) h.space (h.vars_is).some (h.vars_is).few (h.deps_is).some (h.deps_is).few in
    let x : (s.space).p ≡ length h.independent = ap (λ (t : Space). t.p) h.space in
    let y : (s.space).q ≡ length h.dependent = ap (λ (t : Space). t.q) h.space in
    let l : length s.names ≡ length (h.independent ++ h.dependent) = ap length h.names in
    let a = length-append h.independent h.dependent in
    record { small = small; many = omega arith }
