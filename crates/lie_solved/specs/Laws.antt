-- What is said of solved forms under any ranking: a system has one at most, one that is refused has none and is refused for one cause, a
-- written one has a solved form or is refused, and the leads that a canonical text gives change neither.
use Rattle.std.specs.Prelude.{◌≡◌, ◌⊎◌, ◌↔◌, ℕ, List}
use Rattle.lie_geometry.specs.Coordinates.{Space}
use Rattle.lie_geometry.specs.CoordinateLaws.{IsSpace}
use Rattle.lie_geometry.specs.SolvedEquations.{SolvedEquation}
use Rattle.lie_ring.specs.Rankings.{IsRanking}
use Rattle.lie_jet.specs.Jets.{IsSmall}
use Rattle.lie_system.specs.LeadsAlone.{with_leads}
use Rattle.lie_system.specs.Systems.{EquationRead, SystemRead}
use Rattle.lie_solved.specs.declared.solved.NotKind.{NotKind}
use Rattle.lie_solved.specs.Leads.{JetOrder}
use Rattle.lie_solved.specs.SolvedForms.{IsSolvedFormUnder}
use Rattle.lie_solved.specs.Refusals.{IsRefusedUnder}
use Rattle.lie_system.specs.Written.{AreWritten}

-- two solved forms of a system are the same
abbrev pub SolvedFormIsOne : Type 0
SolvedFormIsOne = (rank : JetOrder) → IsRanking rank → (S : Space) → IsSpace S → (es : List EquationRead) (rs ss : List SolvedEquation)
    → IsSolvedFormUnder rank S es rs → IsSolvedFormUnder rank S es ss → rs ≡ ss

-- no condition holds of a system with a solved form
abbrev pub RefusedHasNoForm : Type 0
RefusedHasNoForm = (rank : JetOrder) → IsRanking rank → (S : Space) → IsSpace S → (es : List EquationRead) (rs : List SolvedEquation)
    → IsSolvedFormUnder rank S es rs → (kind : NotKind) (k : ℕ) → ¬ (IsRefusedUnder rank S es kind k)

-- a system is refused for one cause in one equation at most
abbrev pub RefusalIsOne : Type 0
RefusalIsOne = (rank : JetOrder) → IsRanking rank → (S : Space) → IsSpace S → (es : List EquationRead) (i j : NotKind) (k l : ℕ)
    → IsRefusedUnder rank S es i k → IsRefusedUnder rank S es j l → (i ≡ j) × (k ≡ l)

-- a written system has a solved form or is refused
abbrev pub SystemsAreSolvedOrRefused : Type 0
SystemsAreSolvedOrRefused = (rank : JetOrder) → IsRanking rank → (S : Space) → IsSmall S → (es : List EquationRead) → AreWritten S es
    → ((rs : List SolvedEquation) × IsSolvedFormUnder rank S es rs)
    ⊎ ((kind : NotKind) × (k : ℕ) × IsRefusedUnder rank S es kind k)

-- a system has the same solved form where an equation that is a derivative alone has it as its lead
abbrev pub LeadsKeepSolvedForm : Type 0
LeadsKeepSolvedForm = (rank : JetOrder) → IsRanking rank → (s : SystemRead) → IsSmall s.space → (rs : List SolvedEquation)
    → IsSolvedFormUnder rank s.space (with_leads s).equations rs ↔ IsSolvedFormUnder rank s.space s.equations rs

-- and it is refused for the same cause in the same equation
abbrev pub LeadsKeepRefusal : Type 0
LeadsKeepRefusal = (rank : JetOrder) → IsRanking rank → (s : SystemRead) → IsSmall s.space → (kind : NotKind) (k : ℕ)
    → IsRefusedUnder rank s.space (with_leads s).equations kind k ↔ IsRefusedUnder rank s.space s.equations kind k
