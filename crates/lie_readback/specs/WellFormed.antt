-- Well formed reports: those that have a text of their own.
use Rattle.std.specs.Prelude.{◌≡◌, ℕ, ◌+◌, ◌<◌, ◌≤◌, ◌^◌, List, [], ◌∷◌, length}
use Rattle.std.specs.List.{AllByRecursion as Every}
use Rattle.lie_math.specs.Limits.{FitsNumber, HasLowExponents, IsWithinLimits, greatest_term_count}
use Rattle.lie_math.specs.LinearForm.{LinearForm}
use Rattle.lie_math.specs.LinearSystem.{Unknown, LinearSystem}
use Rattle.lie_systems.specs.Triples.{Triple, triples}
use Rattle.lie_systems.specs.ValidSystems.{IsValid}
use Rattle.lie_math.specs.Polynomial.{WholePolynomial}
use Rattle.lie_jet.specs.declared.derivative.Der.{Der}
use Rattle.lie_jet.specs.Jets.{IsSmall}
use Rattle.lie_system.specs.Written.{AreDistinctLetters}
use Rattle.lie_report.specs.Reports.{Named}
use Rattle.lie_readback.specs.SystemDrafts.{Draft}

-- 1 to 4 variables of each kind, and a letter for each, no two of them the same
pub record AreNamed (N : Named) : Type 0 where
  pub small : IsSmall N.space
  pub each : length N.names ≡ (N.space).p + (N.space).q
  pub letters : AreDistinctLetters N.names

-- how many variables there are
abbrev pub size : Named → ℕ
size N = (N.space).p + (N.space).q

-- ---- systems
-- the number and the exponents of a triple are within their limits, the unknown's number is kept in 32 bits, and a count in 8
pub record IsKept (t : Triple) : Type 0 where
  pub number : FitsNumber t.2
  pub exponents : HasLowExponents t.1
  pub unknown : t.0.unknown < 2 ^ 32
  pub counts : Every (λ c. c < 2 ^ 8) t.0.counts

-- a coefficient is within the limits, and its derivative is kept
pub record IsKeptCoefficient (e : Der × WholePolynomial) : Type 0 where
  pub unknown : e.0.unknown < 2 ^ 32
  pub counts : Every (λ c. c < 2 ^ 8) e.0.counts
  pub within : IsWithinLimits e.1

-- no more than the greatest number of triples, each within the limits
pub record IsReportedForm (E : LinearForm) : Type 0 where
  pub few : length (triples E) ≤ greatest_term_count
  pub each : Every IsKept (triples E)

-- the unknowns have the numbers from n on
abbrev pub AreNumberedFrom : ℕ → List Unknown → Type 0
AreNumberedFrom n [] = Unit {0}
AreNumberedFrom n (f ∷ fs) = (f.number ≡ n) × AreNumberedFrom (n + 1) fs

-- a valid system over n variables, whose unknowns have the numbers 1 to m, where the next one is m + 1 and is kept in 32 bits; the
-- number of equations is kept in 64
pub record IsReportedSystem (n : ℕ) (T : LinearSystem) : Type 0 where
  pub valid : IsValid n T
  pub numbered : AreNumberedFrom 1 T.unknowns
  pub next : T.next ≡ length T.unknowns + 1
  pub kept : T.next < 2 ^ 32
  pub many : length T.equations < 2 ^ 64
  pub equations : Every IsReportedForm T.equations
  pub general : Every IsReportedForm T.general

-- a system with names whose report has a text of its own
abbrev pub IsWellFormed : Named × LinearSystem → Type 0
IsWellFormed s = AreNamed s.0 × IsReportedSystem (size s.0) s.1

-- names and unknowns are as those of a report
pub record IsWellDrafted (D : Draft) : Type 0 where
  pub named : AreNamed D.named
  pub numbered : AreNumberedFrom 1 D.unknowns
  pub few : length D.unknowns + 1 < 2 ^ 32
