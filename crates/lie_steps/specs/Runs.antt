-- Runs of a system by the rules, and systems that are solved.
use Rattle.std.specs.Prelude.{◌≡◌, ℕ, zero, suc, []}
use Rattle.std.specs.List.{AllByRecursion as Every}
use Rattle.lie_math.specs.LinearSystem.{Unknown, LinearSystem}
use Rattle.lie_systems.specs.Works.{Made}
use Rattle.lie_steps.specs.Rules.{Next, IsStuck, NextMakes}

-- n steps lead from S to T
pub data Run : LinearSystem → ℕ → LinearSystem → Type 0 where
  start : {S : LinearSystem} → Run S zero S
  onward : {S T U : LinearSystem} {n : ℕ} → Next S T → Run T n U → Run S (suc n) U

-- the run from S ends after n steps at T
pub record Ends (S : LinearSystem) (n : ℕ) (T : LinearSystem) : Type 0 where
  pub run : Run S n T
  pub stuck : IsStuck T

-- the actions of the step after the first n of the run from S
abbrev pub RunMakes : LinearSystem → ℕ → Made → Type 0
RunMakes S n b = (T : LinearSystem) × Run S n T × NextMakes T b

-- there is no equation, and each unknown is a constant
pub record IsFinite (S : LinearSystem) : Type 0 where
  pub solved : S.equations ≡ []
  pub constants : Every (λ (u : Unknown). u.variables ≡ []) S.unknowns
