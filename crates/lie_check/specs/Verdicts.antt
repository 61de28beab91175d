-- What a check finds.
use Rattle.std.specs.Prelude.{◌≡◌, ℕ, suc, ◌<◌, ◌==◌, List, length, slice_index_or, if◌then◌else◌}
use Rattle.lie_math.specs.Polynomial.{WholePolynomial, 0ᴾ}
use Rattle.lie_geometry.specs.Coordinates.{Space}
use Rattle.lie_geometry.specs.Invariance.{applied_prolongation, AreInvariant}
use Rattle.lie_geometry.specs.SolvedEquations.{SolvedEquation, reduced}
use Rattle.lie_check.specs.declared.verdict.Verdict.{Verdict}
use Rattle.lie_check.specs.declared.verdict.Verdict.TheVariants.{Yes, No}

-- the reduced condition of an equation
abbrev pub remainder : Space → List SolvedEquation → (ℕ → WholePolynomial) → SolvedEquation → WholePolynomial
remainder S rs V r = reduced rs (applied_prolongation S rs V r)

-- P is the condition of the k-th equation, counted from 1, and is not 0; those of the equations before are 0
pub record IsFirstRemainder (S : Space) (rs : List SolvedEquation) (V : ℕ → WholePolynomial) (k : ℕ) (P : WholePolynomial) : Type 0 where
  pub place : ℕ
  pub number : k ≡ suc place
  pub within : place < length rs
  pub before : (i : ℕ) (d : SolvedEquation) → i < place → remainder S rs V (slice_index_or rs i d) ≡ 0ᴾ
  pub here : (d : SolvedEquation) → remainder S rs V (slice_index_or rs place d) ≡ P
  pub not_zero : ¬ (P ≡ 0ᴾ)

-- the components are invariant, or not, where the first condition that fails is told
abbrev pub IsVerdict : Space → List SolvedEquation → (ℕ → WholePolynomial) → Verdict → Type 0
IsVerdict S rs V Yes = AreInvariant S rs V
IsVerdict S rs V (No k P) = IsFirstRemainder S rs V k P

-- the verdict after one more equation, with its number and its reduced condition
abbrev pub next_verdict : Verdict → ℕ → WholePolynomial → Verdict
next_verdict Yes k P = if length P.list == 0 then Yes else No k P
next_verdict (No j Q) k P = No j Q
