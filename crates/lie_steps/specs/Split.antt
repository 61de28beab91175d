-- A variable that occurs in the coefficients of an equation and on which none of its unknowns depends: the coefficients of its powers
-- are equations of their own.
use Rattle.std.specs.Prelude.{ℕ, zero, suc, ◌<◌, List, [], ◌∷◌, map}
use Rattle.std.specs.List.{Any, Contains}
use Rattle.lie_math.specs.Natural.{maxima}
use Rattle.lie_math.specs.Monomial.{exponent}
use Rattle.lie_math.specs.Powers.{power_coefficient, degree_in}
use Rattle.lie_math.specs.LinearForm.{LinearForm, forms, each_coefficient}
use Rattle.lie_math.specs.LinearSystem.{Unknown, LinearSystem}
use Rattle.lie_math.specs.FiniteSum as finite
use Rattle.lie_systems.specs.Triples.{Triple, triples}
use Rattle.lie_systems.specs.Works.{Made, AForm}
use Rattle.lie_steps.specs.Bulks.{absolute_form}
use Rattle.lie_steps.specs.Equations.{equation, IsPlace, IsIndependent, with_equations_at}
use Rattle.lie_steps.specs.Tidying.{IsTidySystem}

-- v occurs in a coefficient, and no unknown depends on it
pub record IsSplitBy (unknowns : List Unknown) (E : LinearForm) (v : ℕ) : Type 0 where
  pub occurs : Any (λ (t : Triple). 0 < exponent t.1 v) (triples E)
  pub independent : IsIndependent unknowns v E

-- the i-th equation is split by v, and by no variable before it
pub record IsSplitAt (S : LinearSystem) (i v : ℕ) : Type 0 where
  pub place : IsPlace S i
  pub splits : IsSplitBy S.unknowns (equation S i) v
  pub first : (w : ℕ) → w < v → ¬ (IsSplitBy S.unknowns (equation S i) w)

-- the coefficient of v^e in each coefficient
abbrev pub coefficient_of_power : ℕ → ℕ → LinearForm → LinearForm
coefficient_of_power v e E = each_coefficient (power_coefficient v e) E

-- the greatest exponent of v
abbrev pub form_degree : ℕ → LinearForm → ℕ
form_degree v E = finite.sum_over forms maxima (λ d a. degree_in v a) E

-- the coefficients of the powers of v below n
abbrev pub powers_below : ℕ → LinearForm → ℕ → List LinearForm
powers_below v E zero = []
powers_below v E (suc n) = coefficient_of_power v n E ∷ powers_below v E n

-- the coefficients of all powers of v
abbrev pub all_powers : ℕ → LinearForm → List LinearForm
all_powers v E = powers_below v E (suc (form_degree v E))

abbrev pub split : LinearSystem → ℕ → ℕ → LinearSystem
split S i v = with_equations_at S i (all_powers v (equation S i))

abbrev pub AppliesSplit : LinearSystem → ℕ → Type 0
AppliesSplit S i = (v : ℕ) × IsSplitAt S i v

abbrev pub AfterSplit : LinearSystem → ℕ → LinearSystem → Type 0
AfterSplit S i T = (v : ℕ) × IsSplitAt S i v × IsTidySystem (split S i v) T

-- the actions of the step: each part
abbrev pub SplitMakes : LinearSystem → ℕ → Made → Type 0
SplitMakes S i b = (v : ℕ) × IsSplitAt S i v × Contains (map (λ P. AForm P) (all_powers v (absolute_form (equation S i)))) b
