-- The reduction of one term, and the parts of its making.
use Rattle.std.specs.Prelude.{◌≡◌, ℕ, ◌<◌, false, List, map, length, get_or, ℤ, ◌*ℤ◌, Option, MatchOption}
use Rattle.lie_math.specs.Evaluation.{factors, to_power, monomial_value}
use Rattle.lie_math.specs.Monomial.{Monomial}
use Rattle.lie_math.specs.Polynomial.{WholePolynomial, 0ᴾ, constant, ◌*ᴾ◌}
use Rattle.lie_math.specs.PolynomialRing.{polynomial_algebra}
use Rattle.lie_math.specs.SortedSum.{sum_of_entries}
use Rattle.lie_geometry.specs.Coordinates.{Space, number}
use Rattle.lie_geometry.specs.SolvedEquations.{SolvedEquation, is_lead, replacement, missing_powers}
use Rattle.lie_jet.specs.Jets.{coordinate_of}
use Rattle.lie_solved.specs.declared.solved.LeadRule.{LeadRule}
use Rattle.lie_solved.specs.SolvedForms.{solved_equations}

-- a power
abbrev pub power : WholePolynomial → ℕ → WholePolynomial
power P n = to_power polynomial_algebra P n

-- a product of powers with the leads replaced
abbrev pub replaced : List SolvedEquation → List (ℕ × ℕ) → WholePolynomial
replaced rs ps = sum_of_entries (factors polynomial_algebra) (λ v n. power (replacement rs v) n) ps

-- the variable is not replaced by 0
abbrev pub IsKept : List SolvedEquation → ℕ × ℕ → Type 0
IsKept rs p = ¬ (replacement rs p.0 ≡ 0ᴾ)

-- a term with the leads replaced, times the powers of the factors that it lacks
abbrev pub reduced_term : List SolvedEquation → (ℕ → ℕ) → Monomial → ℤ → WholePolynomial
reduced_term rs e m a = constant (a *ℤ missing_powers rs e m) *ᴾ monomial_value polynomial_algebra (replacement rs) m

-- the exponent e of each lead, rule by rule
abbrev pub exponents_at : Space → List LeadRule → (ℕ → ℕ) → List ℕ
exponents_at S rules e = map (λ (r : LeadRule). e (number S (coordinate_of S r.lead))) rules

-- what holds of every e with these exponents at the leads
abbrev pub ForExponents : Space → List LeadRule → List ℕ → ((ℕ → ℕ) → Type 0) → Type 0
ForExponents S rules es P = (e : ℕ → ℕ) → es ≡ exponents_at S rules e → P e

-- some exponents at the leads, rule by rule
abbrev pub AreExponents : Space → List LeadRule → List ℕ → Type 0
AreExponents S rules es = (e : ℕ → ℕ) × (es ≡ exponents_at S rules e)

-- the rule at this place replaces the variable w, or none does
abbrev pub IsRuleAt : Space → List LeadRule → ℕ → Option ℕ → Type 0
IsRuleAt S rules w place = MatchOption place
    (is_lead (solved_equations S rules) w ≡ false)
    (λ i. (i < length rules) × ((r : LeadRule) → replacement (solved_equations S rules) w ≡ (get_or rules i r).right))
