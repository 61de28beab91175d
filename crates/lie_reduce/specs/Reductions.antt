-- The reduction of several polynomials at once, and when it is past a limit.
use Rattle.std.specs.Prelude.{◌≡◌, ℕ, max, List, [], ◌∷◌, map, pos, unsigned_abs}
use Rattle.std.specs.List.{Any, AllByRecursion as Every}
use Rattle.lie_math.specs.Limits.{absolute}
use Rattle.lie_math.specs.Polynomial.{WholePolynomial}
use Rattle.lie_math.specs.Powers.{degree_in}
use Rattle.lie_geometry.specs.Coordinates.{Space}
use Rattle.lie_geometry.specs.SolvedEquations.{SolvedEquation, reduced_by}
use Rattle.lie_ring.specs.Causes.{IsPast}
use Rattle.lie_ring.specs.declared.failures.PolyFail.{PolyFail}
use Rattle.lie_ring.specs.declared.failures.PolyFail.TheVariants.{Past, NoMemory}
use Rattle.lie_solved.specs.declared.solved.LeadRule.{LeadRule}
use Rattle.lie_solved.specs.Equations.{HaveJets}
use Rattle.lie_reduce.specs.Bulks.{reduction_bulk_by}

-- the greatest exponent of the variable w in any of the polynomials
abbrev pub greatest_exponent : List WholePolynomial → ℕ → ℕ
greatest_exponent [] w = 0
greatest_exponent (P ∷ Ps) w = max (degree_in w P) (greatest_exponent Ps w)

-- the polynomials reduced by their greatest exponents
abbrev pub reductions : List SolvedEquation → List WholePolynomial → List WholePolynomial
reductions rs Ps = map (reduced_by rs (greatest_exponent Ps)) Ps

-- rules whose leads are jets and whose factors are not 0
pub record CanReduce (S : Space) (rules : List LeadRule) : Type 0 where
  pub jets : HaveJets S rules
  pub factors : Every (λ (r : LeadRule). ¬ (r.c ≡ pos 0)) rules

-- the second rule is the first with the absolute values of all coefficients
pub record IsAbsoluteRule (rule made : LeadRule) : Type 0 where
  pub lead : made.lead ≡ rule.lead
  pub factor : made.c ≡ pos (unsigned_abs rule.c)
  pub right : made.right ≡ absolute rule.right

-- the answer is for want of memory, or tells a limit that the bulk of one of the reductions is past
abbrev pub IsReductionCause : List SolvedEquation → List WholePolynomial → PolyFail → Type 0
IsReductionCause rs Ps (Past kind) = Any (λ P. IsPast kind (reduction_bulk_by rs (greatest_exponent Ps) P)) Ps
IsReductionCause rs Ps NoMemory = Unit {0}
