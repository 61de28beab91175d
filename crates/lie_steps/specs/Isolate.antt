-- Derivatives of an equation by a variable on which some of its unknowns depend and others do not: where a part of them has one
-- derivative only, that derivative is 0.
use Rattle.std.specs.Prelude.{◌≡◌, ℕ, suc, ◌<◌, ◌≤◌, ◌⊎◌, Bool, true, false, not, cond, List, length}
use Rattle.std.proofs.Common.{Less}
use Rattle.std.specs.Fn.{iterate}
use Rattle.std.specs.List.{Any, Contains, list_any}
use Rattle.lie_math.specs.FiniteSum as finite
use Rattle.lie_math.specs.Natural.{maxima}
use Rattle.lie_math.specs.Powers.{degree_in}
use Rattle.lie_math.specs.Monomial.{Monomial}
use Rattle.lie_math.specs.Polynomial.{WholePolynomial}
use Rattle.lie_math.specs.Counts.{Derivative}
use Rattle.lie_math.specs.LinearForm.{LinearForm, forms}
use Rattle.lie_math.specs.LinearSystem.{Unknown, LinearSystem}
use Rattle.lie_systems.specs.EquationOrder.{equation_cmp}
use Rattle.lie_systems.specs.Normalised.{primitive}
use Rattle.lie_systems.specs.Works.{Made, AForm}
use Rattle.lie_steps.specs.Bulks.{absolute_form, derivatives_made_by}
use Rattle.lie_steps.specs.Derivatives.{derivative}
use Rattle.lie_steps.specs.Equations.{equation, IsPlace, depends, with_equation}
use Rattle.lie_steps.specs.Parts.{part}
use Rattle.lie_steps.specs.Tidying.{IsTidySystem}

-- some unknown of the form depends on v, and some does not
abbrev pub SomeDepends : List Unknown → LinearForm → ℕ → Type 0
SomeDepends unknowns E v = Any (λ (e : Derivative × WholePolynomial). depends unknowns (e.0).unknown v ≡ true) E.list

abbrev pub SomeIsFree : List Unknown → LinearForm → ℕ → Type 0
SomeIsFree unknowns E v = Any (λ (e : Derivative × WholePolynomial). depends unknowns (e.0).unknown v ≡ false) E.list

-- the greatest exponent of v in the coefficients of the unknowns that do not depend on it
abbrev pub free_degree : List Unknown → LinearForm → ℕ → ℕ
free_degree unknowns E v = finite.sum_over forms maxima (λ d a. cond (depends unknowns d.unknown v) 0 (degree_in v a)) E

abbrev pub greatest_free_degree : ℕ
greatest_free_degree = 31

-- one derivative by v more than that: the unknowns that do not depend on v are gone
abbrev pub freed : List Unknown → LinearForm → ℕ → LinearForm
freed unknowns E v = iterate (derivative unknowns v) (suc (free_degree unknowns E v)) E

-- none of the form's unknowns depends on the variable
abbrev pub outer : List Unknown → LinearForm → ℕ → Bool
outer unknowns D v = not (list_any (λ (e : Derivative × WholePolynomial). depends unknowns (e.0).unknown v) D.list)

-- P is a part of D by the outer variables, and has one derivative only
pub record IsSinglePart (unknowns : List Unknown) (D P : LinearForm) : Type 0 where
  pub monomial : Monomial
  pub is : P ≡ part (outer unknowns D) monomial D
  pub single : length P.list ≡ 1

-- of these P is the first in the order of equations
pub record IsIsolatedBy (unknowns : List Unknown) (E : LinearForm) (v : ℕ) (P : LinearForm) : Type 0 where
  pub depends : SomeDepends unknowns E v
  pub free : SomeIsFree unknowns E v
  pub low : free_degree unknowns E v ≤ greatest_free_degree
  pub part : IsSinglePart unknowns (freed unknowns E v) P
  pub first : (Q : LinearForm) → IsSinglePart unknowns (freed unknowns E v) Q → ¬ (equation_cmp Q P ≡ Less)

-- P is isolated in the i-th equation by v, and nothing by a variable before it
pub record IsIsolatedAt (S : LinearSystem) (i v : ℕ) (P : LinearForm) : Type 0 where
  pub place : IsPlace S i
  pub isolated : IsIsolatedBy S.unknowns (equation S i) v P
  pub first : (w : ℕ) (Q : LinearForm) → w < v → ¬ (IsIsolatedBy S.unknowns (equation S i) w Q)

abbrev pub AppliesIsolate : LinearSystem → ℕ → Type 0
AppliesIsolate S i = (v : ℕ) × (P : LinearForm) × IsIsolatedAt S i v P

-- the normalised part is added
abbrev pub AfterIsolate : LinearSystem → ℕ → LinearSystem → Type 0
AfterIsolate S i T = (v : ℕ) × (P : LinearForm) × IsIsolatedAt S i v P × IsTidySystem (with_equation S (primitive P)) T

-- ---- the actions of the test
-- the test comes to v, and derives by it: nothing is isolated by a variable before
pub record IsIsolationTried (unknowns : List Unknown) (E : LinearForm) (v : ℕ) : Type 0 where
  pub depends : SomeDepends unknowns E v
  pub free : SomeIsFree unknowns E v
  pub low : free_degree unknowns E v ≤ greatest_free_degree
  pub before : (w : ℕ) (Q : LinearForm) → w < v → ¬ (IsIsolatedBy unknowns E w Q)

-- a part of the last derivative
abbrev pub IsPartMade : List Unknown → LinearForm → Made → Type 0
IsPartMade unknowns D b = (μ : Monomial) × (b ≡ AForm (part (outer unknowns D) μ (absolute_form D)))

-- for each variable that is tried the derivatives, and then the parts
abbrev pub IsolateTries : LinearSystem → ℕ → Made → Type 0
IsolateTries S i b = (v : ℕ) × IsIsolationTried S.unknowns (equation S i) v
    × (Contains (derivatives_made_by S.unknowns v (suc (free_degree S.unknowns (equation S i) v)) (equation S i)) b
    ⊎ IsPartMade S.unknowns (freed S.unknowns (equation S i) v) b)
