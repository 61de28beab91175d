-- The determining equations: the invariance condition of the field whose components are the unknown functions 1, 2 and so on of all z,
-- monomial by monomial in the jets. A form has jet polynomials as its coefficients.
use Rattle.std.specs.Prelude.{◌≡◌, ℕ, suc, ◌+◌, Bool, cond, not, List, map, All, ◌⊎◌, pos}
use Rattle.std.specs.List.{Any, range_with_len}
use Rattle.std.specs.Ordering.{eq_by_cmp}
use Rattle.lie_math.specs.FiniteSum as finite
use Rattle.lie_math.specs.FiniteSumLaws as finite_laws
use Rattle.lie_math.specs.LinearForm.{forms, LinearForm, no_form, each_coefficient, IsMultipleOf}
use Rattle.lie_math.specs.LinearSystem.{LinearSystem}
use Rattle.lie_math.specs.Monomial.{powers, Monomial, monomial_cmp}
use Rattle.lie_math.specs.Natural.{maxima}
use Rattle.lie_math.specs.Polynomial.{term, WholePolynomial, over_terms}
use Rattle.lie_math.specs.Powers.{degree_in}
use Rattle.lie_geometry.specs.Coordinates.{Space}
use Rattle.lie_geometry.specs.Prolongation.{is_in_z}
use Rattle.lie_geometry.specs.SolvedEquations.{SolvedEquation, reduced_by}
use Rattle.lie_geometry.specs.SymbolicProlongation.{unknown, symbolic_application}

-- what the equations leave of a form
abbrev pub FormReduction : Type 0
FormReduction = Space → List SolvedEquation → LinearForm → LinearForm

-- the coefficients reduced, by the greatest exponents of each variable in any of them
abbrev pub symbolic_reduced : List SolvedEquation → LinearForm → LinearForm
symbolic_reduced equations E = each_coefficient (reduced_by equations (λ w. finite.sum_over forms maxima (λ d a. degree_in w a) E)) E

-- ---- the parts at the monomials in the jets
-- the factors of a monomial with variables of A
unfoldable pub restrict : (ℕ → Bool) → Monomial → Monomial
restrict A m = finite.sum_over powers (finite_laws.adder powers) (λ v e. finite.term powers v (cond (A v) e 0)) m

-- the coefficient of μ, a polynomial in the variables of A: the sum of the terms whose factors outside A are μ, without μ
unfoldable pub part : (ℕ → Bool) → Monomial → WholePolynomial → WholePolynomial
part A μ p = over_terms (λ m a. term (restrict A m) (cond (eq_by_cmp monomial_cmp μ (restrict (λ v. not (A v)) m)) a (pos 0))) p

-- the coefficient at a monomial in the jets of order 1 or more, of the condition of an equation by a reduction
abbrev pub determining_equation_by : FormReduction → Space → List SolvedEquation → SolvedEquation → Monomial → LinearForm
determining_equation_by reduction S equations equation μ =
    each_coefficient (part (is_in_z S) μ) (reduction S equations (symbolic_application S equations equation))

abbrev pub determining_equation : Space → List SolvedEquation → SolvedEquation → Monomial → LinearForm
determining_equation = determining_equation_by (λ S. symbolic_reduced)

-- ---- the list of them
-- the list has each form of an equation that is not empty, or what a polynomial is to be multiplied with to give it, and nothing else
pub record AreAllForms (form_of : SolvedEquation → Monomial → LinearForm) (equations : List SolvedEquation)
    (forms : List LinearForm) : Type 0 where
  pub all : All (λ equation. (μ : Monomial) →
      (form_of equation μ ≡ no_form) ⊎ Any (λ G. IsMultipleOf (form_of equation μ) G) forms) equations
  pub alone : All (λ G. Any (λ equation. (μ : Monomial) × IsMultipleOf (form_of equation μ) G) equations) forms

-- the determining equations
abbrev pub IsDetermining : Space → List SolvedEquation → List LinearForm → Type 0
IsDetermining S equations forms = AreAllForms (determining_equation S equations) equations forms

-- ---- the system of them: the unknowns 1 to p + q, each of all z, one for each component
abbrev pub determining_system : Space → List LinearForm → LinearSystem
determining_system S forms = record {
  unknowns = map (λ s. record { number = suc s; variables = range_with_len 0 (S.p + S.q) }) (range_with_len 0 (S.p + S.q));
  equations = forms;
  general = map unknown (range_with_len 0 (S.p + S.q));
  next = suc (S.p + S.q);
}
