-- How linear forms, derivatives and triples are kept.
use Rattle.std.specs.Prelude.{◌≡◌, Bool, true, false, cond, T, List, [], ◌∷◌, ℤ}
use Rattle.std.specs.List.{AllByRecursion as Every}
use Rattle.std.specs.List.Sorted.{IsStrictlySortedBy}
use Rattle.std.specs.Ordering.{eq_by_cmp}
use Rattle.std.specs.FinMap.Entries.{by_order}
use Rattle.lie_math.specs.FiniteSum as finite
use Rattle.lie_math.specs.SortedSum.{is_canonical}
use Rattle.lie_math.specs.Monomial.{Monomial}
use Rattle.lie_math.specs.Polynomial.{WholePolynomial, terms, polynomial_of}
use Rattle.lie_math.specs.Counts.{Derivative, derivative_cmp}
use Rattle.lie_math.specs.LinearForm.{forms}
use Rattle.lie_systems.specs.Triples.{Triple}
use Rattle.lie_jet.specs.declared.derivative.Der.{Der}
use Rattle.lie_jet.specs.Derivatives.{derivative_of}

-- the derivatives with their coefficients
abbrev pub coefficients_of : List (Der × WholePolynomial) → List (Derivative × WholePolynomial)
coefficients_of [] = []
coefficients_of (e ∷ es) = (derivative_of e.0, e.1) ∷ coefficients_of es

-- the derivatives fall, and no coefficient is 0
abbrev pub AreCoefficients : List (Der × WholePolynomial) → Type 0
AreCoefficients es = T (is_canonical derivative_cmp forms.values (coefficients_of es))

abbrev pub triples_of : List (Der × Monomial × ℤ) → List Triple
triples_of [] = []
triples_of (t ∷ ts) = (derivative_of t.0, t.1, t.2) ∷ triples_of ts

abbrev pub derivatives_of : List Der → List Derivative
derivatives_of [] = []
derivatives_of (d ∷ ds) = derivative_of d ∷ derivatives_of ds

-- the terms of the triples of one derivative
abbrev pub terms_at : Derivative → List Triple → List (Monomial × ℤ)
terms_at d [] = []
terms_at d (t ∷ ts) = cond (eq_by_cmp derivative_cmp d t.0) ((t.1, t.2) ∷ terms_at d ts) (terms_at d ts)

abbrev pub coefficient_at : Derivative → List Triple → WholePolynomial
coefficient_at d ts = polynomial_of (terms_at d ts)

-- the coefficients of derivatives in the sum of triples
abbrev pub gathered : List Derivative → List Triple → List (Derivative × WholePolynomial)
gathered [] ts = []
gathered (d ∷ ds) ts = (d, coefficient_at d ts) ∷ gathered ds ts

-- the coefficient before others, unless it is 0
abbrev pub unless_zero : Derivative → WholePolynomial → List (Derivative × WholePolynomial) → List (Derivative × WholePolynomial)
unless_zero d p es = cond (finite.is_none terms p) es ((d, p) ∷ es)

-- the coefficients that are not 0
abbrev pub kept : List (Derivative × WholePolynomial) → List (Derivative × WholePolynomial)
kept [] = []
kept (e ∷ es) = unless_zero e.0 e.1 (kept es)

-- the derivative is in the list
abbrev pub is_in : List Derivative → Derivative → Bool
is_in [] d = false
is_in (e ∷ ds) d = cond (eq_by_cmp derivative_cmp d e) true (is_in ds d)

-- the derivatives stand in printed order, each once, and each triple has one of them
pub record AreDerivatives (ds : List Derivative) (ts : List Triple) : Type 0 where
  pub ordered : IsStrictlySortedBy derivative_cmp ds
  pub all : Every (λ (t : Triple). is_in ds t.0 ≡ true) ts

-- a derivative put into a list in printed order, unless it is there
abbrev pub placed : Derivative → List Derivative → List Derivative
placed d [] = d ∷ []
placed d (e ∷ ds) = by_order (derivative_cmp d e) (d ∷ e ∷ ds) (e ∷ ds) (e ∷ placed d ds)
