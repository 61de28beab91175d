-- Equations combined at a derivative, and the normal form of a form by a list of equations.
use Rattle.std.specs.Prelude.{ℕ, ◌<◌, List, [], ◌∷◌, ◌++◌, length, get_or, pos, int_div}
use Rattle.std.specs.List.{Contains}
use Rattle.lie_math.specs.Limits.{absolute}
use Rattle.lie_math.specs.FiniteSum as finite
use Rattle.lie_math.specs.Monomial.{Monomial}
use Rattle.lie_math.specs.Polynomial.{WholePolynomial, term, over_terms, negᴾ}
use Rattle.lie_math.specs.Counts.{Derivative}
use Rattle.lie_math.specs.LinearForm.{LinearForm, forms, no_form, times_form, ◌+ᶠ◌}
use Rattle.lie_math.specs.LinearSystem.{Unknown}
use Rattle.lie_systems.specs.Triples.{Triple, triples_with}
use Rattle.lie_systems.specs.Leads.{Occurs, IsLead}
use Rattle.lie_systems.specs.Normalised.{content, common_monomial, without_factor, primitive}
use Rattle.lie_systems.specs.Works.{Made, AForm}
use Rattle.lie_steps.specs.Bulks.{absolute_form, derivatives_made}
use Rattle.lie_steps.specs.Derivatives.{derivatives, missing}
use Rattle.lie_steps.specs.Equations.{Divides, IsGreatest}

-- ---- combining
-- p without a number and a monomial that divide it
unfoldable pub quotient : ℕ → Monomial → WholePolynomial → WholePolynomial
quotient g m p = over_terms (λ n a. term (without_factor m n) (int_div a (pos g))) p

-- the coefficient of d
abbrev pub coefficient_at : LinearForm → Derivative → WholePolynomial
coefficient_at E d = finite.value forms E d

-- the triples of d in both
abbrev pub both_at : Derivative → LinearForm → LinearForm → List Triple
both_at d E L = triples_with d (coefficient_at E d).list ++ triples_with d (coefficient_at L d).list

-- p without what divides all coefficients of d in both
abbrev pub reduced_at : Derivative → LinearForm → LinearForm → WholePolynomial → WholePolynomial
reduced_at d E L p = quotient (content (both_at d E L)) (common_monomial (both_at d E L)) p

-- with a and b the coefficients of d in E and in L, and g what divides both: (b/g)*E - (a/g)*L
abbrev pub combined : Derivative → LinearForm → LinearForm → LinearForm
combined d E L = times_form (reduced_at d E L (coefficient_at L d)) E +ᶠ times_form (negᴾ (reduced_at d E L (coefficient_at E d))) L

-- the same with absolute values and a plus
abbrev pub combined_bulk : Derivative → LinearForm → LinearForm → LinearForm
combined_bulk d E L =
    times_form (absolute (reduced_at d E L (coefficient_at L d))) (absolute_form E)
    +ᶠ times_form (absolute (reduced_at d E L (coefficient_at E d))) (absolute_form L)

-- ---- the normal form
-- the lead of L divides d
abbrev pub IsLedBy : Derivative → LinearForm → Type 0
IsLedBy d L = (l : Derivative) × IsLead l L × Divides l d

-- d occurs in E, and the lead of some equation of the list divides it
abbrev pub IsReducible : List LinearForm → LinearForm → Derivative → Type 0
IsReducible Ls E d = Occurs d E × (j : ℕ) × (j < length Ls) × IsLedBy d (get_or Ls j no_form)

-- d is the greatest such derivative of E, the j-th equation the first whose lead divides it, and l that lead
pub record IsReduction (Ls : List LinearForm) (E : LinearForm) (d : Derivative) (j : ℕ) (l : Derivative) : Type 0 where
  pub greatest : IsGreatest (IsReducible Ls E) d
  pub place : j < length Ls
  pub lead : IsLead l (get_or Ls j no_form)
  pub divides : Divides l d
  pub first : (k : ℕ) → k < j → ¬ (IsLedBy d (get_or Ls k no_form))

-- E combined with L, of which the derivative has the lead d, and normalised
abbrev pub reduced_once : List Unknown → LinearForm → Derivative → LinearForm → Derivative → LinearForm
reduced_once unknowns E d L l = primitive (combined d E (derivatives unknowns (missing l.counts d.counts) L))

-- N is the normal form of E: no derivative of N can be reduced, and it comes from E by reducing the greatest derivative again and again
pub data IsNormalForm (unknowns : List Unknown) (Ls : List LinearForm) : LinearForm → LinearForm → Type 0 where
  done : {E : LinearForm} → ((d : Derivative) → ¬ (IsReducible Ls E d)) → IsNormalForm unknowns Ls E E
  onward : {E N : LinearForm} (d : Derivative) (j : ℕ) (l : Derivative) → IsReduction Ls E d j l
      → IsNormalForm unknowns Ls (reduced_once unknowns E d (get_or Ls j no_form) l) N → IsNormalForm unknowns Ls E N

-- ---- the actions
-- of one reduction: L, with the lead l, is derived until its lead is d, and combined with E
abbrev pub reduction_made : List Unknown → LinearForm → Derivative → LinearForm → Derivative → List Made
reduction_made unknowns E d L l =
    derivatives_made unknowns (missing l.counts d.counts) L
    ++ AForm (combined_bulk d E (derivatives unknowns (missing l.counts d.counts) L)) ∷ []

-- of all reductions that lead from E to its normal form
pub data NormalFormMakes (unknowns : List Unknown) (Ls : List LinearForm) : LinearForm → Made → Type 0 where
  now : {E : LinearForm} {b : Made} (d : Derivative) (j : ℕ) (l : Derivative) → IsReduction Ls E d j l
      → Contains (reduction_made unknowns E d (get_or Ls j no_form) l) b → NormalFormMakes unknowns Ls E b
  later : {E : LinearForm} {b : Made} (d : Derivative) (j : ℕ) (l : Derivative) → IsReduction Ls E d j l
      → NormalFormMakes unknowns Ls (reduced_once unknowns E d (get_or Ls j no_form) l) b → NormalFormMakes unknowns Ls E b
