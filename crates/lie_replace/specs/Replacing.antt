-- Derivatives one after the other, and what is put in for an unknown.
use Rattle.std.specs.Prelude.{ℕ, suc, ◌<◌, ◌≤◌, Bool, true, false, cond, eqb, ltb, List, [], ◌∷◌, ◌++◌, filter, replicate, ℤ, pos}
use Rattle.lie_math.specs.Monomial.{Monomial, exponent}
use Rattle.lie_math.specs.Counts.{Derivative}
use Rattle.lie_math.specs.LinearForm.{LinearForm, forms, form_term, times_form}
use Rattle.lie_math.specs.FiniteSumLaws as finite_laws
use Rattle.lie_math.specs.SortedSum.{sum_of_entries}
use Rattle.lie_math.specs.LinearSystem.{Unknown}
use Rattle.lie_math.specs.Polynomial.{WholePolynomial, constant, polynomial_of, ◌*ᴾ◌}
use Rattle.lie_steps.specs.Derivatives.{derivative, derivatives}
use Rattle.std.specs.List.{AllByRecursion as Every, Any, flat_map}
use Rattle.lie_math.specs.Limits.{greatest_term_count}
use Rattle.lie_systems.specs.Bulk.{HasWideNumber, HasHighExponent, HasHighOrder, IsFormWithinLimits, triple_count_of_all}
use Rattle.lie_ring.specs.declared.failures.PastKind.TheVariants.{Coefficient, Exponent, Terms, Order, Unknowns, Width}
use Rattle.lie_ring.specs.declared.failures.PolyFail.{PolyFail}
use Rattle.lie_ring.specs.declared.failures.PolyFail.TheVariants.{Past, NoMemory}
use Rattle.lie_lin.specs.Forms.{unless_zero}
use Rattle.lie_steps.specs.Equations.{depends}

-- ---- derivatives by variables
-- each variable as often as the counts say
abbrev pub variables_from : ℕ → List ℕ → List ℕ
variables_from v [] = []
variables_from v (c ∷ K) = replicate c v ++ variables_from (suc v) K

abbrev pub variables_of : List ℕ → List ℕ
variables_of K = variables_from 0 K

-- the derivative by each variable of a list, one after the other
abbrev pub derivatives_by : List Unknown → List ℕ → LinearForm → LinearForm
derivatives_by us [] E = E
derivatives_by us (v ∷ vs) E = derivatives_by us vs (derivative us v E)

abbrev pub occurrences : ℕ → List ℕ → ℕ
occurrences w [] = 0
occurrences w (v ∷ vs) = cond (eqb v w) (suc (occurrences w vs)) (occurrences w vs)

-- ---- what a times d becomes where W over L is put in for f
abbrev pub put_in_term : List Unknown → ℕ → LinearForm → ℕ → Derivative → WholePolynomial → LinearForm
put_in_term us f W L d a = cond (eqb d.unknown f) (times_form a (derivatives us d.counts W)) (form_term d (constant (pos L) *ᴾ a))

-- ---- terms that last
-- how often the list has each of its variables on which the unknown f does not depend
abbrev pub needs_in : List Unknown → List ℕ → ℕ → List ℕ → List (ℕ × ℕ)
needs_in us vs f [] = []
needs_in us vs f (w ∷ ws) = cond (depends us f w) (needs_in us vs f ws) ((w, occurrences w vs) ∷ needs_in us vs f ws)

abbrev pub needs : List Unknown → List ℕ → ℕ → List (ℕ × ℕ)
needs us vs f = needs_in us vs f vs

-- each variable has at least its exponent
abbrev pub meets : List (ℕ × ℕ) → Monomial → Bool
meets [] m = true
meets (x ∷ xs) m = cond (ltb (exponent m x.0) x.1) false (meets xs m)

abbrev pub meeting : List (ℕ × ℕ) → List (Monomial × ℤ) → List (Monomial × ℤ)
meeting xs es = filter (λ (e : Monomial × ℤ). meets xs e.0) es

-- the terms of a coefficient of f that are not lost by the derivatives
abbrev pub lasting_part : List Unknown → List ℕ → ℕ → WholePolynomial → WholePolynomial
lasting_part us vs f p = polynomial_of (meeting (needs us vs f) p.list)

-- ---- the sum of terms as they are kept
abbrev pub form_of : List (Derivative × WholePolynomial) → LinearForm
form_of es = sum_of_entries (finite_laws.adder forms) form_term es

-- the terms of a form that are not lost by the derivatives
abbrev pub lasting_entry : List Unknown → List ℕ → Derivative × WholePolynomial → List (Derivative × WholePolynomial)
lasting_entry us vs e = unless_zero e.0 (lasting_part us vs (e.0).unknown e.1) []

abbrev pub lasting_entries : List Unknown → List ℕ → List (Derivative × WholePolynomial) → List (Derivative × WholePolynomial)
lasting_entries us vs es = flat_map (lasting_entry us vs) es

-- ---- several forms at once
-- the answer is for want of memory, or tells a limit that one of the bulks is past, with the triples counted over all of them
abbrev pub IsJointCause : PolyFail → List LinearForm → Type 0
IsJointCause (Past Coefficient) Bs = Any HasWideNumber Bs
IsJointCause (Past Exponent) Bs = Any HasHighExponent Bs
IsJointCause (Past Terms) Bs = greatest_term_count < triple_count_of_all Bs
IsJointCause (Past Order) Bs = Any HasHighOrder Bs
IsJointCause (Past Unknowns) Bs = ⊥
IsJointCause (Past Width) Bs = ⊥
IsJointCause NoMemory Bs = Unit {0}

-- each bulk is within the limits, and the triples of all of them are few
pub record AreWithinLimits (Bs : List LinearForm) : Type 0 where
  pub each : Every IsFormWithinLimits Bs
  pub few : triple_count_of_all Bs ≤ greatest_term_count
