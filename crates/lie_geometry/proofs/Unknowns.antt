-- Which unknowns occur in a form: in the determining equations the unknowns 1 to p + q alone. What a form says depends on these alone.
use Rattle.std.specs.Prelude.{◌≡◌, ℕ, zero, suc, ◌+◌, ◌<◌, true, List, [], ◌∷◌}
use Rattle.std.specs.List.{AllByRecursion as Every}
use Rattle.std.proofs.Common.{refl, ap, ap₂, arith, true≢false}
use Rattle.lie_math.specs.Counts.{raise, partials, Derivative, raised, derived}
use Rattle.lie_math.specs.Derivation.{numbers_below}
use Rattle.lie_math.specs.LinearForm.{LinearForm, no_form, ◌+ᶠ◌, form_term, form_over, each_coefficient, times_form, apply}
use Rattle.lie_math.specs.Monomial.{Monomial}
use Rattle.lie_math.specs.Polynomial.{WholePolynomial, ◌+ᴾ◌, polynomials, ◌*ᴾ◌}
use Rattle.lie_math.specs.SortedSum.{sum_of_entries}
use Rattle.lie_math.specs.Variables.{IsIn}
use Rattle.lie_math.proofs.FormEntries.{EachHas, each-none, each-term, each-plus, each-over, each-coefficient}
use Rattle.lie_geometry.specs.Coordinates.{Space, Coordinate, independent, jet, IsCoordinate, coordinates_up_to, coordinate}
use Rattle.lie_geometry.specs.DeterminingEquations.{symbolic_reduced, determining_equation}
use Rattle.lie_geometry.specs.Invariance.{greatest_order}
use Rattle.lie_geometry.specs.Prolongation.{indices, jet_variable, counts_of_indices}
use Rattle.lie_geometry.specs.SolvedEquations.{SolvedEquation}
use Rattle.lie_geometry.specs.SymbolicProlongation.{forms_over, unknown, symbolic_total, symbolic_coefficient, symbolic_coefficient_at, symbolic_application}
use Rattle.lie_geometry.proofs.Numbers.{coordinate_is}
use Rattle.lie_geometry.proofs.SymbolicProlongation.{total_term}

-- each unknown that occurs in E is one of P
abbrev pub Mentions : (ℕ → Type 0) → LinearForm → Type 0
Mentions P E = EachHas (λ d. P d.unknown) (λ v. true) E

any_variable : (p : WholePolynomial) → IsIn (λ v. true) p
any_variable p v e = absurd (true≢false e)

module _ (P : ℕ → Type 0) where
  mentions_none : Mentions P no_form
  mentions_none = each-none (λ d. P d.unknown) (λ v. true)

  mentions_term : (d : Derivative) (a : WholePolynomial) → P d.unknown → Mentions P (form_term d a)
  mentions_term d a p = each-term (λ d. P d.unknown) (λ v. true) d a p (any_variable a)

  mentions_plus : (E G : LinearForm) → Mentions P E → Mentions P G → Mentions P (E +ᶠ G)
  mentions_plus E G h g = each-plus (λ d. P d.unknown) (λ v. true) E G h g

  mentions_over : (f : Derivative → WholePolynomial → LinearForm) → ((d : Derivative) (a : WholePolynomial) → P d.unknown → Mentions P (f d a)) → (E : LinearForm) → Mentions P E → Mentions P (form_over f E)
  mentions_over f each E h = each-over (λ d. P d.unknown) (λ v. true) (λ (e : Derivative × WholePolynomial). P (e.0).unknown × IsIn (λ v. true) e.1) f (λ d a k. each d a k.0) E h

  mentions_each : (L : WholePolynomial → WholePolynomial) (E : LinearForm) → Mentions P E → Mentions P (each_coefficient L E)
  mentions_each L E h = each-coefficient (λ d. P d.unknown) (λ v. true) L (λ a k. any_variable (L a)) E h

  mentions_forms_over : (n : ℕ) (f : ℕ → LinearForm) → ((i : ℕ) → i < n → Mentions P (f i)) → Mentions P (forms_over (numbers_below n) f)
  mentions_forms_over zero f h = mentions_none
  mentions_forms_over (suc n) f h = mentions_plus (f n) (forms_over (numbers_below n) f) (h n (omega arith)) (mentions_forms_over n f (λ i g. h i (omega arith)))

  -- functions that agree there are told the same
  pub apply_same : (F G : ℕ → WholePolynomial) → ((n : ℕ) → P n → F n ≡ G n) → (E : LinearForm) → Mentions P E → apply F E ≡ apply G E
  unfolding apply
  apply_same F G is E h = go E.list h
    where
      go : (es : List (Derivative × WholePolynomial)) → Every (λ (e : Derivative × WholePolynomial). P (e.0).unknown × IsIn (λ v. true) e.1) es → sum_of_entries polynomials (λ d a. a *ᴾ derived F d) es ≡ sum_of_entries polynomials (λ d a. a *ᴾ derived G d) es
      go [] h = refl
      go (e ∷ es) h = ap₂ ◌+ᴾ◌ (ap (λ f. e.1 *ᴾ partials (e.0).counts f) (is (e.0).unknown (h.0).0)) (go es h.1)

-- ---- the determining equations
module _ (S : Space) (some_p : 0 < S.p) (some_q : 0 < S.q) where
  -- the unknowns 1 to p + q
  abbrev pub IsComponent : ℕ → Type 0
  IsComponent n = (s : ℕ) × (s < S.p + S.q) × (n ≡ suc s)

  mentions_unknown : (s : ℕ) → s < S.p + S.q → Mentions IsComponent (unknown s)
  mentions_unknown s h = mentions_term IsComponent _ _ (s, h, refl)

  mentions_total : (i : ℕ) (E : LinearForm) → Mentions IsComponent E → Mentions IsComponent (symbolic_total S i E)
  unfolding symbolic_total
  mentions_total i E h = mentions_over IsComponent (total_term S i) each E h
    where
      each : (d : Derivative) (a : WholePolynomial) → IsComponent d.unknown → Mentions IsComponent (total_term S i d a)
      each d a p =
          mentions_plus IsComponent _ _ (mentions_plus IsComponent _ _ (mentions_term IsComponent d _ p) (mentions_term IsComponent (raised i d) a p))
          (mentions_forms_over IsComponent S.q _ (λ b g. mentions_term IsComponent (raised (S.p + b) d) _ p))

  mentions_coefficient : (a : ℕ) → a < S.q → (W : List ℕ) → Mentions IsComponent (symbolic_coefficient S a W)
  unfolding symbolic_coefficient
  mentions_coefficient a h [] = mentions_unknown (S.p + a) (omega arith)
  mentions_coefficient a h (k ∷ W) =
      mentions_plus IsComponent _ _ (mentions_total k (symbolic_coefficient S a W) (mentions_coefficient a h W))
      (mentions_each IsComponent _ (forms_over (numbers_below S.p) step) (mentions_forms_over IsComponent S.p step (λ i g. mentions_each IsComponent _ (symbolic_total S k (unknown i)) (mentions_total k (unknown i) (mentions_unknown i (inside i g))))))
    where
      step : ℕ → LinearForm
      step i = times_form (jet_variable S a (raise i (counts_of_indices S W))) (symbolic_total S k (unknown i))

      inside : (i : ℕ) → i < S.p → i < S.p + S.q
      inside i g = omega arith

  mentions_coefficient_at : (c : Coordinate) → IsCoordinate S c → Mentions IsComponent (symbolic_coefficient_at S c)
  mentions_coefficient_at (independent i) h = mentions_unknown i (inside i h)
    where
      inside : (i : ℕ) → i < S.p → i < S.p + S.q
      inside i g = omega arith
  mentions_coefficient_at (jet a J) h = mentions_coefficient a h.0 (indices J)

  mentions_application : (rs : List SolvedEquation) (r : SolvedEquation) → Mentions IsComponent (symbolic_application S rs r)
  unfolding symbolic_application
  mentions_application rs r =
      mentions_forms_over IsComponent (coordinates_up_to S (greatest_order S rs)) _ (λ w g. mentions_each IsComponent _ (symbolic_coefficient_at S (coordinate S w)) (mentions_coefficient_at (coordinate S w) (coordinate_is S some_p some_q w).0))

  -- no other unknown occurs in a determining equation
  pub mentions_determining : (rs : List SolvedEquation) (r : SolvedEquation) (μ : Monomial) → Mentions IsComponent (determining_equation S rs r μ)
  mentions_determining rs r μ = mentions_each IsComponent _ (symbolic_reduced rs (symbolic_application S rs r)) (mentions_each IsComponent _ (symbolic_application S rs r) (mentions_application rs r))
