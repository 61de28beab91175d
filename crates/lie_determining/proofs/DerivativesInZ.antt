-- Which derivatives occur in the conditions: those of the unknowns 1 to p + q, by the variables z.
use Rattle.std.specs.Prelude.{◌≡◌, ℕ, zero, suc, ◌+◌, ◌<◌, ◌≤◌, Bool, true, false, cond, List, [], ◌∷◌, eqb}
use Rattle.std.specs.List.{AllByRecursion as Every}
use Rattle.std.specs.Ordering.{eq_by_cmp}
use Rattle.std.proofs.Common.{refl, sym, ap, ap₂, subst, ◌∙◌, arith, get_or}
use Rattle.lie_math.specs.Counts.{Derivative, derivative_cmp, raise, raised}
use Rattle.lie_math.specs.Derivation.{numbers_below}
use Rattle.lie_math.specs.FiniteSum as finite
use Rattle.lie_math.specs.FiniteSumLaws as finite_laws
use Rattle.lie_math.specs.FiniteSumLaws.{value-none, value-plus, value-term, plus_idl, none_of_is}
use Rattle.lie_math.specs.LinearForm.{forms, LinearForm, no_form, ◌+ᶠ◌, form_term, form_over, each_coefficient, times_form}
use Rattle.lie_math.specs.Polynomial.{WholePolynomial, terms, 0ᴾ, ◌+ᴾ◌}
use Rattle.lie_math.specs.SortedSum.{sum_of_entries}
use Rattle.lie_math.proofs.Counts.{trimmed_raise}
use Rattle.lie_math.proofs.FiniteSum.{key, entries_of}
use Rattle.lie_geometry.specs.Coordinates.{Space, Coordinate, independent, jet, IsCoordinate, coordinates_up_to, coordinate}
use Rattle.lie_geometry.specs.DeterminingEquations.{symbolic_reduced}
use Rattle.lie_geometry.specs.Invariance.{greatest_order}
use Rattle.lie_geometry.specs.Prolongation.{indices, jet_variable, counts_of_indices}
use Rattle.lie_geometry.specs.SolvedEquations.{SolvedEquation}
use Rattle.lie_geometry.specs.SymbolicProlongation.{forms_over, unknown, symbolic_total, symbolic_coefficient, symbolic_coefficient_at, symbolic_application}
use Rattle.lie_geometry.proofs.Booleans.{and_left, and_right}
use Rattle.lie_geometry.proofs.Indices.{all_below, below_indices}
use Rattle.lie_geometry.proofs.Numbers.{coordinate_is}
use Rattle.lie_geometry.proofs.SymbolicProlongation.{total_term}
use Rattle.lie_systems.specs.ValidSystems.{count}
use Rattle.lie_form.proofs.FormBounds.{at}
use Rattle.lie_determining.specs.Equations.{IsDerivativeInZ, HasDerivativesInZ}

-- ---- what holds of each derivative that occurs
module _ (P : Derivative → Type 0) where
  abbrev pub Keeps : LinearForm → Type 0
  Keeps E = (d : Derivative) → ¬ (at E d ≡ 0ᴾ) → P d

  keeps_none : Keeps no_form
  keeps_none d h = absurd (h (value-none forms d))

  keeps_term : (d : Derivative) (a : WholePolynomial) → P d → Keeps (form_term d a)
  keeps_term d a p k h = by (eq_by_cmp derivative_cmp k d) refl
    where
      by : (t : Bool) → eq_by_cmp derivative_cmp k d ≡ t → P k
      by true e = subst P (sym (key forms k d e)) p
      by false e = absurd (h (value-term forms d a k ∙ ap (λ t. cond t a 0ᴾ) e))

  keeps_sum : (E G : LinearForm) → Keeps E → Keeps G → Keeps (E +ᶠ G)
  keeps_sum E G h g d some = by (finite.is_none terms (at E d)) refl
    where
      by : (t : Bool) → finite.is_none terms (at E d) ≡ t → P d
      by true e = g d (λ z. some (value-plus forms E G d ∙ ap₂ ◌+ᴾ◌ (none_of_is terms (at E d) e) z ∙ plus_idl terms 0ᴾ))
      by false e = h d (λ z. Rattle.std.proofs.Common.true≢false (sym (ap (finite.is_none terms) z ∙ finite_laws.is_none_none terms) ∙ e))

  keeps_over : (f : Derivative → WholePolynomial → LinearForm) → ((d : Derivative) (a : WholePolynomial) → P d → Keeps (f d a)) → (E : LinearForm) → Keeps E → Keeps (form_over f E)
  keeps_over f each E h = go E.list (entries_of forms E (λ e. P e.0) (λ e is apart. h e.0 (λ z. apart (sym is ∙ z))))
    where
      go : (es : List (Derivative × WholePolynomial)) → Every (λ e. P e.0) es → Keeps (sum_of_entries (finite_laws.adder forms) f es)
      go [] h = keeps_none
      go (e ∷ es) h = keeps_sum (f e.0 e.1) (sum_of_entries (finite_laws.adder forms) f es) (each e.0 e.1 h.0) (go es h.1)

  keeps_each : (L : WholePolynomial → WholePolynomial) (E : LinearForm) → Keeps E → Keeps (each_coefficient L E)
  keeps_each L E h = keeps_over (λ d a. form_term d (L a)) (λ d a p. keeps_term d (L a) p) E h

  keeps_forms_over : (n : ℕ) (f : ℕ → LinearForm) → ((i : ℕ) → i < n → Keeps (f i)) → Keeps (forms_over (numbers_below n) f)
  keeps_forms_over zero f h = keeps_none
  keeps_forms_over (suc n) f h = keeps_sum (f n) (forms_over (numbers_below n) f) (h n (omega arith)) (keeps_forms_over n f (λ i g. h i (omega arith)))

-- ---- derivatives by z
raised_count : (i v : ℕ) (J : List ℕ) → ¬ (get_or (raise i J) v 0 ≡ 0) → ¬ (v ≡ i) → ¬ (get_or J v 0 ≡ 0)
raised_count zero zero [] h n = absurd (n refl)
raised_count zero (suc v) [] h n = absurd (h refl)
raised_count (suc i) zero [] h n = absurd (h refl)
raised_count (suc i) (suc v) [] h n = raised_count i v [] h (λ e. n (ap suc e))
raised_count zero zero (c ∷ J) h n = absurd (n refl)
raised_count zero (suc v) (c ∷ J) h n = h
raised_count (suc i) zero (c ∷ J) h n = h
raised_count (suc i) (suc v) (c ∷ J) h n = raised_count i v J h (λ e. n (ap suc e))

module _ (S : Space) (some_p : 0 < S.p) (some_q : 0 < S.q) where
  abbrev InZ : Derivative → Type 0
  InZ d = IsDerivativeInZ S d

  unknown_in : (s : ℕ) → s < S.p + S.q → InZ (record { unknown = suc s; counts = [] })
  unknown_in s h = record { positive = omega arith; low = omega arith; own = λ v n. absurd (n refl); short = refl }

  raised_in : (i : ℕ) (d : Derivative) → i < S.p + S.q → InZ d → InZ (raised i d)
  raised_in i d h is = record { positive = is.positive; low = is.low; own = λ v n. by v n (eqb v i) refl; short = trimmed_raise i d.counts ∙ ap (raise i) is.short }
    where
      by : (v : ℕ) → ¬ (count (raised i d) v ≡ 0) → (t : Bool) → eqb v i ≡ t → v < S.p + S.q
      by v n true e = subst (λ w. w < S.p + S.q) (sym (Rattle.std.proofs.Common.eqb-true v i e)) h
      by v n false e = is.own v (raised_count i v d.counts n (λ z. Rattle.std.proofs.Common.true≢false (sym (Rattle.std.proofs.Common.eq-eqb v i z) ∙ e)))

  -- ---- the coefficients and the conditions
  unknown_keeps : (s : ℕ) → s < S.p + S.q → Keeps InZ (unknown s)
  unknown_keeps s h = keeps_term InZ _ _ (unknown_in s h)

  total_keeps : (i : ℕ) → i < S.p → (E : LinearForm) → Keeps InZ E → Keeps InZ (symbolic_total S i E)
  unfolding symbolic_total
  total_keeps i inside E h = keeps_over InZ (total_term S i) each E h
    where
      each : (d : Derivative) (a : WholePolynomial) → InZ d → Keeps InZ (total_term S i d a)
      each d a is =
          keeps_sum InZ _ _ (keeps_sum InZ _ _ (keeps_term InZ d _ is) (keeps_term InZ (raised i d) a (raised_in i d (omega arith) is)))
          (keeps_forms_over InZ S.q _ (λ b g. keeps_term InZ (raised (S.p + b) d) _ (raised_in (S.p + b) d (omega arith) is)))

  coefficient_keeps : (a : ℕ) → a < S.q → (W : List ℕ) → all_below S.p W ≡ true → Keeps InZ (symbolic_coefficient S a W)
  unfolding symbolic_coefficient
  coefficient_keeps a h [] below = unknown_keeps (S.p + a) (omega arith)
  coefficient_keeps a h (k ∷ W) below =
      let first : k < S.p = Rattle.std.proofs.Common.ltb-true k S.p (and_left (Rattle.std.specs.Prelude.ltb k S.p) (all_below S.p W) below) in
      keeps_sum InZ _ _ (total_keeps k first (symbolic_coefficient S a W) (coefficient_keeps a h W (and_right (Rattle.std.specs.Prelude.ltb k S.p) (all_below S.p W) below)))
      (keeps_each InZ _ (forms_over (numbers_below S.p) step) (keeps_forms_over InZ S.p step (λ i g. keeps_each InZ _ (symbolic_total S k (unknown i)) (total_keeps k first (unknown i) (unknown_keeps i (inside i g))))))
    where
      step : ℕ → LinearForm
      step i = times_form (jet_variable S a (raise i (counts_of_indices S W))) (symbolic_total S k (unknown i))

      inside : (i : ℕ) → i < S.p → i < S.p + S.q
      inside i g = omega arith

  coefficient_at_keeps : (c : Coordinate) → IsCoordinate S c → Keeps InZ (symbolic_coefficient_at S c)
  coefficient_at_keeps (independent i) h = unknown_keeps i (inside i h)
    where
      inside : (i : ℕ) → i < S.p → i < S.p + S.q
      inside i g = omega arith
  coefficient_at_keeps (jet a J) h = coefficient_keeps a h.0 (indices J) (below_indices S.p J h.1)

  application_keeps : (rs : List SolvedEquation) (r : SolvedEquation) → Keeps InZ (symbolic_application S rs r)
  unfolding symbolic_application
  application_keeps rs r =
      keeps_forms_over InZ (coordinates_up_to S (greatest_order S rs)) _ (λ w g. keeps_each InZ _ (symbolic_coefficient_at S (coordinate S w)) (coefficient_at_keeps (coordinate S w) (coordinate_is S some_p some_q w).0))

  pub condition_in_z : (rs : List SolvedEquation) (r : SolvedEquation) → HasDerivativesInZ S (symbolic_reduced rs (symbolic_application S rs r))
  condition_in_z rs r = keeps_each InZ _ (symbolic_application S rs r) (application_keeps rs r)
