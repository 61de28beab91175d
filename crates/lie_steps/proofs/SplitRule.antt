-- An equation of which no unknown depends on v holds exactly if the coefficients of the powers of v do.
use Rattle.std.specs.Prelude.{◌≡◌, ℕ, zero, suc, ◌<◌, ◌≤◌, Bool, true, false, eqb, ltb, List, [], ◌∷◌}
use Rattle.std.proofs.Common.{refl, sym, ap, subst, ◌∙◌, arith, true≢false, eq-eqb}
use Rattle.std.specs.List.{AllByRecursion as Every}
use Rattle.lie_math.specs.Natural.{maxima}
use Rattle.lie_math.specs.SortedSum.{sum_of_entries}
use Rattle.lie_math.specs.Canonical.{sum_of_entries-map, sum_of_entries-nil}
use Rattle.lie_math.specs.Counts.{Derivative, derived}
use Rattle.lie_math.specs.FiniteSumLaws as finite_laws
use Rattle.lie_math.specs.FiniteSumLaws.{term_additive}
use Rattle.lie_math.specs.LinearForm.{LinearForm, forms, no_form, form_term, apply}
use Rattle.lie_math.specs.LinearSystem.{LinearSystem, Unknown}
use Rattle.lie_math.specs.PartialDerivative.{partial}
use Rattle.lie_math.specs.Polynomial.{WholePolynomial, polynomials, 0ᴾ, ◌*ᴾ◌}
use Rattle.lie_math.specs.Powers.{power_coefficient, degree_in}
use Rattle.lie_math.specs.Variables.{IsIn}
use Rattle.lie_math.proofs.FiniteSum.{sum_of_entries-same}
use Rattle.lie_math.proofs.LinearForm.{apply_over, apply_term, apply_none}
use Rattle.lie_math.proofs.Powers.{power_coefficients_nothing, power_coefficient-0ᴾ}
use Rattle.lie_systems.specs.ValidSystems.{IsOwned, IsFormOf}
use Rattle.lie_steps.specs.Equations.{equation, depends, IsIndependent}
use Rattle.lie_steps.specs.Laws.{HaveSameFields, Keeps, IsFunctional, IsTotal}
use Rattle.lie_steps.specs.Split.{IsSplitBy, IsSplitAt, coefficient_of_power, form_degree, powers_below, split, AppliesSplit, AfterSplit}
use Rattle.lie_steps.specs.Tidying.{IsTidySystem}
use Rattle.lie_math.proofs.EveryElement.{every_picked, every_both, every-weaken}
use Rattle.lie_math.proofs.FormEntries.{each-coefficient}
use Rattle.lie_steps.proofs.Carry.{same_fields-trans}
use Rattle.lie_steps.proofs.Tidied.{IsSound, Solves, sound_of_valid, tidy_valid, tidy_same, tidy_unique, tidy_exists}
use Rattle.lie_math.proofs.Tests.{same_number}
use Rattle.lie_steps.proofs.Unknowns.{IsOwn, independent_free}
use Rattle.lie_steps.proofs.Derived.{free_partials}
use Rattle.lie_steps.proofs.EquationsAt.{at-sound, at-same}
use Rattle.lie_math.proofs.FirstNumbers.{first_unique}
use Rattle.lie_math.proofs.PowerCoefficients.{power_coefficient-plus, power_coefficient-out, in-power_coefficient, power_above}

-- the functions for the form's unknowns are without v
abbrev pub FreeAt : ℕ → (ℕ → WholePolynomial) → LinearForm → Type 0
FreeAt v F E = Every (λ (e : Derivative × WholePolynomial). partial v (F (e.0).unknown) ≡ 0ᴾ) E.list

pub independent_at : (n : ℕ) (us : List Unknown) (v : ℕ) (F : ℕ → WholePolynomial) (E : LinearForm) → Every (IsOwn F) us → IsFormOf n us E → IsIndependent us v E → FreeAt v F E
independent_at n us v F E o h g = every_both (λ (e : Derivative × WholePolynomial). IsOwned us e.0 × IsIn (λ v. ltb v n) e.1) (λ (e : Derivative × WholePolynomial). depends us (e.0).unknown v ≡ false) _ (λ e k x. ap (λ f. partial v (F f)) (sym (k.0).number) ∙ independent_free us F (k.0).unknown v o (k.0).listed (ap (λ f. depends us f v) (k.0).number ∙ x))
    E.list h g

module _ (F : ℕ → WholePolynomial) (v : ℕ) (E : LinearForm) (free : FreeAt v F E) where
  -- the coefficients of what a form says
  pub apply-coefficient : (i : ℕ) → apply F (coefficient_of_power v i E) ≡ power_coefficient v i (apply F E)
  unfolding apply
  apply-coefficient i =
      apply_over F (λ d a. form_term d (power_coefficient v i a)) E
      ∙ sum_of_entries-same polynomials _ (λ d a. power_coefficient v i (a *ᴾ derived F d)) E.list
      (every-weaken (λ (e : Derivative × WholePolynomial). partial v (F (e.0).unknown) ≡ 0ᴾ) _ (λ e z. apply_term F e.0 (power_coefficient v i e.1) ∙ sym (power_coefficient-out v i e.1 (derived F e.0) (free_partials v (e.0).counts (F (e.0).unknown) z))) E.list free)
      ∙ sym (sum_of_entries-map polynomials polynomials (power_coefficient v i) (power_coefficient-0ᴾ v i) (power_coefficient-plus v i) (λ d a. a *ᴾ derived F d) E.list)

  coefficients_hold : Solves F E → (k : ℕ) → Every (Solves F) (powers_below v E k)
  coefficients_hold z zero = tt
  coefficients_hold z (suc k) = (apply-coefficient k ∙ ap (power_coefficient v k) z ∙ power_coefficient-0ᴾ v k, coefficients_hold z k)

  above : (i : ℕ) → form_degree v E < i → coefficient_of_power v i E ≡ no_form
  above i h = sum_of_entries-same (finite_laws.adder forms) _ (λ d a. no_form) E.list (go E.list h) ∙ sum_of_entries-nil (finite_laws.adder forms) E.list
    where
      go : (es : List (Derivative × WholePolynomial)) → sum_of_entries maxima (λ d a. degree_in v a) es < i → Every (λ (e : Derivative × WholePolynomial). form_term e.0 (power_coefficient v i e.1) ≡ no_form) es
      go [] h = tt
      go (e ∷ es) h = (ap (form_term e.0) (power_above v i e.1 (omega arith)) ∙ (term_additive forms).on_nil e.0, go es (omega arith))

  each_holds : (i k : ℕ) → Every (Solves F) (powers_below v E k) → (k ≤ i → coefficient_of_power v i E ≡ no_form) → Solves F (coefficient_of_power v i E)
  each_holds i zero h z = ap (apply F) (z (omega arith)) ∙ apply_none F
  each_holds i (suc k) h z = go (eqb k i) refl (each_holds i k h.1)
    where
      go : (t : Bool) → eqb k i ≡ t → ((k ≤ i → coefficient_of_power v i E ≡ no_form) → Solves F (coefficient_of_power v i E)) → Solves F (coefficient_of_power v i E)
      go true e later = subst (λ x. Solves F (coefficient_of_power v x E)) (same_number k i e) h.0
      go false e later = later (λ le. z (let n : ¬ (k ≡ i) = λ s. true≢false (sym (eq-eqb k i s) ∙ e) in omega arith))

  equation_holds : Every (Solves F) (powers_below v E (suc (form_degree v E))) → Solves F E
  equation_holds h = power_coefficients_nothing v (apply F E) (λ i. sym (apply-coefficient i) ∙ each_holds i (suc (form_degree v E)) h (λ le. above i (omega arith)))

powers_form : (n : ℕ) (us : List Unknown) (v : ℕ) (E : LinearForm) → IsFormOf n us E → (k : ℕ) → Every (IsFormOf n us) (powers_below v E k)
powers_form n us v E h zero = tt
powers_form n us v E h (suc k) = (each-coefficient (IsOwned us) (λ v. ltb v n) (power_coefficient v k) (λ a. in-power_coefficient (λ v. ltb v n) v k a) E h, powers_form n us v E h k)

module _ (n : ℕ) (S : LinearSystem) (sound : IsSound n S) (i v : ℕ) (a : IsSplitAt S i v) where
  abbrev form : IsFormOf n S.unknowns (equation S i)
  form = (every_picked (IsFormOf n S.unknowns) S.equations i no_form a.place sound.equations).0

  pub split-sound : IsSound n (split S i v)
  split-sound = at-sound n S sound i a.place (powers_below v (equation S i) (suc (form_degree v (equation S i)))) (powers_form n S.unknowns v (equation S i) form (suc (form_degree v (equation S i))))

  pub split-same : HaveSameFields S (split S i v)
  split-same = at-same S i a.place (powers_below v (equation S i) (suc (form_degree v (equation S i))))
      (λ F o r z. coefficients_hold F v (equation S i) (independent_at n S.unknowns v F (equation S i) o form (a.splits).independent) z (suc (form_degree v (equation S i))))
      (λ F o r z. equation_holds F v (equation S i) (independent_at n S.unknowns v F (equation S i) o form (a.splits).independent) z)

pub split_keeps : Keeps AfterSplit
split_keeps n S T i v a =
    let s = sound_of_valid n S v in (
      tidy_valid n (split S i a.0) T a.2 (split-sound n S s i a.0 a.1),
      same_fields-trans S (split S i a.0) T (split-same n S s i a.0 a.1) (tidy_same (split S i a.0) T a.2),
    )

pub split_functional : IsFunctional AfterSplit
split_functional n S T U i v a b =
    let same : a.0 ≡ b.0 = first_unique (IsSplitBy S.unknowns (equation S i)) a.0 b.0 (a.1).splits (b.1).splits (a.1).first (b.1).first in
    tidy_unique (split S i b.0) T U (subst (λ w. IsTidySystem (split S i w) T) same a.2) b.2

pub split_total : IsTotal AppliesSplit AfterSplit
split_total n S i w a = let t = tidy_exists (split S i a.0) in (t.0, (a.0, a.1, t.1))
