-- The forms at the coordinates that occur in the equations of rules.
use Rattle.std.specs.Prelude.{◌≡◌, ℕ, ◌+◌, ◌<◌, ◌⊎◌, Bool, true, false, cond, eqb, List, length}
use Rattle.std.specs.List.{Contains, list_any}
use Rattle.std.proofs.Common.{refl, ap, subst, ◌∙◌, arith, get_or, inl, inr}
use Rattle.std.proofs.lemmas.List.Elements.{All-from_recursion}
use Rattle.std.proofs.lemmas.List.FromFn.{length-map-range_with_len, get_or-map-range_with_len}
use Rattle.lie_math.specs.LinearForm.{LinearForm, no_form}
use Rattle.lie_math.specs.Variables.{FreeOf, IsIn}
use Rattle.lie_geometry.specs.Coordinates.{Space, coordinate, coordinates_up_to}
use Rattle.lie_geometry.specs.Invariance.{greatest_order}
use Rattle.lie_geometry.specs.SolvedEquations.{SolvedEquation, difference}
use Rattle.lie_geometry.specs.SymbolicProlongation.{symbolic_coefficient_at}
use Rattle.lie_solved.specs.declared.solved.LeadRule.{LeadRule}
use Rattle.lie_solved.specs.SolvedForms.{solved_equations}
use Rattle.lie_reduce.specs.Occurrences.{AreAmong}
use Rattle.lie_symbolic.specs.SymbolicCoefficients.{coefficient_among, coefficients_among}
use Rattle.lie_determining.specs.AppliedForms.{AreCoordinateForms}

module _ (S : Space) (rules : List LeadRule) (numbers : List ℕ) (among : AreAmong S rules numbers) (n : ℕ) (order : n ≡ greatest_order S (solved_equations S rules)) (Fs : List LinearForm) (are : Fs ≡ coefficients_among S numbers (coordinates_up_to S n)) where
  counted : length Fs ≡ coordinates_up_to S n
  counted = ap length are ∙ length-map-range_with_len (coefficient_among S numbers) 0 (coordinates_up_to S n)

  abbrev is_one : ℕ → Bool
  is_one w = list_any (λ n. eqb n w) numbers

  -- what an equation does not have
  free : (w : ℕ) → is_one w ≡ false → (r : SolvedEquation) → Contains (solved_equations S rules) r → FreeOf w (difference r)
  free w e r c = subst (λ (q : SolvedEquation). FreeOf w (difference q)) c.2 (All-from_recursion (λ (q : SolvedEquation). IsIn (λ w. list_any (λ n. eqb n w) numbers) (difference q)) (solved_equations S rules) among c.0 r c.1 w e)

  read : (w : ℕ) → w < length Fs → get_or Fs w no_form ≡ coefficient_among S numbers w
  read w h =
      ap (λ xs. get_or xs w no_form) are
      ∙ get_or-map-range_with_len (coefficient_among S numbers) 0 (coordinates_up_to S n) w w no_form (subst (λ m. w < m) counted h) (let e : 0 + w ≡ w = omega arith in e)

  pub forms_are : AreCoordinateForms S (solved_equations S rules) Fs
  forms_are = record { count = counted ∙ ap (coordinates_up_to S) order; at = λ w h. by w h (is_one w) refl }
    where
      by : (w : ℕ) → w < length Fs → (t : Bool) → is_one w ≡ t → (get_or Fs w no_form ≡ symbolic_coefficient_at S (coordinate S w)) ⊎ ((r : SolvedEquation) → Contains (solved_equations S rules) r → FreeOf w (difference r))
      by w h true e = inl (read w h ∙ ap (λ b. cond b (symbolic_coefficient_at S (coordinate S w)) no_form) e)
      by w h false e = inr (free w e)
