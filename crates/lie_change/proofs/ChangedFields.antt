-- The fields f1*d_x + f2*d_u with the condition that f1 is 0 stay valid in each way in which they are changed.
use Rattle.std.specs.Prelude.{◌≡◌, ℕ, ◌<◌, ◌⊎◌, true, false, List, [], ◌∷◌, map, ltb, ℤ, pos, unsigned_abs}
use Rattle.std.proofs.Common.{refl, sym, ap, subst, ◌∙◌, arith, inl, inr}
use Rattle.std.specs.List.{AllByRecursion as Every, Contains}
use Rattle.lie_math.specs.Counts.{Derivative}
use Rattle.lie_math.specs.FiniteSum as finite
use Rattle.lie_math.specs.LinearForm.{LinearForm, no_form, unknown_form}
use Rattle.lie_math.proofs.ContainedElements.{contained_cons, contains_nothing}
use Rattle.lie_math.proofs.FormEntries.{each-none}
use Rattle.lie_systems.specs.Normalised.{primitive}
use Rattle.lie_systems.specs.ValidSystems.{IsFormOf, IsOwned}
use Rattle.lie_systems.proofs.Unique.{primitive-normalised}
use Rattle.lie_lin.proofs.OpeningSystem.{worked, worked_is_valid, equation_for_worked}
use Rattle.lie_steps.specs.Equations.{equation, mentions, with_equation, with_equations_at}
use Rattle.lie_steps.specs.Replacement.{unknowns_after, eliminated, eliminated_divided}
use Rattle.lie_steps.proofs.Division.{eliminated_divided-sound}
use Rattle.lie_steps.proofs.EquationsAt.{added-sound, at-sound}
use Rattle.lie_steps.proofs.FreshUnknowns.{rising-after, nothing_rises}
use Rattle.lie_steps.proofs.Replaced.{IsReplacement, eliminated-sound}
use Rattle.lie_steps.proofs.Tidied.{IsSound, sound_of_valid, tidy_valid}
use Rattle.lie_steps.proofs.ZeroRule.{same_alone}
use Rattle.lie_change.specs.Ends.{StaysValid}

sound : IsSound 2 worked
sound = sound_of_valid 2 worked worked_is_valid

pub added_valid : (E : LinearForm) → E ≡ unknown_form 2 → StaysValid 2 (with_equation worked E)
added_valid E e T h = tidy_valid 2 (with_equation worked E) T h
    (added-sound 2 worked sound E (subst (IsFormOf 2 worked.unknowns) (sym e) equation_for_worked.0))

pub exchanged_valid : (Es : List LinearForm) → Es ≡ unknown_form 2 ∷ [] → StaysValid 2 (with_equations_at worked 0 Es)
exchanged_valid Es e T h = tidy_valid 2 (with_equations_at worked 0 Es) T h
    (at-sound 2 worked sound 0 (omega arith) Es (subst (Every (IsFormOf 2 worked.unknowns)) (sym e) (equation_for_worked.0, tt)))

pub other_equation : (Es : List LinearForm) → Es ≡ unknown_form 2 ∷ [] → ¬ (Contains (map primitive Es) (equation worked 0))
other_equation Es e c = go (contained_cons (primitive (unknown_form 2)) [] (unknown_form 1)
    (subst (λ Fs. Contains (map primitive Fs) (unknown_form 1)) e c))
  where
    itself : ℕ → Derivative
    itself n = record { unknown = n; counts = [] }

    different : ◌≡◌ {A = ℕ} 2 1 → ⊥
    different d = omega arith

    go : (primitive (unknown_form 2) ≡ unknown_form 1) ⊎ Contains [] (unknown_form 1) → ⊥
    go (inl f) = different (ap (λ (d : Derivative). d.unknown)
        (same_alone (itself 2) (itself 1) (sym (primitive-normalised (unknown_form 2) (inl (itself 2, refl))) ∙ f)))
    go (inr k) = contains_nothing (unknown_form 1) k

pub own_equation : mentions 1 (equation worked 0) ≡ true
unfolding finite.term finite.of
own_equation = refl

pub free_of_none : (W : LinearForm) → W ≡ no_form → mentions 1 W ≡ false
unfolding finite.none finite.of
free_of_none W e = ap (mentions 1) e

module _ (W : LinearForm) (is : W ≡ no_form) (L : ℕ) (positive : 0 < L) where
  replacement : IsReplacement 2 worked 1 W L []
  replacement = record {
    positive = positive;
    rising = rising-after worked 1 [] sound.rising sound.below nothing_rises tt;
    below = tt;
    variables = tt;
    form = subst (IsFormOf 2 (unknowns_after worked 1 [])) (sym is) (each-none (IsOwned (unknowns_after worked 1 [])) (λ v. ltb v 2));
  }

  eliminated_sound : IsSound 2 (eliminated worked 0 1 W L [])
  eliminated_sound = eliminated-sound 2 worked sound 0 (omega arith) 1 W L [] replacement

  pub eliminated_valid : StaysValid 2 (eliminated worked 0 1 W L [])
  eliminated_valid T h = tidy_valid 2 (eliminated worked 0 1 W L []) T h eliminated_sound

  pub divided_valid : StaysValid 2 (eliminated_divided worked 0 1 W L [])
  divided_valid T h = tidy_valid 2 (eliminated_divided worked 0 1 W L []) T h
      (eliminated_divided-sound 2 worked 0 1 W L [] eliminated_sound)

pub positive_number : (a : ℤ) → a ≡ pos 6 → 0 < unsigned_abs a
positive_number a e = subst (λ z. 0 < unsigned_abs z) (sym e) (omega arith)
