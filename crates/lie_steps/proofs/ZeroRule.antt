-- The equation f = 0.
use Rattle.std.specs.Prelude.{◌≡◌, ℕ, cond, List, [], ◌∷◌, pos, ltb}
use Rattle.std.proofs.Common.{refl, sym, ap, subst, ◌∙◌, arith}
use Rattle.lie_math.specs.FiniteSum.{term, of}
use Rattle.lie_math.specs.Counts.{Derivative}
use Rattle.lie_math.specs.Polynomial.{WholePolynomial, constant, ◌*ᴾ◌}
use Rattle.lie_math.specs.PolynomialRing.{one-*ᴾ}
use Rattle.lie_math.specs.LinearForm.{LinearForm, no_form, apply}
use Rattle.lie_math.specs.LinearSystem.{LinearSystem, has}
use Rattle.lie_math.proofs.LinearForm.{apply_unknown, apply_none}
use Rattle.lie_math.proofs.Variables.{in-0ᴾ}
use Rattle.lie_math.specs.Variables.{IsIn}
use Rattle.lie_systems.specs.ValidSystems.{IsOwned}
use Rattle.lie_systems.specs.Normalised.{derivative_alone}
use Rattle.lie_steps.specs.Replacement.{unknowns_after}
use Rattle.lie_steps.specs.Tidying.{IsTidySystem}
use Rattle.lie_steps.specs.Zero.{IsZeroAt, zeroed, AppliesZero, AfterZero}
use Rattle.lie_steps.specs.Laws.{HaveSameFields, Keeps, IsFunctional, IsTotal}
use Rattle.lie_math.proofs.EveryElement.{every_picked, every_of_contained}
use Rattle.lie_math.proofs.FormEntries.{each-none}
use Rattle.lie_steps.proofs.Carry.{same_fields-trans}
use Rattle.lie_steps.proofs.Tidied.{IsSound, Solves, sound_of_valid, tidy_valid, tidy_same, tidy_unique, tidy_exists}
use Rattle.lie_math.proofs.Tests.{eqb_self}
use Rattle.lie_steps.proofs.FreshUnknowns.{rising-after, nothing_rises}
use Rattle.lie_steps.proofs.PutIn.{recovered}
use Rattle.lie_steps.proofs.Replaced.{IsReplacement, eliminated-sound, eliminated-same}

module _ (n : ℕ) (S : LinearSystem) (sound : IsSound n S) (i f : ℕ) (z : IsZeroAt S i f) where
  is_replacement : IsReplacement n S f no_form 1 []
  is_replacement = record {
    positive = omega arith;
    rising = rising-after S f [] sound.rising sound.below nothing_rises tt;
    below = tt;
    variables = tt;
    form = each-none (IsOwned (unknowns_after S f [])) (λ v. ltb v n);
  }

  pub zeroed-sound : IsSound n (zeroed S i f)
  zeroed-sound = eliminated-sound n S sound i z.place f no_form 1 [] is_replacement

  pub zeroed-same : HaveSameFields S (zeroed S i f)
  zeroed-same = eliminated-same n S sound i z.place f no_form 1 [] is_replacement
      (λ F h. record {
        values = F;
        same = λ g lt. refl;
        fresh_own = tt;
        is = one-*ᴾ (F f) ∙ sym (apply_unknown F f) ∙ ap (apply F) (sym z.is) ∙ (every_picked (Solves F) S.equations i no_form z.place h.solves).0 ∙ sym (apply_none F);
      })
      (λ G o. record {
        own = every_of_contained _ S.unknowns (λ u c e. subst (IsIn (has u)) (sym (apply_none G)) (in-0ᴾ (has u)));
        solves = ap (apply (recovered f no_form 1 G)) z.is ∙ apply_unknown (recovered f no_form 1 G) f ∙ ap (λ t. cond t (apply G no_form) (constant (pos 1) *ᴾ G f)) (eqb_self f) ∙ apply_none G;
      })

pub zero_keeps : Keeps AfterZero
zero_keeps n S T i v a =
    let s = sound_of_valid n S v in (
      tidy_valid n (zeroed S i a.0) T a.2 (zeroed-sound n S s i a.0 a.1),
      same_fields-trans S (zeroed S i a.0) T (zeroed-same n S s i a.0 a.1) (tidy_same (zeroed S i a.0) T a.2),
    )

-- ---- one derivative alone
pub list-derivative_alone : (d : Derivative) → (derivative_alone d).list ≡ (d, constant (pos 1)) ∷ []
unfolding term of
list-derivative_alone d = refl

abbrev first_or : Derivative → List (Derivative × WholePolynomial) → Derivative
first_or d [] = d
first_or d (e ∷ es) = e.0

pub same_alone : (d e : Derivative) → derivative_alone d ≡ derivative_alone e → d ≡ e
same_alone d e h = ap (first_or d) (sym (list-derivative_alone d) ∙ ap (λ (E : LinearForm). E.list) h ∙ list-derivative_alone e)

pub zero_functional : IsFunctional AfterZero
zero_functional n S T U i v a b =
    let same : a.0 ≡ b.0 = ap (λ (d : Derivative). d.unknown) (same_alone (record { unknown = a.0; counts = [] }) (record { unknown = b.0; counts = [] }) (sym (a.1).is ∙ (b.1).is)) in
    tidy_unique (zeroed S i b.0) T U (subst (λ f. IsTidySystem (zeroed S i f) T) same a.2) b.2

pub zero_total : IsTotal AppliesZero AfterZero
zero_total n S i w a = let t = tidy_exists (zeroed S i a.0) in (t.0, (a.0, a.1, t.1))
