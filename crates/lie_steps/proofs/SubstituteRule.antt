-- An equation solved for an unknown: the rest over the number before it is put in.
use Rattle.std.specs.Prelude.{◌≡◌, ℕ, cond, [], ℤ, pos, neg_ℤ, unsigned_abs, ltb}
use Rattle.std.proofs.Common.{refl, sym, ap, ap₂, subst, ◌∙◌}
use Rattle.lie_math.specs.Counts.{Derivative, partials, derived}
use Rattle.lie_math.specs.LinearForm.{LinearForm, no_form, times_form, apply}
use Rattle.lie_math.specs.LinearSystem.{LinearSystem}
use Rattle.lie_math.specs.PartialDerivative.{partial}
use Rattle.lie_math.specs.Polynomial.{WholePolynomial, constant, ◌+ᴾ◌, ◌*ᴾ◌}
use Rattle.lie_math.proofs.Dependence.{free_of_partial}
use Rattle.lie_math.proofs.LinearForm.{apply_times}
use Rattle.lie_math.proofs.Ring.{times_nil}
use Rattle.lie_math.specs.PolynomialRing.{polynomial_ring}
use Rattle.lie_math.proofs.Variables.{in-constant}
use Rattle.lie_systems.specs.Normalised.{sign}
use Rattle.lie_systems.specs.ValidSystems.{IsOwned, IsFormOf}
use Rattle.lie_steps.specs.Equations.{equation, rest_of, depends}
use Rattle.lie_steps.specs.Laws.{HaveSameFields, Keeps, IsFunctional, IsTotal}
use Rattle.lie_steps.specs.Replacement.{without, unknowns_after, eliminated}
use Rattle.lie_steps.specs.Substitute.{IsSubstitutable, IsSubstitutedAt, substituted, AppliesSubstitute, AfterSubstitute}
use Rattle.lie_steps.specs.Tidying.{IsTidySystem}
use Rattle.lie_math.proofs.EveryElement.{every_picked, every-front, every_of_contained}
use Rattle.lie_math.proofs.FormEntries.{each-times}
use Rattle.lie_steps.proofs.Carry.{same_fields-trans}
use Rattle.lie_steps.proofs.Tidied.{IsSound, Solves, sound_of_valid, tidy_valid, tidy_same, tidy_unique, tidy_exists}
use Rattle.lie_math.proofs.Tests.{eqb_self}
use Rattle.lie_steps.proofs.Unknowns.{IsOwn}
use Rattle.lie_steps.proofs.FreshUnknowns.{rising-after, nothing_rises}
use Rattle.lie_steps.proofs.PutIn.{recovered, recovered-avoiding, partial-constant}
use Rattle.lie_steps.proofs.Replaced.{IsReplacement, eliminated-sound, eliminated-same}
use Rattle.lie_steps.proofs.Division.{eliminated_divided-same, eliminated_divided-sound}
use Rattle.lie_steps.proofs.Rests.{apply_apart, at_derivative}
use Rattle.lie_steps.proofs.RingIdentities.{solved_for, put_back}
use Rattle.lie_steps.proofs.SolvedForms.{greatest_unique, same_constant, constant_signs, size_positive, rest_avoids, rest_form, rest_free, no_dependence}

module _ (n : ℕ) (S : LinearSystem) (sound : IsSound n S) (i : ℕ) (d : Derivative) (c : ℤ) (a : IsSubstitutedAt S i d c) where
  abbrev R : LinearForm
  R = rest_of d (equation S i)

  abbrev W : LinearForm
  W = times_form (constant (neg_ℤ (sign c))) (rest_of d (equation S i))

  abbrev L : ℕ
  L = unsigned_abs c

  form : IsFormOf n S.unknowns (equation S i)
  form = (every_picked (IsFormOf n S.unknowns) S.equations i no_form a.place sound.equations).0

  replacement : IsReplacement n S d.unknown W L []
  replacement = record {
    positive = size_positive c (a.solved).apart;
    rising = rising-after S d.unknown [] sound.rising sound.below nothing_rises tt;
    below = tt;
    variables = tt;
    form = each-times (IsOwned (unknowns_after S d.unknown [])) (λ v. ltb v n) (constant (neg_ℤ (sign c))) (in-constant (λ v. ltb v n) (neg_ℤ (sign c))) (rest_of d (equation S i)) (rest_form n S (equation S i) form d c a.solved []);
  }

  -- the derivative is the function itself
  plain : (F : ℕ → WholePolynomial) → derived F d ≡ F d.unknown
  plain F = ap (λ J. partials J (F d.unknown)) ((a.greatest).holds).itself

  apart : (F : ℕ → WholePolynomial) → apply F (equation S i) ≡ constant c *ᴾ derived F d +ᴾ apply F R
  apart F = apply_apart F d (equation S i) ∙ ap (λ x. x *ᴾ derived F d +ᴾ apply F R) (a.solved).leads

  same : HaveSameFields S (eliminated S i d.unknown W L [])
  same = eliminated-same n S sound i a.place d.unknown W L [] replacement
      (λ F h. record {
        values = F;
        same = λ g lt. refl;
        fresh_own = tt;
        is = solved_for (constant c) (constant (neg_ℤ (sign c))) (constant (pos (unsigned_abs c))) (F d.unknown) (apply F R) (constant_signs c)
            (ap (λ x. constant c *ᴾ x +ᴾ apply F R) (sym (plain F)) ∙ sym (apart F) ∙ (every_picked (Solves F) S.equations i no_form a.place h.solves).0)
            ∙ sym (apply_times F (constant (neg_ℤ (sign c))) R);
      })
      (λ G o. record {
        own = every_of_contained _ S.unknowns (λ u k e w out.
            free_of_partial w (apply G W) (ap (partial w) (apply_times G (constant (neg_ℤ (sign c))) R) ∙ partial-constant w (neg_ℤ (sign c)) (apply G R)
            ∙ ap (λ x. constant (neg_ℤ (sign c)) *ᴾ x) (rest_free n S (equation S i) form d c a.solved G (every-front (IsOwn G) (without d.unknown S.unknowns) [] o) w (ap (λ f. depends S.unknowns f w) (sym e) ∙ no_dependence S.unknowns sound.rising u w k out)) ∙ times_nil polynomial_ring _));
        solves = apart (recovered d.unknown W L G)
            ∙ ap₂ (λ x y. constant c *ᴾ x +ᴾ y) (plain (recovered d.unknown W L G) ∙ ap (λ t. cond t (apply G W) (constant (pos L) *ᴾ G d.unknown)) (eqb_self d.unknown) ∙ apply_times G (constant (neg_ℤ (sign c))) R) (recovered-avoiding d.unknown W L G R (rest_avoids n S (equation S i) form d c a.solved))
            ∙ put_back (constant c) (constant (neg_ℤ (sign c))) (constant (pos L)) (apply G R) (constant_signs c);
      })

  pub substituted-sound : IsSound n (substituted S i d c)
  substituted-sound = eliminated_divided-sound n S i d.unknown W L [] (eliminated-sound n S sound i a.place d.unknown W L [] replacement)

  pub substituted-same : HaveSameFields S (substituted S i d c)
  substituted-same = same_fields-trans S (eliminated S i d.unknown W L []) (substituted S i d c) same (eliminated_divided-same n S i d.unknown W L [])

pub substitute_keeps : Keeps AfterSubstitute
substitute_keeps n S T i v (d, c, a, t) =
    let s = sound_of_valid n S v in (
      tidy_valid n (substituted S i d c) T t (substituted-sound n S s i d c a),
      same_fields-trans S (substituted S i d c) T (substituted-same n S s i d c a) (tidy_same (substituted S i d c) T t),
    )

pub substitute_functional : IsFunctional AfterSubstitute
substitute_functional n S T U i v (d, c, a, t) (e, b, x, u) =
    let derivatives : d ≡ e = greatest_unique (IsSubstitutable S.unknowns (equation S i)) d e a.greatest x.greatest in
    let numbers : c ≡ b = same_constant c b (sym (a.solved).leads ∙ ap (at_derivative (equation S i)) derivatives ∙ (x.solved).leads) in
    tidy_unique (substituted S i e b) T U (subst (λ y. IsTidySystem (substituted S i e y) T) numbers (subst (λ y. IsTidySystem (substituted S i y c) T) derivatives t)) u

pub substitute_total : IsTotal AppliesSubstitute AfterSubstitute
substitute_total n S i w (d, c, a) = let t = tidy_exists (substituted S i d c) in (t.0, (d, c, a, t.1))
