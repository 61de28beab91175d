-- The step of the rule for an equation f = 0.
use Rattle.std.specs.Prelude.{◌≡◌, ℕ, ◌+◌, true, false, List, [], ◌∷◌, ◌||◌, eqb}
use Rattle.std.proofs.Common.{refl, sym, ap, ap₂, subst, ◌∙◌, arith}
use Rattle.std.specs.List.{Contains, list_any}
use Rattle.lie_math.specs.Counts.{Derivative, order, before_counts, trimmed}
use Rattle.lie_math.specs.FiniteSum as finite
use Rattle.lie_math.specs.LinearForm.{LinearForm, forms, no_form}
use Rattle.lie_math.specs.LinearSystem.{LinearSystem}
use Rattle.lie_math.specs.Polynomial.{WholePolynomial}
use Rattle.lie_math.proofs.Counts.{order_trimmed}
use Rattle.lie_math.proofs.Tests.{eqb_self}
use Rattle.lie_systems.specs.Normalised.{derivative_alone}
use Rattle.lie_systems.specs.ValidSystems.{IsValid}
use Rattle.lie_jet.specs.declared.derivative.Der.{Der}
use Rattle.lie_lin.specs.Forms.{coefficients_of}
use Rattle.lie_steps.specs.Equations.{equation, mentions}
use Rattle.lie_steps.specs.Replacement.{replacement_made}
use Rattle.lie_steps.specs.Rules.{Zero}
use Rattle.lie_steps.specs.Tidying.{IsTidySystem}
use Rattle.lie_steps.specs.Zero.{IsZeroAt, AppliesZero, zeroed}
use Rattle.lie_steps.proofs.ZeroRule.{same_alone, list-derivative_alone, zero_keeps}
use Rattle.lie_change.specs.Ends.{StaysValid}
use Rattle.lie_change.specs.Tried.{at}
use Rattle.lie_rules.proofs.Steps.{IsStep}

-- the unknown of a derivative alone occurs
pub mentions_alone : (E : LinearForm) (d : Derivative) → E ≡ derivative_alone d → mentions d.unknown E ≡ true
mentions_alone E d e =
    ap (λ (G : LinearForm). list_any (λ (x : Derivative × WholePolynomial). eqb (x.0).unknown d.unknown) G.list) e
    ∙ ap (list_any (λ (x : Derivative × WholePolynomial). eqb (x.0).unknown d.unknown)) (list-derivative_alone d)
    ∙ ap (λ t. t || list_any (λ (x : Derivative × WholePolynomial). eqb (x.0).unknown d.unknown) []) (eqb_self d.unknown)

module _ (S : LinearSystem) (i f : ℕ) (z : IsZeroAt S i f) where
  same_unknown : (g : ℕ) → IsZeroAt S i g → g ≡ f
  same_unknown g w =
      ap (λ (d : Derivative). d.unknown) (same_alone (record { unknown = g; counts = [] }) (record { unknown = f; counts = [] })
      (sym w.is ∙ z.is))

  pub zero_step : IsStep Zero S (at i) (zeroed S i f) (replacement_made S i f no_form 1 [])
  zero_step = record {
    untested = λ b t. t;
    leaves = λ T t. (f, z, t);
    left = λ T a. subst (λ g. IsTidySystem (zeroed S i g) T) (same_unknown a.0 a.1) a.2;
    made = λ b m. subst (λ g. Contains (replacement_made S i g no_form 1 []) b) (same_unknown m.0 m.1) m.2;
    makes = λ b c. (f, z, c);
  }

  pub zero_occurs : mentions f (equation S i) ≡ true
  zero_occurs = mentions_alone (equation S i) (record { unknown = f; counts = [] }) z.is

-- ---- derivatives of order 0, and others
no_order : (J : List ℕ) → order J ≡ 0 → trimmed J ≡ []
no_order [] e = refl
no_order (c ∷ J) e = let s : c + order J ≡ 0 = e in ap₂ before_counts (let z : c ≡ 0 = omega arith in z) (no_order J (omega arith))

pub no_counts : (J : List ℕ) → order (trimmed J) ≡ 0 → trimmed J ≡ []
no_counts J e = no_order J (sym (order_trimmed J) ∙ e)

pub some_counts : (J : List ℕ) → ¬ (order J ≡ 0) → ¬ (J ≡ [])
some_counts J n e = n (ap order e)

pub zero_is : (S : LinearSystem) (i : ℕ) (d : Derivative) → d.counts ≡ [] → equation S i ≡ derivative_alone d
    → equation S i ≡ derivative_alone (record { unknown = d.unknown; counts = [] })
zero_is S i d k e = e ∙ ap derivative_alone (λ j. record { unknown = d.unknown; counts = k j })

pub zero_apart : (S : LinearSystem) (i : ℕ) (d : Derivative) → ¬ (d.counts ≡ []) → equation S i ≡ derivative_alone d → ¬ (AppliesZero S i)
zero_apart S i d n e z = n (ap (λ (x : Derivative). x.counts) (same_alone d (record { unknown = z.0; counts = [] }) (sym e ∙ (z.1).is)))

-- what is left is valid
pub zero_stays : (n : ℕ) (S : LinearSystem) (i f : ℕ) → IsValid n S → IsZeroAt S i f → StaysValid n (zeroed S i f)
zero_stays n S i f v z T t = (zero_keeps n S T i v (f, z, t)).0

-- ---- the form 0
pub nothing_is : (W : LinearForm) (ts : List (Der × WholePolynomial)) → W ≡ finite.of forms (coefficients_of ts) → ts ≡ [] → W ≡ no_form
unfolding finite.none
nothing_is W ts e n = e ∙ ap (λ us. finite.of forms (coefficients_of us)) n

pub none_mentions : (f : ℕ) (W : LinearForm) → W ≡ no_form → mentions f W ≡ false
unfolding finite.none finite.of
none_mentions f W e = ap (mentions f) e
