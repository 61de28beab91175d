-- The steps of the work, and what is said of the answers.
use Rattle.std.specs.Prelude.{◌≡◌, ℕ, zero, suc, ◌+◌, ◌<◌, ◌⊎◌, ◌↔◌, List, length}
use Rattle.std.proofs.Common.{refl, subst, arith, inl, inr}
use Rattle.lie_math.specs.LinearSystem.{LinearSystem, Gives}
use Rattle.lie_math.specs.VectorField.{VectorField}
use Rattle.lie_geometry.specs.Coordinates.{Space}
use Rattle.lie_geometry.specs.Invariance.{IsFieldOn, IsInvariant}
use Rattle.lie_geometry.specs.SolvedEquations.{SolvedEquation}
use Rattle.lie_systems.specs.Works.{Limit, OnCoefficients, OnExponents, OnTerms, OnOrders, OnUnknowns, OnWidth, Made, ABasis}
use Rattle.lie_systems.specs.Works.{IsMadeWithin, IsMadePast, IsWorkWithin, IsWorkPast, IsFirstPast}
use Rattle.lie_systems.proofs.WorkLimits.{work_not_within_and_past}
use Rattle.lie_steps.proofs.Stepping.{trichotomy}
use Rattle.lie_ring.specs.declared.failures.PastKind.TheVariants.{Coefficient, Exponent, Terms, Order, Unknowns, Width}
use Rattle.lie_ring.specs.declared.failures.PolyFail.{PolyFail}
use Rattle.lie_ring.specs.declared.failures.PolyFail.TheVariants as fails
use Rattle.lie_brackets.specs.Laws.{FieldInIsFieldOn}
use Rattle.lie_determining.specs.Laws.{OpeningIsUnique}
use Rattle.lie_determining.specs.Openings.{IsOpeningSystem, IsOpeningWithin, IsOpeningCause}
use Rattle.lie_spans.specs.Fields.{IsFieldBasis}
use Rattle.lie_spans.specs.Openings.{HasDegreeAtMost}
use Rattle.lie_spans.proofs.FieldBasis.{field_basis_of_same, one_field_basis}
use Rattle.lie_degree.specs.DegreeBases.{IsDegreeBasis}
use Rattle.lie_degree.specs.Laws.{DegreeBasisIsUnique, AnswersDiffer, SomeAnswerIsDue}
use Rattle.lie_degree.specs.Works.{WidthMakes, NumbersMake, IsBasisWithin, IsBasisCause, DegreeMakes, opening, width, numbers}
use Rattle.lie_degree.specs.Works.{IsDegreeWithin, IsDegreeStop, IsFirstOutside, stop_at}

module _ (S : Space) (rs : List SolvedEquation) (d : ℕ) where
  -- ---- why there is no basis
  pub opening_stop : (fail : PolyFail) → IsOpeningCause S rs fail → IsDegreeStop S rs d (stop_at 0 fail)
  opening_stop (fails.Past kind) (b, m, p) = record { before = λ k l. absurd (omega arith); past = (b, opening b m, p) }
  opening_stop fails.NoMemory c = tt

  module _ (T : LinearSystem) (opened : IsOpeningSystem S rs T) (made : IsOpeningWithin S rs) where
    first_within : (k : ℕ) → k < 1 → IsWorkWithin (DegreeMakes S rs d k)
    first_within zero l b (opening c m) = made b m
    first_within (suc k) l b m = absurd (omega arith)

    pub basis_stop : (fail : PolyFail) → IsBasisCause (S.p + S.q) d T fail → IsDegreeStop S rs d (stop_at 1 fail)
    basis_stop (fails.Past Width) (b, m, p) = record { before = first_within; past = (b, width b m, p) }
    basis_stop (fails.Past Coefficient) (w, (b, m, p)) = record { before = first_within; past = (b, numbers w T opened b m, p) }
    basis_stop (fails.Past Exponent) (w, (b, m, p)) = record { before = first_within; past = (b, numbers w T opened b m, p) }
    basis_stop (fails.Past Terms) (w, (b, m, p)) = record { before = first_within; past = (b, numbers w T opened b m, p) }
    basis_stop (fails.Past Order) (w, (b, m, p)) = record { before = first_within; past = (b, numbers w T opened b m, p) }
    basis_stop (fails.Past Unknowns) (w, (b, m, p)) = record { before = first_within; past = (b, numbers w T opened b m, p) }
    basis_stop fails.NoMemory c = tt

    -- ---- no action is past a limit
    pub all_within : OpeningIsUnique → IsBasisWithin (S.p + S.q) d T → IsDegreeWithin S rs d
    all_within unique w step b (opening c m) = made b m
    all_within unique w step b (width c m) = w.width b m
    all_within unique w step b (numbers x U o c m) =
        w.numbers b (subst (λ X. NumbersMake (S.p + S.q) d X b) (unique S rs U T o opened) m)

  -- ---- the basis
  pub basis_means : FieldInIsFieldOn → (T : LinearSystem) → ((V : VectorField) → IsFieldOn S V → IsInvariant S rs V ↔ Gives T V) →
      (Vs : List VectorField)
      → IsFieldBasis (S.p + S.q) (λ V. Gives T V × HasDegreeAtMost d V) Vs → IsDegreeBasis S rs d Vs
  basis_means on T says Vs h =
      field_basis_of_same (S.p + S.q) (λ V. Gives T V × HasDegreeAtMost d V) (λ V. IsInvariant S rs V × HasDegreeAtMost d V) Vs
      (λ W f. let s = says W ((on S W).0 f) in (λ g. (s.1 g.0, g.1), λ g. (s.0 g.0, g.1))) h

-- ---- laws
pub degree_basis_is_unique : DegreeBasisIsUnique
degree_basis_is_unique S rs d Vs Ws h g = one_field_basis (S.p + S.q) (λ V. IsInvariant S rs V × HasDegreeAtMost d V) Vs Ws h g

one_step : (makes : ℕ → Made → Type 0) (step first : ℕ) (limit : Limit) → IsFirstPast makes step limit → IsFirstOutside makes first
    → (step < first) ⊎ (first < step) ⊎ (step ≡ first) → step ≡ first
one_step makes step first limit p w (inl less) = absurd (work_not_within_and_past (makes step) limit (w.before step less) p.past)
one_step makes step first limit p w (inr (inl more)) = absurd (w.outside (p.before first more))
one_step makes step first limit p w (inr (inr e)) = e

module _ (S : Space) (rs : List SolvedEquation) (d : ℕ) where
  basis_past : (limit : Limit) (n c : ℕ) → IsMadePast limit (ABasis n c) → limit ≡ OnWidth
  basis_past OnCoefficients n c p = absurd p
  basis_past OnExponents n c p = absurd p
  basis_past OnTerms n c p = absurd p
  basis_past OnOrders n c p = absurd p
  basis_past OnUnknowns n c p = absurd p
  basis_past OnWidth n c p = refl

  width_alone : (limit : Limit) → IsWorkPast (WidthMakes (S.p + S.q) d) OnWidth → (k : ℕ) → k ≡ 1 → (b : Made) → DegreeMakes S rs d k b
      → IsMadePast limit b → limit ≡ OnWidth
  width_alone limit w k e b (opening c m) p = absurd (omega arith)
  width_alone limit w k e b (width c m) p = basis_past limit (S.p + S.q) (length m.0) (subst (IsMadePast limit) m.2 p)
  width_alone limit w k e b (numbers x U o c m) p = absurd (work_not_within_and_past (WidthMakes (S.p + S.q) d) OnWidth x w)

pub answers_differ : AnswersDiffer
answers_differ = record {
  within_or_past = λ S rs d step limit w p. work_not_within_and_past (DegreeMakes S rs d step) limit (w step) p.past;
  one_step = λ S rs d step first limit p w. one_step (DegreeMakes S rs d) step first limit p w (trichotomy step first);
  width_first = λ S rs d limit w p. width_alone S rs d limit w 1 refl p.0 p.1 p.2;
}

-- behind step 1 there is no work
short : (S : Space) (rs : List SolvedEquation) (d step : ℕ) (b : Made) → DegreeMakes S rs d step b → step < 2
short S rs d step b (opening c m) = omega arith
short S rs d step b (width c m) = omega arith
short S rs d step b (numbers x U o c m) = omega arith

pub some_answer_is_due : SomeAnswerIsDue
some_answer_is_due S rs d outside none = none 0 (record {
  before = λ k l. absurd (omega arith);
  outside = λ zeroth. none 1
      (record { before = λ k l. first k l zeroth; outside = λ one. outside (λ step b m. at step zeroth one b m (short S rs d step b m)) });
})
  where
    first : (k : ℕ) → k < 1 → IsWorkWithin (DegreeMakes S rs d 0) → IsWorkWithin (DegreeMakes S rs d k)
    first zero l w = w
    first (suc k) l w = absurd (omega arith)

    at : (step : ℕ) → IsWorkWithin (DegreeMakes S rs d 0) → IsWorkWithin (DegreeMakes S rs d 1) → (b : Made) → DegreeMakes S rs d step b
        → step < 2 → IsMadeWithin b
    at zero z o b m l = z b m
    at (suc zero) z o b m l = o b m
    at (suc (suc k)) z o b m l = absurd (omega arith)
