-- Where a rule does not apply, nothing meets its condition: of what meets it there would be a first or a greatest one.
use Rattle.std.specs.Prelude.{List, [], ◌∷◌, pos, ℤ}
use Rattle.std.proofs.Common.{refl, sym, subst, ◌∙◌}
use Rattle.lie_math.specs.FiniteSum.{IsCanonical}
use Rattle.lie_math.specs.Counts.{Derivative}
use Rattle.lie_math.specs.LinearForm.{LinearForm, forms}
use Rattle.lie_math.specs.LinearSystem.{Unknown}
use Rattle.lie_math.specs.Polynomial.{WholePolynomial, terms}
use Rattle.lie_math.specs.Monomial.{unit}
use Rattle.lie_math.specs.FiniteSumLaws.{term_additive}
use Rattle.lie_math.proofs.CanonicalLists.{canonical_tail}
use Rattle.lie_systems.specs.Leads.{Occurs}
use Rattle.lie_steps.specs.Equations.{equation, IsGreatest}
use Rattle.lie_steps.specs.Split.{IsSplitBy}
use Rattle.lie_steps.specs.Substitute.{IsSolvedFor, IsSubstitutable}
use Rattle.lie_steps.specs.Integrate.{IsIntegrable}
use Rattle.lie_steps.specs.Foreign.{IsForeignBy}
use Rattle.lie_steps.specs.Laws.{SplitAppliesToAny, SubstituteAppliesToAny, IntegrateAppliesToAny, ForeignAppliesToAny}
use Rattle.lie_math.proofs.FirstNumbers.{none_first}
use Rattle.lie_steps.proofs.SolvedForms.{same_constant}
use Rattle.lie_steps.proofs.DescendingLists.{StandsIn, not_before, stands_later}

-- ---- the greatest derivative of a kind
module _ (P : Derivative → Type 0) (E : LinearForm) (greatest : (d : Derivative) → ¬ (IsGreatest P d)) where
  none_in : (es : List (Derivative × WholePolynomial)) → IsCanonical forms es → ((q : Derivative) → P q → StandsIn es q) → (d : Derivative) → ¬ (P d)
  none_in [] c h d p = h d p refl
  none_in (e ∷ es) c h d p = none_in es (canonical_tail forms e es c) (λ q r. stands_later e es c q (h q r) (λ s. first (subst P s r))) d p
    where
      first : ¬ (P e.0)
      first p = greatest e.0 (record { holds = p; greatest = λ q r. not_before e es c q (h q r) })

  pub none_greatest : ((q : Derivative) → P q → Occurs q E) → (d : Derivative) → ¬ (P d)
  none_greatest h = none_in E.list E.canonical h

pub solved_occurs : (us : List Unknown) (E : LinearForm) (d : Derivative) (c : ℤ) → IsSolvedFor us E d c → Occurs d E
solved_occurs us E d c h z = h.apart (same_constant c (pos 0) (sym h.leads ∙ z ∙ sym ((term_additive terms).on_nil unit)))

-- ---- the rules
pub split_applies : SplitAppliesToAny
split_applies S i p n = none_first (IsSplitBy S.unknowns (equation S i)) (λ v q f. n (v, record { place = p; splits = q; first = f }))

pub substitute_applies : SubstituteAppliesToAny
substitute_applies S i p n = none_greatest (IsSubstitutable S.unknowns (equation S i)) (equation S i) (λ d g. n (d, (g.holds).number, record { place = p; solved = (g.holds).solved; greatest = g })) (λ q h. solved_occurs S.unknowns (equation S i) q h.number h.solved)

pub integrate_applies : IntegrateAppliesToAny
integrate_applies S i p n = none_greatest (IsIntegrable S.unknowns (equation S i)) (equation S i) (λ d g. n (p, d, g)) (λ q h. solved_occurs S.unknowns (equation S i) q h.0 (h.3).solved)

pub foreign_applies : ForeignAppliesToAny
foreign_applies S i p n v N h = none_first (λ w. (M : LinearForm) × IsForeignBy S i w M) (λ w q f. n (w, q.0, record { place = p; foreign = q.1; first = λ x M lt k. f x lt (M, k) })) v (N, h)
