-- A form that is derived often is within the limits where its bulks are, and so are its parts with absolute values.
use Rattle.std.specs.Prelude.{ℕ, zero, suc, List, [], ◌∷◌}
use Rattle.std.proofs.Common.{sym, ap, subst, ◌∙◌}
use Rattle.std.specs.Fn.{iterate}
use Rattle.std.specs.List.{AllByRecursion as Every}
use Rattle.lie_math.specs.Limits.{absolute}
use Rattle.lie_math.specs.LinearForm.{LinearForm}
use Rattle.lie_math.specs.LinearSystem.{Unknown}
use Rattle.lie_systems.specs.Bulk.{bulk, IsFormWithinLimits}
use Rattle.lie_systems.specs.Triples.{Triple, triples, sum_of_triples}
use Rattle.lie_systems.specs.Works.{AForm, IsMadeWithin, IsWorkWithin}
use Rattle.lie_jet.proofs.TotalBounds.{term_bound}
use Rattle.lie_form.proofs.FormBounds.{IsFormBound, over_entries, entries_bound, form_none, form_one, form_sum, form_absolute_bound}
use Rattle.lie_steps.specs.Bulks.{absolute_form, derivative_bulk, derivatives_made_by}
use Rattle.lie_steps.specs.Derivatives.{derivative}
use Rattle.lie_steps.specs.Isolate.{IsPartMade}
use Rattle.lie_parts.specs.Parts.{triples_at, split_triples}
use Rattle.lie_parts.proofs.PartForms.{sum_at}
use Rattle.lie_parts.proofs.PartLimits.{part_within}
use Rattle.lie_parts.proofs.BoundedForms.{within_bounded}
use Rattle.lie_normal.specs.TermSums.{derivative_term}
use Rattle.lie_normal.proofs.AbsoluteForms.{absolute_form_is}
use Rattle.lie_normal.proofs.Bounds.{bulk_is}
use Rattle.lie_normal.proofs.DerivativeSteps as derivatives
use Rattle.lie_normal.proofs.DerivedForms.{derivative_is}
use Rattle.lie_cross.proofs.OuterParts.{inner, part_is}

-- the form is within the limits, and so it is with absolute values
pub record IsWithinBothWays (E : LinearForm) : Type 0 where
  pub true : IsFormWithinLimits E
  pub absolute : IsFormWithinLimits (absolute_form E)

module _ (us : List Unknown) (v : ℕ) where
  -- ---- derivatives
  derivative_bounded : (E : LinearForm) → IsFormBound (derivative us v E) (derivative_bulk us v E)
  derivative_bounded E =
      subst (IsFormBound (derivative us v E))
      (sym (derivative_is us v (absolute_form E) ∙ bulk_is (derivative_term us v) (derivatives.term_bound us v) E))
      (subst (λ D. IsFormBound D (over_entries (λ d a. derivative_term us v d (absolute a)) E.list)) (sym (derivative_is us v E))
      (entries_bound (derivative_term us v) (λ d a. derivative_term us v d (absolute a)) (derivatives.term_bound us v) E.list))

  derived_within : (E : LinearForm) → IsFormWithinLimits (derivative_bulk us v E) → IsWithinBothWays (derivative us v E)
  derived_within E w = record {
    true = within_bounded (derivative us v E) (derivative_bulk us v E) (derivative_bounded E) w;
    absolute = within_bounded (absolute_form (derivative us v E)) (derivative_bulk us v E)
        (subst (λ D. IsFormBound D (derivative_bulk us v E)) (sym (absolute_form_is (derivative us v E)))
        (form_absolute_bound (derivative us v E) (derivative_bulk us v E) (derivative_bounded E))) w;
  }

  derived_often_within : (k : ℕ) (E : LinearForm) → IsWithinBothWays E → Every IsMadeWithin (derivatives_made_by us v k E)
      → IsWithinBothWays (iterate (derivative us v) k E)
  derived_often_within zero E w h = w
  derived_often_within (suc k) E w h = derived_often_within k (derivative us v E) (derived_within E h.0) h.1

  pub freed_within : (k : ℕ) (E : LinearForm) → IsFormWithinLimits (derivative_bulk us v E)
      → Every IsMadeWithin (derivatives_made_by us v k (derivative us v E)) → IsWithinBothWays (iterate (derivative us v) (suc k) E)
  freed_within k E w h = derived_often_within k (derivative us v E) (derived_within E w) h

-- ---- parts
sum_bounded : (ts : List Triple) → IsFormBound (sum_of_triples ts) (bulk ts)
sum_bounded [] = form_none
sum_bounded (t ∷ ts) = form_sum _ _ _ _ (form_one t.0 _ _ (term_bound t.1 t.2)) (sum_bounded ts)

pub parts_within : (us : List Unknown) (D : LinearForm) → IsFormWithinLimits (absolute_form D) → IsWorkWithin (IsPartMade us D)
parts_within us D w b (μ, e) =
    let ts : List Triple = triples_at μ (split_triples (inner us D) (triples (absolute_form D))) in
    subst IsMadeWithin (sym (e ∙ ap AForm (sym (part_is (inner us D) μ (absolute_form D)) ∙ sym (sum_at (inner us D) μ (absolute_form D)))))
    (within_bounded (sum_of_triples ts) (bulk ts) (sum_bounded ts) (part_within (inner us D) μ (absolute_form D) w))
