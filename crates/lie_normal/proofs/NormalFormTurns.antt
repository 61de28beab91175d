-- A turn of a normal form as it is made: with the leads of the list, and with the equation that was found.
use Rattle.std.specs.Prelude.{◌≡◌, ◌<◌, ◌∷◌, List, length, get_or}
use Rattle.std.proofs.Common.{sym, ap, subst, ◌∙◌}
use Rattle.std.specs.List.{AllByRecursion as Every, Contains}
use Rattle.lie_math.specs.Counts.{Derivative}
use Rattle.lie_math.specs.LinearForm.{LinearForm, no_form}
use Rattle.lie_math.specs.LinearSystem.{Unknown}
use Rattle.lie_math.specs.Polynomial.{WholePolynomial}
use Rattle.lie_systems.specs.Works.{IsWorkWithin}
use Rattle.lie_ring.specs.declared.failures.PolyFail.{PolyFail}
use Rattle.lie_jet.specs.Derivatives.{derivative_of}
use Rattle.lie_steps.specs.NormalForm.{IsReduction, reduced_once, reduction_made, IsNormalForm, NormalFormMakes}
use Rattle.lie_normal.specs.FormLists.{AreFormsOf}
use Rattle.lie_normal.specs.Leads.{AreLeads, NoneDivides, IsGreatestDivided}
use Rattle.lie_normal.specs.WorkCauses.{IsWorkCause}
use Rattle.lie_normal.specs.declared.leads.PlacedLead.{PlacedLead}
use Rattle.lie_normal.proofs.NormalFormSteps.{IsReducedFrom, turns_left, normal_end, within_end, makes_now, reduced_next, turns_fall}
use Rattle.lie_normal.proofs.ReductionSearch.{reduction_found, nothing_found}
use Rattle.lie_normal.proofs.WorkSteps.{work_weaken}

module _ (us : List Unknown) (Ls : List LinearForm) (E : LinearForm) (a : AreFormsOf us (E ∷ Ls)) (xs : List PlacedLead) (leads : AreLeads Ls (length Ls) xs) (F : LinearForm) (h : IsReducedFrom us Ls E F) where
  module _ (d : Derivative) (x : PlacedLead) (g : IsGreatestDivided F xs d x) where
    found : IsReduction Ls F d x.place (derivative_of x.lead)
    found = reduction_found Ls xs leads F d x g

    pub place_inside : x.place < length Ls
    place_inside = found.place

    module _ (L : LinearForm) (is : get_or Ls x.place no_form ≡ L) where
      pub turn_cause : (fail : PolyFail) → IsWorkCause fail (Contains (reduction_made us F d L (derivative_of x.lead))) → IsWorkCause fail (NormalFormMakes us Ls E)
      turn_cause fail cause = work_weaken fail (makes_now us Ls E a F h d x.place (derivative_of x.lead) found) (subst (λ (K : LinearForm). IsWorkCause fail (Contains (reduction_made us F d K (derivative_of x.lead)))) (sym is) cause)

      once : reduced_once us F d L (derivative_of x.lead) ≡ reduced_once us F d (get_or Ls x.place no_form) (derivative_of x.lead)
      once = ap (λ (K : LinearForm). reduced_once us F d K (derivative_of x.lead)) (sym is)

      pub turn_next : (G : LinearForm) → G ≡ reduced_once us F d L (derivative_of x.lead) → IsWorkWithin (Contains (reduction_made us F d L (derivative_of x.lead))) → IsReducedFrom us Ls E G
      turn_next G e w =
          reduced_next us Ls E a F h d x.place (derivative_of x.lead) found G (e ∙ once)
          (subst (λ (K : LinearForm). IsWorkWithin (Contains (reduction_made us F d K (derivative_of x.lead)))) (sym is) w)

      pub turn_falls : (G : LinearForm) → G ≡ reduced_once us F d L (derivative_of x.lead) → turns_left us Ls E G < turns_left us Ls E F
      turn_falls G e = turns_fall us Ls E a F h d x.place (derivative_of x.lead) found G (e ∙ once)

  module _ (none : Every (λ (e : Derivative × WholePolynomial). NoneDivides xs e.0) F.list) where
    pub last_normal : IsNormalForm us Ls E F
    last_normal = normal_end us Ls E a F h (nothing_found Ls xs leads F none)

    pub last_within : IsWorkWithin (NormalFormMakes us Ls E)
    last_within = within_end us Ls E a F h (nothing_found Ls xs leads F none)
