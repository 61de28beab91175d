-- Each form of a system has a normal form by its equations: what can be reduced gets lesser at each combination, and the order goes down only finitely often.
use Rattle.std.specs.Prelude.{◌≡◌, ℕ, ◌⊎◌, true, ltb, List, get_or, suc, zero}
use Rattle.std.proofs.Common.{refl, sym, ap, ap₂, ◌∙◌, arith, inl, inr, true≢false, Ordering, Less, Equal, Greater}
use Rattle.std.specs.List.{AllByRecursion as Every}
use Rattle.lie_math.specs.FiniteSumLaws.{plus_idl}
use Rattle.lie_math.specs.Counts.{Derivative, derivative_cmp}
use Rattle.lie_math.specs.DerivativeOrder.{derivative_same}
use Rattle.lie_math.specs.LinearForm.{LinearForm, forms, no_form}
use Rattle.lie_math.specs.LinearSystem.{Unknown}
use Rattle.lie_math.specs.Polynomial.{WholePolynomial, terms, 0ᴾ, negᴾ, ◌+ᴾ◌, ◌*ᴾ◌}
use Rattle.lie_math.specs.PolynomialRing.{polynomial_ring}
use Rattle.lie_math.specs.Variables.{IsIn}
use Rattle.lie_math.proofs.FiniteSum.{entries_of}
use Rattle.lie_math.proofs.Ring.{times_nil}
use Rattle.lie_systems.specs.Leads.{Occurs, IsLead}
use Rattle.lie_systems.specs.Normalised.{primitive}
use Rattle.lie_systems.specs.ValidSystems.{count, IsOwned, IsFormOf, HasVariablesBelow}
use Rattle.lie_steps.specs.Derivatives.{derivatives, missing}
use Rattle.lie_steps.specs.NormalForm.{combined, coefficient_at, reduced_at, IsReducible, IsReduction, reduced_once, IsNormalForm, done, onward}
use Rattle.lie_math.proofs.EveryElement.{every_contained}
use Rattle.lie_steps.proofs.FormTriples.{each-primitive}
use Rattle.lie_steps.proofs.FreshPowers.{has_below}
use Rattle.lie_steps.proofs.Derived.{IsRising}
use Rattle.lie_steps.proofs.Rests.{coefficient_has}
use Rattle.lie_steps.proofs.Combining.{at_combined, combined_gone}
use Rattle.lie_steps.proofs.NormalForms.{reduced_form, raised_to_lead}
use Rattle.lie_steps.proofs.LeadDerivatives.{zero_of_not}
use Rattle.lie_steps.proofs.Searching.{search_reduction}
use Rattle.lie_steps.proofs.Descents.{Descends, descends, all_descend, IsLess, measures, IsWithin, order_is_measured}

-- what occurs in the normalised form occurs in the form
pub occurs_before : (X : LinearForm) (q : Derivative) → Occurs q (primitive X) → Occurs q X
occurs_before X q o =
    (coefficient_has (λ (e : Derivative × WholePolynomial). Occurs e.0 X × IsIn (λ v. true) e.1) (primitive X)
    (each-primitive (λ d. Occurs d X) (λ v. true) X (entries_of forms X (λ (e : Derivative × WholePolynomial). Occurs e.0 X × IsIn (λ v. true) e.1) (λ e is n. ((λ z. n (sym is ∙ z)), λ v out. absurd (true≢false out))))) q o).0

module _ (n : ℕ) (us : List Unknown) (r : IsRising us) (below : Every (HasVariablesBelow n) us) (Ls : List LinearForm) (list : Every (IsFormOf n us) Ls) where
  pub owned_within : (d : Derivative) → IsOwned us d → IsWithin n d
  owned_within d o v le = zero_if (count d v) (λ z. let lt = has_below n v (o.unknown).variables (o.own v z) (every_contained (HasVariablesBelow n) us o.unknown below o.listed).1 in absurd (omega arith))
    where
      zero_if : (x : ℕ) → ¬ (¬ (x ≡ 0)) → x ≡ 0
      zero_if zero h = refl
      zero_if (suc x) h = absurd (h (λ e. absurd (omega arith)))

  pub occurring : (E : LinearForm) → IsFormOf n us E → (d : Derivative) → Occurs d E → IsOwned us d
  occurring E h d o = (coefficient_has (λ (e : Derivative × WholePolynomial). IsOwned us e.0 × IsIn (λ v. ltb v n) e.1) E h d o).0

  -- what can be reduced after a reduction is less
  pub lesser : (E : LinearForm) → IsFormOf n us E → (d : Derivative) (j : ℕ) (l : Derivative) → IsReduction Ls E d j l → (q : Derivative) → IsReducible Ls (reduced_once us E d (get_or Ls j no_form) l) q → derivative_cmp d q ≡ Less
  lesser E h d j l s q k = go (derivative_cmp d q) refl
    where
      occurs : Occurs q (combined d E (derivatives us (missing l.counts d.counts) (get_or Ls j no_form)))
      occurs = occurs_before (combined d E (derivatives us (missing l.counts d.counts) (get_or Ls j no_form))) q k.0

      lead : IsLead d (derivatives us (missing l.counts d.counts) (get_or Ls j no_form))
      lead = raised_to_lead n us r Ls list E d j l h ((s.greatest).holds).0 s.lead s.divides

      go : (x : Ordering) → derivative_cmp d q ≡ x → derivative_cmp d q ≡ Less
      go Less e = e
      go Equal e = absurd (occurs (ap (coefficient_at (combined d E (derivatives us (missing l.counts d.counts) (get_or Ls j no_form)))) (sym (derivative_same d q e)) ∙ combined_gone d E (derivatives us (missing l.counts d.counts) (get_or Ls j no_form))))
      go Greater e =
          let absent : coefficient_at (derivatives us (missing l.counts d.counts) (get_or Ls j no_form)) q ≡ 0ᴾ = zero_of_not _ (λ o. lead.greatest q o e) in
          let old : Occurs q E = λ z. occurs (at_combined d E (derivatives us (missing l.counts d.counts) (get_or Ls j no_form)) q
          ∙ ap₂ (λ x y. reduced_at d E (derivatives us (missing l.counts d.counts) (get_or Ls j no_form)) (coefficient_at (derivatives us (missing l.counts d.counts) (get_or Ls j no_form)) d) *ᴾ x +ᴾ negᴾ (reduced_at d E (derivatives us (missing l.counts d.counts) (get_or Ls j no_form)) (coefficient_at E d)) *ᴾ y) z absent
          ∙ ap₂ ◌+ᴾ◌ (times_nil polynomial_ring _) (times_nil polynomial_ring _) ∙ plus_idl terms 0ᴾ) in
          absurd ((s.greatest).greatest q (old, k.1, k.2, k.3) e)

  exists_from : (d : Derivative) → Descends (IsLess (measures n)) d → (E : LinearForm) → IsFormOf n us E → (j : ℕ) (l : Derivative) → IsReduction Ls E d j l → (N : LinearForm) × IsNormalForm us Ls E N
  exists_from d (descends d' f) E h j l s = go (search_reduction Ls (reduced_once us E d (get_or Ls j no_form) l)) (λ e less X form i m t. exists_from e (f e less) X form i m t)
    where
      go : ((e : Derivative) × (i : ℕ) × (m : Derivative) × IsReduction Ls (reduced_once us E d (get_or Ls j no_form) l) e i m) ⊎ ((e : Derivative) → ¬ (IsReducible Ls (reduced_once us E d (get_or Ls j no_form) l) e)) → ((e : Derivative) → IsLess (measures n) e d → (X : LinearForm) → IsFormOf n us X → (i : ℕ) (m : Derivative) → IsReduction Ls X e i m → (N : LinearForm) × IsNormalForm us Ls X N) → (N : LinearForm) × IsNormalForm us Ls E N
      go (inr none) later = (reduced_once us E d (get_or Ls j no_form) l, onward d j l s (done none))
      go (inl (e, i, m, t)) later =
          let form = reduced_form n us r Ls list E d j l h in
          let o = occurring E h d ((s.greatest).holds).0 in
          let p = occurring (reduced_once us E d (get_or Ls j no_form) l) form e ((t.greatest).holds).0 in
          let less = sym (order_is_measured n e d p.short o.short (owned_within e p) (owned_within d o)) ∙ lesser E h d j l s e (t.greatest).holds in
          let x = later e less (reduced_once us E d (get_or Ls j no_form) l) form i m t in
          (x.0, onward d j l s x.1)

  pub normal_form_exists : (E : LinearForm) → IsFormOf n us E → (N : LinearForm) × IsNormalForm us Ls E N
  normal_form_exists E h = go (search_reduction Ls E)
    where
      go : ((e : Derivative) × (i : ℕ) × (m : Derivative) × IsReduction Ls E e i m) ⊎ ((e : Derivative) → ¬ (IsReducible Ls E e)) → (N : LinearForm) × IsNormalForm us Ls E N
      go (inr none) = (E, done none)
      go (inl (e, i, m, t)) = exists_from e (all_descend (measures n) e) E h i m t
