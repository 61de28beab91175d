-- The normal form: it has the same solutions among those of the list, is a form of the system, and is one.
use Rattle.std.specs.Prelude.{◌≡◌, ℕ, ◌+◌, true, ltb, List, get_or}
use Rattle.std.proofs.Common.{refl, sym, ap, subst, ◌∙◌, arith, Less, Equal, Greater, Ordering}
use Rattle.std.specs.List.{AllByRecursion as Every}
use Rattle.std.specs.Ordering.{ordering_reverse}
use Rattle.lie_math.specs.FiniteSumLaws.{plus_idl, plus_comm}
use Rattle.lie_math.specs.Counts.{Derivative, derivative_cmp, partials}
use Rattle.lie_math.specs.DerivativeOrder.{derivative_cmp_total, derivative_same}
use Rattle.lie_math.specs.LinearForm.{LinearForm, no_form, apply}
use Rattle.lie_math.specs.LinearSystem.{Unknown}
use Rattle.lie_math.specs.Polynomial.{WholePolynomial, terms, 0ᴾ, negᴾ, ◌+ᴾ◌, ◌*ᴾ◌}
use Rattle.lie_math.specs.PolynomialRing.{polynomial_ring}
use Rattle.lie_math.specs.Variables.{IsIn}
use Rattle.lie_math.proofs.LinearForm.{apply_none}
use Rattle.lie_math.proofs.Ring.{times_nil}
use Rattle.lie_math.proofs.ZeroDivisors.{no_zero_divisors}
use Rattle.lie_systems.specs.Leads.{Occurs, IsLead}
use Rattle.lie_systems.specs.ValidSystems.{IsOwned, IsFormOf}
use Rattle.lie_systems.proofs.Primitive.{primitive_same_solutions}
use Rattle.lie_steps.specs.Derivatives.{derivatives, missing}
use Rattle.lie_steps.specs.Equations.{Divides, depends}
use Rattle.lie_steps.specs.NormalForm.{combined, coefficient_at, reduced_at, IsLedBy, IsReducible, reduced_once, IsNormalForm, done, onward, IsReduction}
use Rattle.lie_steps.proofs.FormTriples.{each-primitive}
use Rattle.lie_steps.proofs.Tidied.{Solves}
use Rattle.lie_steps.proofs.Unknowns.{IsOwn, depends_of}
use Rattle.lie_steps.proofs.Derived.{IsRising, derivatives-form, apply_derivatives, partials-zero}
use Rattle.lie_steps.proofs.Rests.{coefficient_has}
use Rattle.lie_math.proofs.FirstNumbers.{first_unique}
use Rattle.lie_steps.proofs.SolvedForms.{greatest_unique}
use Rattle.lie_steps.proofs.Combining.{factor_apart, combined_says, combined-form}
use Rattle.lie_steps.proofs.RaisedOrder.{raised_missing, missing_counts}
use Rattle.lie_steps.proofs.LeadDerivatives.{lead_short, lead_from}
use Rattle.lie_steps.proofs.Replaced.{form_at}
use Rattle.lie_math.proofs.FormEntries.{each-none}

-- ---- the lead is one
pub lead_unique : (E : LinearForm) (d e : Derivative) → IsLead d E → IsLead e E → d ≡ e
lead_unique E d e a b = go (derivative_cmp d e) refl
  where
    go : (r : Ordering) → derivative_cmp d e ≡ r → d ≡ e
    go Less k = absurd (b.greatest d a.occurs (derivative_cmp_total.antisymm e d ∙ ap ordering_reverse k))
    go Equal k = derivative_same d e k
    go Greater k = absurd (a.greatest e b.occurs k)

-- ---- the reduction is one
pub reduction_unique : {Ls : List LinearForm} {E : LinearForm} {d e : Derivative} {j i : ℕ} {l m : Derivative} → IsReduction Ls E d j l → IsReduction Ls E e i m → ◌≡◌ {A = Derivative × ℕ × Derivative} (d, j, l) (e, i, m)
reduction_unique {Ls} {E} {d} {e} {j} {i} {l} {m} r s =
    let derivatives : d ≡ e = greatest_unique (IsReducible Ls E) d e r.greatest s.greatest in
    let places : j ≡ i = first_unique (λ x. IsLedBy d (get_or Ls x no_form)) j i (l, r.lead, r.divides) (m, s.lead, subst (Divides m) (sym derivatives) s.divides) r.first (λ x lt q. s.first x lt (subst (λ y. IsLedBy y (get_or Ls x no_form)) derivatives q)) in
    let leads : l ≡ m = lead_unique (get_or Ls i no_form) l m (subst (λ x. IsLead l (get_or Ls x no_form)) places r.lead) s.lead in
    λ t. (derivatives t, places t, leads t)

-- ---- the normal form is one
pub normal_form_unique : {us : List Unknown} {Ls : List LinearForm} {E N : LinearForm} → IsNormalForm us Ls E N → (M : LinearForm) → IsNormalForm us Ls E M → N ≡ M
normal_form_unique (done f) M (done g) = refl
normal_form_unique (done f) M (onward d j l r k) = absurd (f d ((r.greatest).holds))
normal_form_unique (onward d j l r k) M (done f) = absurd (f d ((r.greatest).holds))
normal_form_unique {us} {Ls} {E} {N} (onward d j l r k) M (onward e i m s h) =
    normal_form_unique k M (subst (λ (x : Derivative × ℕ × Derivative). IsNormalForm us Ls (reduced_once us E x.0 (get_or Ls x.1 no_form) x.2) M) (sym (reduction_unique r s)) h)

-- ---- solutions
module _ (n : ℕ) (us : List Unknown) (r : IsRising us) (Ls : List LinearForm) (forms : Every (IsFormOf n us) Ls) where
  list_form : (j : ℕ) → IsFormOf n us (get_or Ls j no_form)
  list_form j = form_at (IsFormOf n us) Ls j (each-none (IsOwned us) (λ v. ltb v n)) forms

  pub reduced_form : (E : LinearForm) (d : Derivative) (j : ℕ) (l : Derivative) → IsFormOf n us E → IsFormOf n us (reduced_once us E d (get_or Ls j no_form) l)
  reduced_form E d j l h = each-primitive (IsOwned us) (λ v. ltb v n) _ (combined-form d E (derivatives us (missing l.counts d.counts) (get_or Ls j no_form)) (IsOwned us) (λ v. ltb v n) h (derivatives-form n us r (missing l.counts d.counts) (get_or Ls j no_form) (list_form j)))

  pub normal-form : {E N : LinearForm} → IsNormalForm us Ls E N → IsFormOf n us E → IsFormOf n us N
  normal-form (done f) h = h
  normal-form {E} {N} (onward d j l s k) h = normal-form k (reduced_form E d j l h)

  -- the derivative that has the lead d
  pub raised_to_lead : (E : LinearForm) (d : Derivative) (j : ℕ) (l : Derivative) → IsFormOf n us E → Occurs d E → IsLead l (get_or Ls j no_form) → Divides l d → IsLead d (derivatives us (missing l.counts d.counts) (get_or Ls j no_form))
  raised_to_lead E d j l h o a v =
      subst (λ x. IsLead x (derivatives us (missing l.counts d.counts) (get_or Ls j no_form))) (raised_missing l d (lead_short n us r (get_or Ls j no_form) (list_form j) l a) owned.short v)
      (lead_from n us r 0 (missing l.counts d.counts) (get_or Ls j no_form) l (list_form j) a (λ k z. ap (λ x. depends us l.unknown x) (plain k) ∙ depends_on k z)).0
    where
      owned : IsOwned us d
      owned = (coefficient_has (λ (x : Derivative × WholePolynomial). IsOwned us x.0 × IsIn (λ v. ltb v n) x.1) E h d o).0

      plain : (k : ℕ) → 0 + k ≡ k
      plain k = omega arith

      depends_on : (k : ℕ) → ¬ (get_or (missing l.counts d.counts) k 0 ≡ 0) → depends us l.unknown k ≡ true
      depends_on k z = ap (λ f. depends us f k) (v.unknown ∙ sym owned.number) ∙ depends_of us owned.unknown k owned.listed (owned.own k (missing_counts l d k z))

  module _ (F : ℕ → WholePolynomial) (own : Every (IsOwn F) us) (solves : Every (Solves F) Ls) where
    derived_solves : (K : List ℕ) (j : ℕ) → Solves F (derivatives us K (get_or Ls j no_form))
    derived_solves K j = apply_derivatives n us r F own K (get_or Ls j no_form) (list_form j) ∙ ap (partials K) (form_at (Solves F) Ls j (apply_none F) solves) ∙ partials-zero K

    says : (E : LinearForm) (d : Derivative) (j : ℕ) (l : Derivative) → apply F (combined d E (derivatives us (missing l.counts d.counts) (get_or Ls j no_form))) ≡ reduced_at d E (derivatives us (missing l.counts d.counts) (get_or Ls j no_form)) (coefficient_at (derivatives us (missing l.counts d.counts) (get_or Ls j no_form)) d) *ᴾ apply F E
    says E d j l =
        combined_says d E (derivatives us (missing l.counts d.counts) (get_or Ls j no_form)) F
        ∙ ap (λ x. reduced_at d E (derivatives us (missing l.counts d.counts) (get_or Ls j no_form)) (coefficient_at (derivatives us (missing l.counts d.counts) (get_or Ls j no_form)) d) *ᴾ apply F E +ᴾ x)
        (ap (λ x. negᴾ (reduced_at d E (derivatives us (missing l.counts d.counts) (get_or Ls j no_form)) (coefficient_at E d)) *ᴾ x) (derived_solves (missing l.counts d.counts) j) ∙ times_nil polynomial_ring _)
        ∙ plus_comm terms _ 0ᴾ ∙ plus_idl terms _

    pub normal_forth : {E N : LinearForm} → IsNormalForm us Ls E N → Solves F E → Solves F N
    normal_forth (done f) z = z
    normal_forth {E} {N} (onward d j l s k) z = normal_forth k ((primitive_same_solutions F (combined d E (derivatives us (missing l.counts d.counts) (get_or Ls j no_form)))).0 (says E d j l ∙ ap (λ x. reduced_at d E (derivatives us (missing l.counts d.counts) (get_or Ls j no_form)) (coefficient_at (derivatives us (missing l.counts d.counts) (get_or Ls j no_form)) d) *ᴾ x) z ∙ times_nil polynomial_ring _))

    pub normal_back : {E N : LinearForm} → IsNormalForm us Ls E N → IsFormOf n us E → Solves F N → Solves F E
    normal_back (done f) h z = z
    normal_back {E} {N} (onward d j l s k) h z =
        no_zero_divisors (reduced_at d E (derivatives us (missing l.counts d.counts) (get_or Ls j no_form)) (coefficient_at (derivatives us (missing l.counts d.counts) (get_or Ls j no_form)) d)) (apply F E)
        (factor_apart d E (derivatives us (missing l.counts d.counts) (get_or Ls j no_form)) (raised_to_lead E d j l h (((s.greatest).holds).0) s.lead s.divides).occurs)
        (sym (says E d j l) ∙ (primitive_same_solutions F (combined d E (derivatives us (missing l.counts d.counts) (get_or Ls j no_form)))).1 (normal_back k (reduced_form E d j l h) z))
