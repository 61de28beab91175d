-- Whether something can be reduced in a form by a list of equations: told equation by equation and term by term.
use Rattle.std.specs.Prelude.{◌≡◌, ℕ, zero, suc, ◌+◌, ◌-◌, ◌<◌, ◌≤◌, ◌⊎◌, ◌↔◌, Bool, true, false, MatchBool, List, [], ◌∷◌, ◌++◌, length}
use Rattle.std.specs.Prelude.{get_or, take, drop, remove}
use Rattle.std.proofs.Common.{sym, ap, subst, ◌∙◌, arith, inl, inr, add-one}
use Rattle.std.proofs.lemmas.List.{take_rest}
use Rattle.std.specs.List.{AllByRecursion as Every}
use Rattle.lie_math.specs.Counts.{Derivative}
use Rattle.lie_math.specs.FiniteSum as finite
use Rattle.lie_math.specs.FiniteSumLaws.{value-none}
use Rattle.lie_math.specs.LinearForm.{LinearForm, forms, no_form}
use Rattle.lie_math.specs.LinearSystem.{Unknown, LinearSystem}
use Rattle.lie_math.specs.Polynomial.{WholePolynomial}
use Rattle.lie_math.proofs.EveryElement.{every_at, every_picked}
use Rattle.lie_math.proofs.FiniteSum.{entries_of}
use Rattle.lie_ring.proofs.Fronts.{all_taken}
use Rattle.lie_systems.specs.Leads.{Occurs, IsLead}
use Rattle.lie_systems.specs.ValidSystems.{IsFormOf, IsValid}
use Rattle.lie_jet.specs.Derivatives.{derivative_of}
use Rattle.lie_jet.specs.declared.derivative.Der.{Der}
use Rattle.lie_lin.specs.Forms.{coefficients_of}
use Rattle.lie_steps.specs.Equations.{Divides, equation}
use Rattle.lie_steps.specs.NormalForm.{IsLedBy}
use Rattle.lie_steps.proofs.NormalForms.{lead_unique}
use Rattle.lie_steps.proofs.Rests.{coefficient_has}
use Rattle.lie_normal.specs.FormLists.{AreFormsOf}
use Rattle.lie_normal.proofs.LeadOrder.{got}
use Rattle.lie_cross.specs.Normal.{SomeLeads, SomeIsReducible}

-- ---- one equation
pub lead_apart : (E : LinearForm) (d : Derivative) → IsLead d E → ¬ (E ≡ no_form)
lead_apart E d l e = l.occurs (ap (λ G. finite.value forms G d) e ∙ value-none forms d)

module _ (d : Derivative) where
  pub led_by_lead : (E : LinearForm) (l : Derivative) (T : Type 0) → IsLead l E → T ↔ Divides l d → T ↔ IsLedBy d E
  led_by_lead E l T a h = (λ t. (l, a, h.0 t), λ r. h.1 (subst (λ k. Divides k d) (lead_unique E r.0 l r.1 a) r.2))

  pub none_led : (E : LinearForm) → E ≡ no_form → ¬ (IsLedBy d E)
  none_led E e r = lead_apart E r.0 r.1 e

  -- ---- a list of equations
  abbrev pub IsNotLed : LinearForm → Type 0
  IsNotLed L = ¬ (IsLedBy d L)

  pub some_leads_at : (Ls : List LinearForm) (i : ℕ) (L : LinearForm) → i < length Ls → L ≡ get_or Ls i L → IsLedBy d L → SomeLeads Ls d
  some_leads_at Ls i L lt is h = (i, lt, subst (IsLedBy d) (sym (got Ls i L no_form lt is)) h)

  pub none_leads : (Ls : List LinearForm) (i : ℕ) → length Ls ≤ i → Every IsNotLed (take i Ls) → ¬ (SomeLeads Ls d)
  none_leads Ls i le h s = (every_picked IsNotLed Ls s.0 no_form s.1 (subst (Every IsNotLed) (all_taken Ls i le) h)).0 s.2

-- ---- the terms of a form
abbrev Term : Type 0
Term = Der × WholePolynomial

abbrev pub IsNotReducible : List LinearForm → Term → Type 0
IsNotReducible Ls t = ¬ (SomeLeads Ls (derivative_of t.0))

module _ (Ls : List LinearForm) (E : LinearForm) (ts : List Term) (is : coefficients_of ts ≡ E.list) where
  every_coefficient : (P : Derivative → Type 0) (ts : List Term) → Every (λ (t : Term). P (derivative_of t.0)) ts
      → Every (λ (e : Derivative × WholePolynomial). P e.0) (coefficients_of ts)
  every_coefficient P [] h = tt
  every_coefficient P (t ∷ ts) h = (h.0, every_coefficient P ts h.1)

  every_term : (P : Derivative → Type 0) (ts : List Term) → Every (λ (e : Derivative × WholePolynomial). P e.0) (coefficients_of ts)
      → Every (λ (t : Term). P (derivative_of t.0)) ts
  every_term P [] h = tt
  every_term P (t ∷ ts) h = (h.0, every_term P ts h.1)

  term_occurs : (k : ℕ) (x : Term) → k < length ts → x ≡ get_or ts k x → Occurs (derivative_of x.0) E
  term_occurs k x lt at =
      every_at (λ (t : Term). Occurs (derivative_of t.0) E) ts k x lt at
      (every_term (λ q. Occurs q E) ts (subst (Every (λ (e : Derivative × WholePolynomial). Occurs e.0 E)) (sym is)
      (entries_of forms E (λ (e : Derivative × WholePolynomial). Occurs e.0 E) (λ e at n z. n (sym at ∙ z)))))

  pub reducible_at : (k : ℕ) (x : Term) → k < length ts → x ≡ get_or ts k x → SomeLeads Ls (derivative_of x.0) → SomeIsReducible Ls E
  reducible_at k x lt at s = (derivative_of x.0, (term_occurs k x lt at, s.0, s.1, s.2))

  pub none_reducible : (k : ℕ) → length ts ≤ k → Every (IsNotReducible Ls) (take k ts) → ¬ (SomeIsReducible Ls E)
  none_reducible k le h s =
      coefficient_has (λ (e : Derivative × WholePolynomial). ¬ (SomeLeads Ls e.0)) E
      (subst (Every (λ (e : Derivative × WholePolynomial). ¬ (SomeLeads Ls e.0))) is
      (every_coefficient (λ q. ¬ (SomeLeads Ls q)) ts (subst (Every (IsNotReducible Ls)) (all_taken ts k le) h)))
      s.0 (s.1).0 ((s.1).1, (s.1).2, (s.1).3)

-- ---- a list in two parts
module _ (E : LinearForm) (d : Derivative) where
  pub leads_first : (Ls Ks : List LinearForm) → SomeLeads Ls d → SomeLeads (Ls ++ Ks) d
  leads_first [] Ks s = absurd (let lt : s.0 < length {A = LinearForm} [] = s.1 in omega arith)
  leads_first (L ∷ Ls) Ks s = go (λ r. leads_first Ls Ks r) s.0 s.1 s.2
    where
      go : (SomeLeads Ls d → SomeLeads (Ls ++ Ks) d) → (j : ℕ) → j < length (L ∷ Ls) → IsLedBy d (get_or (L ∷ Ls) j no_form)
          → SomeLeads (L ∷ (Ls ++ Ks)) d
      go rest zero lt h = (zero, omega arith, h)
      go rest (suc j) lt h = let r = rest (j, omega arith, h) in (suc r.0, (let m : r.0 < length (Ls ++ Ks) = r.1 in omega arith), r.2)

  pub leads_second : (Ls Ks : List LinearForm) → SomeLeads Ks d → SomeLeads (Ls ++ Ks) d
  leads_second [] Ks s = s
  leads_second (L ∷ Ls) Ks s = let r = leads_second Ls Ks s in (suc r.0, (let m : r.0 < length (Ls ++ Ks) = r.1 in omega arith), r.2)

  pub leads_cases : (Ls Ks : List LinearForm) → SomeLeads (Ls ++ Ks) d → SomeLeads Ls d ⊎ SomeLeads Ks d
  leads_cases [] Ks s = inr s
  leads_cases (L ∷ Ls) Ks s = go (λ r. leads_cases Ls Ks r) s.0 s.1 s.2
    where
      by : SomeLeads Ls d ⊎ SomeLeads Ks d → SomeLeads (L ∷ Ls) d ⊎ SomeLeads Ks d
      by (inl r) = inl (suc r.0, (let m : r.0 < length Ls = r.1 in omega arith), r.2)
      by (inr r) = inr r

      go : (SomeLeads (Ls ++ Ks) d → SomeLeads Ls d ⊎ SomeLeads Ks d) → (j : ℕ) → j < length (L ∷ (Ls ++ Ks))
          → IsLedBy d (get_or (L ∷ (Ls ++ Ks)) j no_form) → SomeLeads (L ∷ Ls) d ⊎ SomeLeads Ks d
      go rest zero lt h = inl (zero, omega arith, h)
      go rest (suc j) lt h = by (rest (j, omega arith, h))

module _ (E : LinearForm) (Ls Ks : List LinearForm) where
  pub reducible_second : SomeIsReducible Ks E → SomeIsReducible (Ls ++ Ks) E
  reducible_second s = let r = leads_second E s.0 Ls Ks ((s.1).1, (s.1).2, (s.1).3) in (s.0, ((s.1).0, r.0, r.1, r.2))

  pub neither_reducible : ¬ (SomeIsReducible Ls E) → ¬ (SomeIsReducible Ks E) → ¬ (SomeIsReducible (Ls ++ Ks) E)
  neither_reducible n m s = go (leads_cases E s.0 Ls Ks ((s.1).1, (s.1).2, (s.1).3))
    where
      go : SomeLeads Ls s.0 ⊎ SomeLeads Ks s.0 → ⊥
      go (inl r) = n (s.0, ((s.1).0, r.0, r.1, r.2))
      go (inr r) = m (s.0, ((s.1).0, r.0, r.1, r.2))

-- an equation of the list, and the list without it
module _ (Ls : List LinearForm) (i : ℕ) (L : LinearForm) (lt : i < length Ls) (is : L ≡ get_or Ls i L) where
  behind : drop (suc i) Ls ≡ take (length Ls - (i + 1)) (drop (i + 1) Ls)
  behind = sym (take_rest Ls (i + 1) ∙ ap (λ k. drop k Ls) (add-one i))

  pub reducible_behind : (r : Bool) → ¬ (SomeIsReducible (take i Ls) L)
      → MatchBool r (SomeIsReducible (take (length Ls - (i + 1)) (drop (i + 1) Ls)) L)
      (¬ (SomeIsReducible (take (length Ls - (i + 1)) (drop (i + 1) Ls)) L))
      → MatchBool r (SomeIsReducible (remove Ls i) (get_or Ls i no_form)) (¬ (SomeIsReducible (remove Ls i) (get_or Ls i no_form)))
  reducible_behind true n h =
      subst (SomeIsReducible (remove Ls i)) (sym (got Ls i L no_form lt is))
      (reducible_second L (take i Ls) (drop (suc i) Ls) (subst (λ Ks. SomeIsReducible Ks L) (sym behind) h))
  reducible_behind false n h =
      subst (λ E. ¬ (SomeIsReducible (remove Ls i) E)) (sym (got Ls i L no_form lt is))
      (neither_reducible L (take i Ls) (drop (suc i) Ls) n (subst (λ Ks. ¬ (SomeIsReducible Ks L)) (sym behind) h))

-- ---- normal forms by the equations of a system
pub same_forms : (us vs : List Unknown) (E F : LinearForm) (Ls Ks : List LinearForm) → us ≡ vs → E ≡ F → Ls ≡ Ks
    → AreFormsOf us (E ∷ Ls) → AreFormsOf vs (F ∷ Ks)
same_forms us vs E F Ls Ks p q r h =
    subst (λ (x : List Unknown × LinearForm × List LinearForm). AreFormsOf x.0 (x.1 ∷ x.2)) (λ i. (p i, q i, r i)) h

pub equation_is : (S : LinearSystem) (Es : List LinearForm) (i : ℕ) (E : LinearForm) → Es ≡ S.equations → i < length S.equations
    → E ≡ get_or Es i E → equation S i ≡ E
equation_is S Es i E e lt is = got S.equations i E no_form lt (is ∙ ap (λ Fs. get_or Fs i E) e)

module _ (n : ℕ) (S : LinearSystem) (valid : IsValid n S) (few : n ≤ 8) where
  pub system_forms : (E : LinearForm) → IsFormOf n S.unknowns E → AreFormsOf S.unknowns (E ∷ S.equations)
  system_forms E form =
      record { variable_count = n; few = few; rising = valid.rising; variables = valid.variables; forms = (form, valid.equations) }
