-- Leads among the equations other than that at a place.
use Rattle.std.specs.Prelude.{◌≡◌, ℕ, zero, suc, ◌+◌, ◌<◌, ◌≤◌, ◌⊎◌, false, Option, None, Some, List, [], ◌∷◌, length, get_or, remove}
use Rattle.std.proofs.Common.{refl, sym, ap, subst, ◌∙◌, arith, inl, inr}
use Rattle.lie_math.specs.Counts.{Derivative}
use Rattle.lie_math.specs.LinearForm.{LinearForm, no_form}
use Rattle.lie_steps.specs.Equations.{mentions}
use Rattle.lie_steps.specs.NormalForm.{IsLedBy}
use Rattle.lie_steps.proofs.Stepping.{trichotomy}
use Rattle.lie_tables.specs.Tables.{IsNextPlace}
use Rattle.lie_tables.proofs.OtherLeads.{lead_is_other}
use Rattle.lie_normal.proofs.LeadOrder.{got}
use Rattle.lie_cross.specs.Normal.{SomeLeads}

module _ (d : Derivative) where
  -- ---- the list without an equation
  pub leads_among : (Ls : List LinearForm) (i j : ℕ) → j < length Ls → ¬ (j ≡ i) → IsLedBy d (get_or Ls j no_form) → SomeLeads (remove Ls i) d
  leads_among [] i j lt n h = absurd (omega arith)
  leads_among (L ∷ Ls) zero zero lt n h = absurd (n refl)
  leads_among (L ∷ Ls) zero (suc j) lt n h = (j, omega arith, h)
  leads_among (L ∷ Ls) (suc i) zero lt n h = (zero, omega arith, h)
  leads_among (L ∷ Ls) (suc i) (suc j) lt n h =
      let r = leads_among Ls i j (omega arith) (λ e. n (ap suc e)) h in
      (suc r.0, (let m : r.0 < length (remove Ls i) = r.1 in omega arith), r.2)

  -- an equation of the list with the lead
  abbrev IsLedAt : List LinearForm → ℕ → Type 0
  IsLedAt Ls i = (j : ℕ) × (j < length Ls) × (¬ (j ≡ i)) × IsLedBy d (get_or Ls j no_form)

  among_leads : (Ls : List LinearForm) (i j : ℕ) → j < length (remove Ls i) → IsLedBy d (get_or (remove Ls i) j no_form) → IsLedAt Ls i
  among_leads [] zero j lt h = absurd (omega arith)
  among_leads [] (suc i) j lt h = absurd (omega arith)
  among_leads (L ∷ Ls) zero j lt h = (suc j, omega arith, (λ e. omega arith), h)
  among_leads (L ∷ Ls) (suc i) zero lt h = (zero, omega arith, (λ e. omega arith), h)
  among_leads (L ∷ Ls) (suc i) (suc j) lt h =
      let r = among_leads Ls i j (omega arith) h in
      (suc r.0, (let m : r.0 < length Ls = r.1 in omega arith), (λ e. r.2 (omega arith)), r.3)

  -- ---- an equation by another name
  pub led_at : (Ls : List LinearForm) (i : ℕ) (L : LinearForm) → i < length Ls → L ≡ get_or Ls i L → IsLedBy d L → IsLedBy d (get_or Ls i no_form)
  led_at Ls i L lt is = subst (IsLedBy d) (sym (got Ls i L no_form lt is))

  pub not_led_at : (Ls : List LinearForm) (i : ℕ) (L : LinearForm) → i < length Ls → L ≡ get_or Ls i L → ¬ (IsLedBy d L)
      → ¬ (IsLedBy d (get_or Ls i no_form))
  not_led_at Ls i L lt is = subst (λ E. ¬ (IsLedBy d E)) (sym (got Ls i L no_form lt is))

  -- ---- the search
  -- no equation before a place leads, but perhaps the one at i
  abbrev pub NoneLeadsBefore : List LinearForm → ℕ → ℕ → Type 0
  NoneLeadsBefore Ls i from = (j : ℕ) → j < from → j < length Ls → ¬ (j ≡ i) → ¬ (IsLedBy d (get_or Ls j no_form))

  not_led : (L : LinearForm) → mentions d.unknown L ≡ false → ¬ (IsLedBy d L)
  not_led L none h = lead_is_other d.unknown L h.0 none h.1 (h.2).unknown

  pub none_before_next : (Ls : List LinearForm) (i from at next : ℕ) → next ≡ at + 1 → NoneLeadsBefore Ls i from
      → IsNextPlace (mentions d.unknown) Ls from (Some at) → (¬ (at ≡ i) → ¬ (IsLedBy d (get_or Ls at no_form))) → NoneLeadsBefore Ls i next
  none_before_next Ls i from at next e before h here j lt inside other = by (trichotomy j from) (trichotomy j at)
    where
      by : (j < from) ⊎ (from < j) ⊎ (j ≡ from) → (j < at) ⊎ (at < j) ⊎ (j ≡ at) → ¬ (IsLedBy d (get_or Ls j no_form))
      by (inl k) l = before j k inside other
      by (inr k) (inl l) = not_led (get_or Ls j no_form) (h.2 j (from_there k) l)
        where
          from_there : (from < j) ⊎ (j ≡ from) → from ≤ j
          from_there (inl m) = omega arith
          from_there (inr m) = omega arith
      by (inr k) (inr (inl l)) = absurd (omega arith)
      by (inr k) (inr (inr l)) = λ led. here (λ m. other (l ∙ m)) (subst (λ n. IsLedBy d (get_or Ls n no_form)) l led)

  pub none_leads_more : (Ls : List LinearForm) (i from : ℕ) → NoneLeadsBefore Ls i from → IsNextPlace (mentions d.unknown) Ls from None
      → ¬ (SomeLeads (remove Ls i) d)
  none_leads_more Ls i from before h s = go (among_leads Ls i s.0 s.1 s.2)
    where
      by : (j : ℕ) → j < length Ls → ¬ (j ≡ i) → IsLedBy d (get_or Ls j no_form) → (j < from) ⊎ (from < j) ⊎ (j ≡ from) → ⊥
      by j lt n led (inl k) = before j k lt n led
      by j lt n led (inr (inl k)) = not_led (get_or Ls j no_form) (h j (omega arith) lt) led
      by j lt n led (inr (inr k)) = not_led (get_or Ls j no_form) (h j (omega arith) lt) led

      go : IsLedAt Ls i → ⊥
      go r = by r.0 r.1 r.2 r.3 (trichotomy r.0 from)
