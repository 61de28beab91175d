-- The search for the first pair of equations that can be crossed: pairs without leads of one unknown are skipped.
use Rattle.std.specs.Prelude.{◌≡◌, ℕ, ◌+◌, ◌<◌, ◌≤◌, ◌⊎◌, false, Option, None, Some, List, get_or}
use Rattle.std.proofs.Common.{refl, sym, ap, subst, ◌∙◌, arith, inl, inr}
use Rattle.lie_math.specs.Counts.{Derivative}
use Rattle.lie_math.specs.LinearForm.{LinearForm, forms, no_form}
use Rattle.lie_math.specs.FiniteSum as finite
use Rattle.lie_math.specs.FiniteSumLaws.{value-none}
use Rattle.lie_normal.proofs.LeadOrder.{got}
use Rattle.lie_math.specs.LinearSystem.{LinearSystem}
use Rattle.lie_systems.specs.Leads.{IsLead}
use Rattle.lie_systems.specs.Works.{IsWorkWithin}
use Rattle.lie_steps.specs.Cross.{AppliesCross}
use Rattle.lie_steps.specs.Equations.{equation, IsPlace, mentions}
use Rattle.lie_steps.specs.Rules.{Cross, Place, Applies, Tries, IsEarlier}
use Rattle.lie_steps.proofs.NormalForms.{lead_unique}
use Rattle.lie_steps.proofs.Stepping.{trichotomy}
use Rattle.lie_tables.specs.Tables.{IsNextPlace}
use Rattle.lie_tables.proofs.OtherLeads.{lead_is_other}
use Rattle.lie_change.specs.Tried.{at}
use Rattle.lie_solve.specs.Partners.{AreNoPartners, IsNextPartner}
use Rattle.lie_solve.specs.Places.{IsPlaceOf}
use Rattle.lie_solve.proofs.Places.{next_number}
use Rattle.lie_solve.proofs.Searches.{IsReached, reached_by}

abbrev pub pair : ℕ → ℕ → Place
pair i j = record { first = i; second = j }

module _ (S : LinearSystem) (i : ℕ) where
  -- ---- partners are found by the unknown of the lead
  unmentioned_apart : (l : Derivative) → IsLead l (equation S i) → (j : ℕ) → mentions l.unknown (equation S j) ≡ false → AreNoPartners S i j
  unmentioned_apart l lead j none k m leads other e =
      lead_is_other l.unknown (equation S j) m none other (sym e ∙ ap (λ d. d.unknown) (lead_unique (equation S i) k l leads lead))

  next_by_lead : (l : Derivative) → IsLead l (equation S i) → (from : ℕ) (found : Option ℕ)
      → IsNextPlace (mentions l.unknown) S.equations from found → IsNextPartner S i from found
  next_by_lead l lead from None h = λ j le lt. unmentioned_apart l lead j (h j le lt)
  next_by_lead l lead from (Some k) h = (h.0, h.1, λ j le lt. unmentioned_apart l lead j (h.2 j le lt))

  none_without_lead : ((l : Derivative) → ¬ (IsLead l (equation S i))) → (from : ℕ) → IsNextPartner S i from None
  none_without_lead none from = λ j le lt l m lead other e. none l lead

  -- the equations and the i-th of them by other names
  module _ (Es : List LinearForm) (E : LinearForm) (same : Es ≡ S.equations) (place : IsPlace S i) (is : E ≡ get_or Es i E) where
    named : equation S i ≡ E
    named = got S.equations i E no_form place (is ∙ ap (λ (Fs : List LinearForm). get_or Fs i E) same)

    pub partner_by_lead : (l : Derivative) → IsLead l E → (from : ℕ) (found : Option ℕ) → IsNextPlace (mentions l.unknown) Es from found
        → IsNextPartner S i from found
    partner_by_lead l lead from found h =
        next_by_lead l (subst (IsLead l) (sym named) lead) from found
        (subst (λ (Fs : List LinearForm). IsNextPlace (mentions l.unknown) Fs from found) same h)

    pub no_partner : E ≡ no_form → (from : ℕ) → IsNextPartner S i from None
    no_partner e from = none_without_lead (λ l lead. lead.occurs (ap (λ (G : LinearForm). finite.value forms G l) (named ∙ e) ∙ value-none forms l)) from

  pub partner_place : (from k : ℕ) → i < from → IsNextPartner S i from (Some k) → IsPlaceOf Cross S (pair i k)
  partner_place from k lt h = ((let l = h.0 in omega arith), h.1)

  -- ---- what is skipped
  no_cross : (j : ℕ) → AreNoPartners S i j → ¬ (AppliesCross S i j)
  no_cross j apart a = apart (a.1).lead (a.1).other (a.1).leads (a.1).other_leads (a.1).unknown

  no_tries : (j : ℕ) → AreNoPartners S i j → IsWorkWithin (Tries Cross S (pair i j))
  no_tries j apart b t = absurd (apart (t.2).0 (t.2).1 (t.2).2 (t.2).3 (t.2).4)

  module _ (from : ℕ) (h : IsReached S Cross (pair i from)) (q : Place) where
    abbrev IsSkipped : Place → Type 0
    IsSkipped x = IsEarlier x (pair i from) ⊎ ((x.first ≡ i) × AreNoPartners S i x.second)

    skip : ((x : Place) → IsPlaceOf Cross S x → IsEarlier x q → IsSkipped x) → IsReached S Cross q
    skip f = reached_by S Cross (pair i from) q h (λ x p k. none x (f x p k)) (λ x p k. within x (f x p k))
      where
        none : (x : Place) → IsSkipped x → ¬ (Applies Cross S x)
        none x (inl k) = h.none Cross x (inr (refl, k))
        none x (inr k) = λ a. no_cross x.second k.1 (subst (λ n. AppliesCross S n x.second) k.0 a)

        within : (x : Place) → IsSkipped x → IsWorkWithin (Tries Cross S x)
        within x (inl k) = h.within Cross x (inr (refl, k))
        within x (inr k) = λ b t. no_tries x.second k.1 b (subst (λ n. Tries Cross S (pair n x.second) b) k.0 t)

    behind : (x : Place) → x.first ≡ i → (from ≤ x.second → AreNoPartners S i x.second) → IsSkipped x
    behind x e n = by (trichotomy x.second from)
      where
        by : (x.second < from) ⊎ (from < x.second) ⊎ (x.second ≡ from) → IsEarlier x (pair i from) ⊎ ((x.first ≡ i) × AreNoPartners S i x.second)
        by (inl k) = inl (inr (e, k))
        by (inr (inl k)) = inr (e, n (omega arith))
        by (inr (inr k)) = inr (e, n (omega arith))

  -- to the next partner
  pub reached_partner : (from k : ℕ) → IsReached S Cross (pair i from) → IsNextPartner S i from (Some k) → IsReached S Cross (pair i k)
  reached_partner from k h next = skip from h (pair i k) (λ x p early. by x early)
    where
      by : (x : Place) → IsEarlier x (pair i k) → IsSkipped from h (pair i k) x
      by x (inl lt) = inl (inl lt)
      by x (inr e) = behind from h (pair i k) x e.0 (λ le. next.2 x.second le e.1)

  -- to the next first equation
  pub reached_row : (from n : ℕ) → n ≡ i + 1 → IsReached S Cross (pair i from) → IsNextPartner S i from None → IsReached S Cross (at n)
  reached_row from n s h next = skip from h (at n) (λ x p early. by x p.1 early)
    where
      by : (x : Place) → IsPlace S x.second → IsEarlier x (at n) → IsSkipped from h (at n) x
      by x inside (inr e) = absurd (let l = e.1 in omega arith)
      by x inside (inl lt) = turn (next_number x.first i (omega arith))
        where
          turn : (x.first < i) ⊎ (x.first ≡ i) → IsEarlier x (pair i from) ⊎ ((x.first ≡ i) × AreNoPartners S i x.second)
          turn (inl k) = inl (inl k)
          turn (inr e) = behind from h (at n) x e (λ le. next x.second le inside)
