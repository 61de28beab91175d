-- What can be reduced in a form is found: the greatest derivative that some lead divides, and the first equation with such a lead.
use Rattle.std.specs.Prelude.{◌≡◌, ℕ, zero, suc, ◌<◌, ◌≤◌, ◌⊎◌, Bool, true, false, eqb, leb, List, [], ◌∷◌, length, get_or}
use Rattle.std.proofs.Common.{refl, sym, ap, subst, ◌∙◌, arith, inl, inr, true≢false, eq-eqb, leb-true, leb-false}
use Rattle.std.specs.List.{AllByRecursion as Every}
use Rattle.lie_math.specs.FiniteSum as finite
use Rattle.lie_math.specs.FiniteSum.{IsCanonical}
use Rattle.lie_math.specs.FiniteSumLaws.{value-none}
use Rattle.lie_math.specs.Counts.{Derivative}
use Rattle.lie_math.specs.LinearForm.{LinearForm, forms, no_form}
use Rattle.lie_math.specs.Polynomial.{WholePolynomial}
use Rattle.lie_math.proofs.CanonicalLists.{canonical_tail}
use Rattle.lie_math.proofs.FiniteSum.{entries_of}
use Rattle.lie_systems.specs.Leads.{Occurs}
use Rattle.lie_systems.proofs.Leads.{first_is_lead}
use Rattle.lie_systems.proofs.Primitive.{no_derivative}
use Rattle.lie_steps.specs.Equations.{Divides}
use Rattle.lie_steps.specs.NormalForm.{IsLedBy, IsReducible, IsReduction}
use Rattle.lie_math.proofs.Tests.{same_number}
use Rattle.lie_steps.proofs.CountLists.{IsUnder}
use Rattle.lie_steps.proofs.NormalForms.{lead_unique}
use Rattle.lie_steps.proofs.DescendingLists.{StandsIn, not_before, stands_later}

-- ---- tests
under : (J K : List ℕ) → IsUnder J K ⊎ ¬ (IsUnder J K)
under [] K = inl (λ v. omega arith)
under (j ∷ J) [] = go (leb j 0) refl (under J [])
  where
    go : (t : Bool) → leb j 0 ≡ t → IsUnder J [] ⊎ ¬ (IsUnder J []) → IsUnder (j ∷ J) [] ⊎ ¬ (IsUnder (j ∷ J) [])
    go true e (inl h) = inl (all (leb-true j 0 e) h)
      where
        all : j ≤ 0 → IsUnder J [] → IsUnder (j ∷ J) []
        all a h zero = a
        all a h (suc v) = h v
    go true e (inr n) = inr (λ h. n (λ v. h (suc v)))
    go false e r = inr (λ h. let a = h 0 in let b = leb-false j 0 e in absurd (omega arith))
under (j ∷ J) (k ∷ K) = go (leb j k) refl (under J K)
  where
    go : (t : Bool) → leb j k ≡ t → IsUnder J K ⊎ ¬ (IsUnder J K) → IsUnder (j ∷ J) (k ∷ K) ⊎ ¬ (IsUnder (j ∷ J) (k ∷ K))
    go true e (inl h) = inl (all (leb-true j k e) h)
      where
        all : j ≤ k → IsUnder J K → IsUnder (j ∷ J) (k ∷ K)
        all a h zero = a
        all a h (suc v) = h v
    go true e (inr n) = inr (λ h. n (λ v. h (suc v)))
    go false e r = inr (λ h. let a = h 0 in let b = leb-false j k e in absurd (omega arith))

pub divides : (l d : Derivative) → Divides l d ⊎ ¬ (Divides l d)
divides l d = go (eqb l.unknown d.unknown) refl (under l.counts d.counts)
  where
    go : (t : Bool) → eqb l.unknown d.unknown ≡ t → IsUnder l.counts d.counts ⊎ ¬ (IsUnder l.counts d.counts) → Divides l d ⊎ ¬ (Divides l d)
    go true e (inl h) = inl (record { unknown = same_number l.unknown d.unknown e; counts = h })
    go true e (inr n) = inr (λ h. n h.counts)
    go false e r = inr (λ h. true≢false (sym (eq-eqb l.unknown d.unknown h.unknown) ∙ e))

led_by : (d : Derivative) (L : LinearForm) → IsLedBy d L ⊎ ¬ (IsLedBy d L)
led_by d L = go L.list refl
  where
    go : (es : List (Derivative × WholePolynomial)) → L.list ≡ es → IsLedBy d L ⊎ ¬ (IsLedBy d L)
    go [] e = inr (λ h. ((h.1).occurs) (ap (λ G. finite.value forms G h.0) (no_derivative L e) ∙ value-none forms h.0))
    go (x ∷ es) e = by (divides x.0 d)
      where
        by : Divides x.0 d ⊎ ¬ (Divides x.0 d) → IsLedBy d L ⊎ ¬ (IsLedBy d L)
        by (inl h) = inl (x.0, first_is_lead L x es e, h)
        by (inr n) = inr (λ h. n (subst (λ y. Divides y d) (lead_unique L h.0 x.0 h.1 (first_is_lead L x es e)) h.2))

-- the first equation whose lead divides d
record IsFirstLed (Ls : List LinearForm) (d : Derivative) (j : ℕ) : Type 0 where
  place : j < length Ls
  led : IsLedBy d (get_or Ls j no_form)
  first : (k : ℕ) → k < j → ¬ (IsLedBy d (get_or Ls k no_form))

first_led : (d : Derivative) (Ls : List LinearForm) → ((j : ℕ) × IsFirstLed Ls d j) ⊎ ((j : ℕ) → j < length Ls → ¬ (IsLedBy d (get_or Ls j no_form)))
first_led d [] = inr (λ j lt. absurd (omega arith))
first_led d (L ∷ Ls) = go (led_by d L) (first_led d Ls)
  where
    go : IsLedBy d L ⊎ ¬ (IsLedBy d L) → ((j : ℕ) × IsFirstLed Ls d j) ⊎ ((j : ℕ) → j < length Ls → ¬ (IsLedBy d (get_or Ls j no_form))) → ((j : ℕ) × IsFirstLed (L ∷ Ls) d j) ⊎ ((j : ℕ) → j < length (L ∷ Ls) → ¬ (IsLedBy d (get_or (L ∷ Ls) j no_form)))
    go (inl h) r = inl (0, record { place = omega arith; led = h; first = λ k lt. absurd (omega arith) })
    go (inr n) (inl (j, f)) = inl (suc j, record { place = (let p = f.place in omega arith); led = f.led; first = before })
      where
        before : (k : ℕ) → k < suc j → ¬ (IsLedBy d (get_or (L ∷ Ls) k no_form))
        before zero lt = n
        before (suc k) lt = f.first k (omega arith)
    go (inr n) (inr f) = inr none
      where
        none : (j : ℕ) → j < length (L ∷ Ls) → ¬ (IsLedBy d (get_or (L ∷ Ls) j no_form))
        none zero lt = n
        none (suc j) lt = f j (omega arith)

-- ---- the search along the derivatives, the greatest first
module _ (Ls : List LinearForm) (E : LinearForm) where
  abbrev IsFound : Type 0
  IsFound = (d : Derivative) × (j : ℕ) × (l : Derivative) × IsReduction Ls E d j l

  search_in : (es : List (Derivative × WholePolynomial)) → IsCanonical forms es → Every (λ (e : Derivative × WholePolynomial). Occurs e.0 E) es → ((q : Derivative) → IsReducible Ls E q → StandsIn es q) → IsFound ⊎ ((d : Derivative) → ¬ (IsReducible Ls E d))
  search_in [] c o h = inr (λ d r. h d r refl)
  search_in (e ∷ es) c o h = go (first_led e.0 Ls) (search_in es (canonical_tail forms e es c) o.1)
    where
      later : ((j : ℕ) → j < length Ls → ¬ (IsLedBy e.0 (get_or Ls j no_form))) → (q : Derivative) → IsReducible Ls E q → StandsIn es q
      later none q r = stands_later e es c q (h q r) (λ s. none r.1 r.2 (subst (λ x. IsLedBy x (get_or Ls r.1 no_form)) s r.3))

      go : ((j : ℕ) × IsFirstLed Ls e.0 j) ⊎ ((j : ℕ) → j < length Ls → ¬ (IsLedBy e.0 (get_or Ls j no_form))) → (((q : Derivative) → IsReducible Ls E q → StandsIn es q) → IsFound ⊎ ((d : Derivative) → ¬ (IsReducible Ls E d))) → IsFound ⊎ ((d : Derivative) → ¬ (IsReducible Ls E d))
      go (inl (j, f)) r = inl (
        e.0,
        j,
        (f.led).0,
        record {
          greatest = record { holds = (o.0, j, f.place, f.led); greatest = λ q r. not_before e es c q (h q r) };
          place = f.place;
          lead = (f.led).1;
          divides = (f.led).2;
          first = f.first;
        },
      )
      go (inr none) r = r (later none)

  pub search_reduction : IsFound ⊎ ((d : Derivative) → ¬ (IsReducible Ls E d))
  search_reduction = search_in E.list E.canonical (entries_of forms E (λ (e : Derivative × WholePolynomial). Occurs e.0 E) (λ e is n z. n (sym is ∙ z))) (λ q r. r.0)
