-- What the leads of a list tell of a form: the greatest derivative that one divides is reduced by the first equation whose lead divides it.
use Rattle.std.specs.Prelude.{◌≡◌, ℕ, zero, suc, ◌<◌, List, [], ◌∷◌, length, get_or, take}
use Rattle.std.proofs.Common.{refl, sym, ap, subst, ◌∙◌, arith, inl, inr, Greater}
use Rattle.std.specs.List.{AllByRecursion as Every}
use Rattle.lie_math.specs.FiniteSum as finite
use Rattle.lie_math.specs.FiniteSum.{IsCanonical}
use Rattle.lie_math.specs.FiniteSumLaws.{value-none}
use Rattle.lie_math.specs.Counts.{Derivative, derivative_cmp}
use Rattle.lie_math.specs.LinearForm.{LinearForm, forms, no_form}
use Rattle.lie_math.specs.Polynomial.{WholePolynomial}
use Rattle.lie_math.proofs.CanonicalLists.{canonical_tail}
use Rattle.lie_math.proofs.EveryElement.{every_at, every-weaken}
use Rattle.lie_math.proofs.FiniteSum.{entries_of}
use Rattle.lie_systems.specs.Leads.{Occurs}
use Rattle.lie_jet.specs.Derivatives.{derivative_of}
use Rattle.lie_steps.specs.Equations.{Divides}
use Rattle.lie_steps.specs.NormalForm.{IsLedBy, IsReducible, IsReduction}
use Rattle.lie_steps.proofs.DescendingLists.{StandsIn, not_before, stands_later}
use Rattle.lie_normal.specs.Leads.{GoesBefore, AreOrdered, AreLeads, IsLeadBelow, IsNoDivisor, NoneDivides, IsFirstDivisor, IsGreatestDivided}
use Rattle.lie_normal.specs.declared.leads.PlacedLead.{PlacedLead}
use Rattle.lie_normal.proofs.LeadOrder.{listed}

abbrev Entry : Type 0
Entry = Derivative × WholePolynomial

-- an equation with a lead is not empty
led_apart : (d : Derivative) (L : LinearForm) → IsLedBy d L → ¬ (L ≡ no_form)
led_apart d L r e = (r.1).occurs (ap (λ G. finite.value forms G r.0) e ∙ value-none forms r.0)

module _ (d : Derivative) (x : PlacedLead) (divides : Divides (derivative_of x.lead) d) where
  -- what stands before x does not divide d
  EarlierIsNone : PlacedLead → Type 0
  EarlierIsNone y = y.place < x.place → IsNoDivisor d y

  behind_first : (y : PlacedLead) → GoesBefore x y → EarlierIsNone y
  unfolding EarlierIsNone
  behind_first y (inl g) lt h = let u : y.lead.unknown ≡ d.unknown = h.unknown in let w : x.lead.unknown ≡ d.unknown = divides.unknown in absurd (omega arith)
  behind_first y (inr g) lt h = let p : x.place < y.place = g.1 in absurd (omega arith)

  earlier_none : (xs : List PlacedLead) (i : ℕ) → AreOrdered xs → i < length xs → x ≡ get_or xs i x → NoneDivides (take i xs) d → Every EarlierIsNone xs
  unfolding EarlierIsNone
  earlier_none [] i o h e b = tt
  earlier_none (y ∷ xs) zero o h e b = (subst EarlierIsNone e (λ lt q. absurd (omega arith)), every-weaken (GoesBefore x) EarlierIsNone behind_first xs (subst (λ z. Every (GoesBefore z) xs) (sym e) o.0))
  earlier_none (y ∷ xs) (suc i) o h e b = (λ lt. b.0, earlier_none xs i o.1 (omega arith) e b.1)

module _ (Ls : List LinearForm) (xs : List PlacedLead) (a : AreLeads Ls (length Ls) xs) where
  -- no equation has a lead that divides d
  none_led : (d : Derivative) → NoneDivides xs d → (j : ℕ) → j < length Ls → ¬ (IsLedBy d (get_or Ls j no_form))
  none_led d none j h r =
      let x = listed Ls (length Ls) xs a d (IsNoDivisor d) none j h r.0 r.1 (led_apart d (get_or Ls j no_form) r) in
      x.1 (subst (λ l. Divides l d) (sym x.3) r.2)

  -- no equation before that of the first divisor has one
  none_before : (d : Derivative) (x : PlacedLead) → IsFirstDivisor xs d x → (k : ℕ) → k < x.place → x.place < length Ls → ¬ (IsLedBy d (get_or Ls k no_form))
  unfolding EarlierIsNone
  none_before d x f k h g r =
      let y = listed Ls (length Ls) xs a d (EarlierIsNone d x f.divides) (earlier_none d x f.divides xs f.index a.ordered f.inside f.is f.before) k (omega arith) r.0 r.1 (led_apart d (get_or Ls k no_form) r) in
      y.1 (subst (λ i. i < x.place) (sym y.2) h) (subst (λ l. Divides l d) (sym y.3) r.2)

  lead_below : (d : Derivative) (x : PlacedLead) → IsFirstDivisor xs d x → IsLeadBelow Ls (length Ls) x
  lead_below d x f = every_at (IsLeadBelow Ls (length Ls)) xs f.index x f.inside f.is a.each

  module _ (E : LinearForm) where
    not_led : (q e : Derivative) → NoneDivides xs e → IsReducible Ls E q → ¬ (q ≡ e)
    not_led q e none r s = none_led e none r.1 r.2 (subst (λ x. IsLedBy x (get_or Ls r.1 no_form)) s r.3)

    not_greater : (es : List Entry) → IsCanonical forms es → (k : ℕ) (x : Entry) → k < length es → x ≡ get_or es k x → Every (λ (e : Entry). NoneDivides xs e.0) (take k es)
        → (q : Derivative) → IsReducible Ls E q → StandsIn es q → ¬ (derivative_cmp x.0 q ≡ Greater)
    not_greater [] c k x h e none q r s = absurd (omega arith)
    not_greater (y ∷ es) c zero x h e none q r s = subst (λ (z : Entry). ¬ (derivative_cmp z.0 q ≡ Greater)) (sym e) (not_before y es c q s)
    not_greater (y ∷ es) c (suc k) x h e none q r s = not_greater es (canonical_tail forms y es c) k x (omega arith) e none.1 q r (stands_later y es c q s (not_led q y.0 none.0 r))

    pub reduction_found : (d : Derivative) (x : PlacedLead) → IsGreatestDivided E xs d x → IsReduction Ls E d x.place (derivative_of x.lead)
    reduction_found d x g = record {
      greatest = record {
        holds = (occurs, x.place, below.0, (derivative_of x.lead, below.1, g.first.divides));
        greatest = λ q r. subst (λ e. ¬ (derivative_cmp e q ≡ Greater)) g.derivative (not_greater E.list E.canonical g.index g.entry g.inside g.is g.before q r r.0);
      };
      place = below.0;
      lead = below.1;
      divides = g.first.divides;
      first = λ k lt. none_before d x g.first k lt below.0;
    }
      where
        below : IsLeadBelow Ls (length Ls) x
        below = lead_below d x g.first

        occurs : Occurs d E
        occurs = subst (λ e. Occurs e E) g.derivative (every_at (λ (e : Entry). Occurs e.0 E) E.list g.index g.entry g.inside g.is (entries_of forms E (λ (e : Entry). Occurs e.0 E) (λ e is n z. n (sym is ∙ z))))

    nothing_stands : (es : List Entry) → IsCanonical forms es → Every (λ (e : Entry). NoneDivides xs e.0) es → (q : Derivative) → IsReducible Ls E q → ¬ (StandsIn es q)
    nothing_stands [] c none q r s = s refl
    nothing_stands (y ∷ es) c none q r s = nothing_stands es (canonical_tail forms y es c) none.1 q r (stands_later y es c q s (not_led q y.0 none.0 r))

    pub nothing_found : Every (λ (e : Entry). NoneDivides xs e.0) E.list → (q : Derivative) → ¬ (IsReducible Ls E q)
    nothing_found none q r = nothing_stands E.list E.canonical none q r r.0
