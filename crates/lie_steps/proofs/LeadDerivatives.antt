-- The derivatives of an equation have the derivatives of its lead as their leads, with the same coefficient.
use Rattle.std.specs.Prelude.{◌≡◌, ℕ, zero, suc, ◌+◌, Bool, true, false, cond, ltb, List, [], ◌∷◌, get_or}
use Rattle.std.proofs.Common.{refl, sym, ap, ap₂, ◌∙◌, arith, true≢false, Less, Equal, Greater, Ordering, is_eq}
use mathlib.Core.Path.{fun_ext}
use Rattle.std.specs.Fn.{iterate}
use Rattle.std.specs.List.{AllByRecursion as Every}
use Rattle.std.specs.Ordering.{eq_by_cmp, ordering_reverse}
use Rattle.lie_math.specs.FiniteSum as finite
use Rattle.lie_math.specs.FiniteSumLaws as finite_laws
use Rattle.lie_math.specs.FiniteSumLaws.{value-none, value-plus, value-term, none_of_is, plus_idl}
use Rattle.lie_math.specs.SortedSum.{sum_of_entries}
use Rattle.lie_math.specs.Canonical.{sum_of_entries-map, sum_of_entries-plus, sum_of_entries-nil}
use Rattle.lie_math.specs.Counts.{Derivative, derivative_cmp, raised}
use Rattle.lie_math.specs.DerivativeOrder.{derivative_cmp_total, derivative_same}
use Rattle.lie_math.specs.LinearForm.{LinearForm, forms, no_form, ◌+ᶠ◌, form_term}
use Rattle.lie_math.specs.LinearSystem.{Unknown}
use Rattle.lie_math.specs.PartialDerivative.{partial}
use Rattle.lie_math.specs.Polynomial.{WholePolynomial, polynomials, terms, 0ᴾ, ◌+ᴾ◌}
use Rattle.lie_math.specs.Variables.{IsIn}
use Rattle.lie_math.proofs.FiniteSum.{key, entries_of, sum_of_entries-same}
use Rattle.lie_math.proofs.PartialDerivative.{partial-0ᴾ, partial-+ᴾ}
use Rattle.lie_math.proofs.Variables.{in-partial}
use Rattle.lie_systems.specs.Leads.{IsLead}
use Rattle.lie_systems.specs.ValidSystems.{IsOwned, IsFormOf}
use Rattle.lie_steps.specs.Derivatives.{derivative, derivatives_from}
use Rattle.lie_steps.specs.Equations.{depends}
use Rattle.lie_math.proofs.EveryElement.{every-weaken, every_both}
use Rattle.lie_math.proofs.FormEntries.{each-over, each-plus, each-term, each-none}
use Rattle.lie_steps.proofs.Derived.{IsRising, derivative-form, iterated-form}
use Rattle.lie_steps.proofs.Rests.{at_derivative, coefficient_has}
use Rattle.lie_steps.proofs.RaisedOrder.{IsShort, raised_cmp, raised_before, raised_same, raised_from}
use Rattle.lie_math.proofs.SortedLists.{less_greater}
use Rattle.std.specs.Cmp.{tied_itself}

-- ---- zero or not
pub zero_of_not : (p : WholePolynomial) → ¬ (¬ (p ≡ 0ᴾ)) → p ≡ 0ᴾ
zero_of_not p h = go (finite.is_none terms p) refl
  where
    go : (t : Bool) → finite.is_none terms p ≡ t → p ≡ 0ᴾ
    go true e = none_of_is terms p e
    go false e = absurd (h (λ z. true≢false (sym (ap (finite.is_none terms) z ∙ finite_laws.is_none_none terms) ∙ e)))

-- ---- the coefficient of one more derivative
module _ (us : List Unknown) (i : ℕ) (l : Derivative) (short : IsShort l) where
  at_other : (d : Derivative) (a : WholePolynomial) → IsShort d → (t : Bool) → depends us d.unknown i ≡ t → (s : Bool) → eq_by_cmp derivative_cmp l d ≡ s → (r : Bool) → eq_by_cmp derivative_cmp (raised i l) (raised i d) ≡ r → at_derivative (cond t (form_term (raised i d) a) no_form) (raised i l) ≡ cond (depends us l.unknown i) (cond s a 0ᴾ) 0ᴾ
  at_other d a sh true e true f true g = value-term forms (raised i d) a (raised i l) ∙ ap (λ r. cond r a 0ᴾ) g ∙ sym (ap (λ t. cond t a 0ᴾ) (ap (λ (x : Derivative). depends us x.unknown i) (key forms l d f) ∙ e))
  at_other d a sh true e true f false g = absurd (true≢false (sym (ap (λ x. eq_by_cmp derivative_cmp (raised i l) (raised i x)) (sym (key forms l d f)) ∙ ap is_eq (tied_itself derivative_cmp_total (raised i l))) ∙ g))
  at_other d a sh true e false f true g = absurd (true≢false (sym (ap (λ x. eq_by_cmp derivative_cmp l x) (sym (raised_same i l d short sh (key forms (raised i l) (raised i d) g))) ∙ ap is_eq (tied_itself derivative_cmp_total l)) ∙ f))
  at_other d a sh true e false f false g = value-term forms (raised i d) a (raised i l) ∙ ap (λ r. cond r a 0ᴾ) g ∙ nothing (depends us l.unknown i)
    where
      nothing : (t : Bool) → 0ᴾ ≡ cond t 0ᴾ 0ᴾ
      nothing true = refl
      nothing false = refl
  at_other d a sh false e true f r g = value-none forms (raised i l) ∙ sym (ap (λ t. cond t a 0ᴾ) (ap (λ (x : Derivative). depends us x.unknown i) (key forms l d f) ∙ e))
  at_other d a sh false e false f r g = value-none forms (raised i l) ∙ nothing (depends us l.unknown i)
    where
      nothing : (t : Bool) → 0ᴾ ≡ cond t 0ᴾ 0ᴾ
      nothing true = refl
      nothing false = refl

  at_entry : (d : Derivative) (a : WholePolynomial) → IsShort d → at_derivative (form_term d (partial i a) +ᶠ cond (depends us d.unknown i) (form_term (raised i d) a) no_form) (raised i l) ≡ cond (eq_by_cmp derivative_cmp (raised i l) d) (partial i a) 0ᴾ +ᴾ cond (depends us l.unknown i) (cond (eq_by_cmp derivative_cmp l d) a 0ᴾ) 0ᴾ
  at_entry d a sh = value-plus forms (form_term d (partial i a)) _ (raised i l) ∙ ap₂ ◌+ᴾ◌ (value-term forms d (partial i a) (raised i l)) (at_other d a sh (depends us d.unknown i) refl (eq_by_cmp derivative_cmp l d) refl (eq_by_cmp derivative_cmp (raised i l) (raised i d)) refl)

  pub at_raised : (E : LinearForm) → Every (λ (e : Derivative × WholePolynomial). IsShort e.0) E.list → at_derivative (derivative us i E) (raised i l) ≡ partial i (at_derivative E (raised i l)) +ᴾ cond (depends us l.unknown i) (at_derivative E l) 0ᴾ
  unfolding derivative
  at_raised E h =
      sum_of_entries-map (finite_laws.adder forms) polynomials (λ G. at_derivative G (raised i l)) (value-none forms (raised i l)) (λ x y. value-plus forms x y (raised i l)) _ E.list
      ∙ sum_of_entries-same polynomials _ _ E.list (every-weaken (λ (e : Derivative × WholePolynomial). IsShort e.0) _ (λ e k. at_entry e.0 e.1 k) E.list h)
      ∙ sum_of_entries-plus polynomials (λ d a. cond (eq_by_cmp derivative_cmp (raised i l) d) (partial i a) 0ᴾ) (λ d a. cond (depends us l.unknown i) (cond (eq_by_cmp derivative_cmp l d) a 0ᴾ) 0ᴾ) E.list
      ∙ ap₂ ◌+ᴾ◌
      (ap (λ φ. sum_of_entries polynomials φ E.list) (fun_ext (λ d. fun_ext (λ a. out (eq_by_cmp derivative_cmp (raised i l) d) a)))
      ∙ sym (sum_of_entries-map polynomials polynomials (partial i) (partial-0ᴾ i) (partial-+ᴾ i) (λ d a. cond (eq_by_cmp derivative_cmp (raised i l) d) a 0ᴾ) E.list))
      (whole (depends us l.unknown i))
    where
      out : (t : Bool) (a : WholePolynomial) → cond t (partial i a) 0ᴾ ≡ partial i (cond t a 0ᴾ)
      out true a = refl
      out false a = sym (partial-0ᴾ i)

      whole : (t : Bool) → sum_of_entries polynomials (λ d a. cond t (cond (eq_by_cmp derivative_cmp l d) a 0ᴾ) 0ᴾ) E.list ≡ cond t (at_derivative E l) 0ᴾ
      whole true = refl
      whole false = sum_of_entries-nil polynomials E.list

-- ---- the lead of a derivative
not_after : (x y z : Derivative) → derivative_cmp x y ≡ Less → ¬ (derivative_cmp y z ≡ Greater) → ¬ (derivative_cmp x z ≡ Greater)
not_after x y z h n g = go (derivative_cmp y z) refl
  where
    go : (r : Ordering) → derivative_cmp y z ≡ r → ⊥
    go Less k = less_greater (derivative_cmp_total.trans x y z h k) g
    go Equal k = less_greater (ap (derivative_cmp x) (sym (derivative_same y z k)) ∙ h) g
    go Greater k = n k

-- no derivative of the derivative comes before the raised lead
greatest_entries : (us : List Unknown) (i n : ℕ) (l : Derivative) → IsShort l → (E : LinearForm) → Every (λ (x : Derivative × WholePolynomial). (¬ (derivative_cmp l x.0 ≡ Greater)) × (IsOwned us x.0 × IsIn (λ v. ltb v n) x.1)) E.list → Every (λ (x : Derivative × WholePolynomial). ¬ (derivative_cmp (raised i l) x.0 ≡ Greater)) (derivative us i E).list
unfolding derivative
greatest_entries us i n l short E entries =
    every-weaken (λ (x : Derivative × WholePolynomial). (¬ (derivative_cmp (raised i l) x.0 ≡ Greater)) × IsIn (λ v. ltb v n) x.1) _ (λ x k. k.0) (derivative us i E).list
    (each-over (λ x. ¬ (derivative_cmp (raised i l) x ≡ Greater)) (λ v. ltb v n) (λ (x : Derivative × WholePolynomial). (¬ (derivative_cmp l x.0 ≡ Greater)) × (IsOwned us x.0 × IsIn (λ v. ltb v n) x.1)) _
    (λ d a k. each-plus (λ x. ¬ (derivative_cmp (raised i l) x ≡ Greater)) (λ v. ltb v n) (form_term d (partial i a)) _
    (each-term (λ x. ¬ (derivative_cmp (raised i l) x ≡ Greater)) (λ v. ltb v n) d (partial i a) (not_after (raised i l) l d (raised_before i l) k.0) (in-partial (λ v. ltb v n) i a (k.1).1))
    (other d a k (depends us d.unknown i))) E entries)
  where
    other : (d : Derivative) (a : WholePolynomial) → (¬ (derivative_cmp l d ≡ Greater)) × (IsOwned us d × IsIn (λ v. ltb v n) a) → (t : Bool) → Every (λ (x : Derivative × WholePolynomial). (¬ (derivative_cmp (raised i l) x.0 ≡ Greater)) × IsIn (λ v. ltb v n) x.1) (cond t (form_term (raised i d) a) no_form).list
    other d a k true = each-term (λ x. ¬ (derivative_cmp (raised i l) x ≡ Greater)) (λ v. ltb v n) (raised i d) a (λ g. k.0 (sym (raised_cmp i l d short ((k.1).0).short) ∙ g)) (k.1).1
    other d a k false = each-none (λ x. ¬ (derivative_cmp (raised i l) x ≡ Greater)) (λ v. ltb v n)

module _ (n : ℕ) (us : List Unknown) (r : IsRising us) where
  all_short : (E : LinearForm) → IsFormOf n us E → Every (λ (e : Derivative × WholePolynomial). IsShort e.0) E.list
  all_short E h = every-weaken (λ (e : Derivative × WholePolynomial). IsOwned us e.0 × IsIn (λ v. ltb v n) e.1) _ (λ e k. (k.0).short) E.list h

  pub lead_short : (E : LinearForm) → IsFormOf n us E → (l : Derivative) → IsLead l E → IsShort l
  lead_short E h l a = ((coefficient_has (λ (e : Derivative × WholePolynomial). IsOwned us e.0 × IsIn (λ v. ltb v n) e.1) E h l a.occurs).0).short

  pub raised_lead : (i : ℕ) (E : LinearForm) (l : Derivative) → IsFormOf n us E → IsLead l E → depends us l.unknown i ≡ true → IsLead (raised i l) (derivative us i E) × (at_derivative (derivative us i E) (raised i l) ≡ at_derivative E l)
  raised_lead i E l h a e = (record { occurs = λ z. a.occurs (sym value ∙ z); greatest = λ q o. coefficient_has (λ (x : Derivative × WholePolynomial). ¬ (derivative_cmp (raised i l) x.0 ≡ Greater)) (derivative us i E) greatest q o }, value)
    where
      short : IsShort l
      short = lead_short E h l a

      gone : at_derivative E (raised i l) ≡ 0ᴾ
      gone = zero_of_not _ (λ k. a.greatest (raised i l) k (derivative_cmp_total.antisymm l (raised i l) ∙ ap ordering_reverse (raised_before i l)))

      value : at_derivative (derivative us i E) (raised i l) ≡ at_derivative E l
      value = at_raised us i l short E (all_short E h) ∙ ap₂ ◌+ᴾ◌ (ap (partial i) gone ∙ partial-0ᴾ i) (ap (λ t. cond t (at_derivative E l) 0ᴾ) e) ∙ plus_idl terms _

      entries : Every (λ (x : Derivative × WholePolynomial). (¬ (derivative_cmp l x.0 ≡ Greater)) × (IsOwned us x.0 × IsIn (λ v. ltb v n) x.1)) E.list
      entries = every_both (λ (x : Derivative × WholePolynomial). ¬ (derivative_cmp l x.0 ≡ Greater)) (λ (x : Derivative × WholePolynomial). IsOwned us x.0 × IsIn (λ v. ltb v n) x.1) _ (λ x p q. (p, q)) E.list
          (entries_of forms E (λ (x : Derivative × WholePolynomial). ¬ (derivative_cmp l x.0 ≡ Greater)) (λ x is apart. a.greatest x.0 (λ z. apart (sym is ∙ z)))) h

      greatest : Every (λ (x : Derivative × WholePolynomial). ¬ (derivative_cmp (raised i l) x.0 ≡ Greater)) (derivative us i E).list
      greatest = greatest_entries us i n l short E entries

  pub iterated_lead : (i c : ℕ) (E : LinearForm) (l : Derivative) → IsFormOf n us E → IsLead l E → (¬ (c ≡ 0) → depends us l.unknown i ≡ true) → IsLead (iterate (raised i) c l) (iterate (derivative us i) c E) × (at_derivative (iterate (derivative us i) c E) (iterate (raised i) c l) ≡ at_derivative E l)
  iterated_lead i zero E l h a e = (a, refl)
  iterated_lead i (suc c) E l h a e =
      let d = e (λ z. absurd (omega arith)) in
      let x = raised_lead i E l h a d in
      let y = iterated_lead i c (derivative us i E) (raised i l) (derivative-form n us r i E h) x.0 (λ z. d) in
      (y.0, y.1 ∙ x.1)

  pub lead_from : (i : ℕ) (K : List ℕ) (E : LinearForm) (l : Derivative) → IsFormOf n us E → IsLead l E → ((k : ℕ) → ¬ (get_or K k 0 ≡ 0) → depends us l.unknown (i + k) ≡ true) → IsLead (raised_from i K l) (derivatives_from us i K E) × (at_derivative (derivatives_from us i K E) (raised_from i K l) ≡ at_derivative E l)
  lead_from i [] E l h a e = (a, refl)
  lead_from i (c ∷ K) E l h a e =
      let x = iterated_lead i c E l h a (λ z. ap (depends us l.unknown) (here i) ∙ e 0 z) in
      let y = lead_from (suc i) K (iterate (derivative us i) c E) (iterate (raised i) c l) (iterated-form n us r i c E h) x.0 (λ k z. ap₂ (depends us) (unknown i c l) (moved i k) ∙ e (suc k) z) in
      (y.0, y.1 ∙ x.1)
    where
      here : (i : ℕ) → i ≡ i + 0
      here i = omega arith

      moved : (i k : ℕ) → suc i + k ≡ i + suc k
      moved i k = omega arith

      unknown : (i c : ℕ) (l : Derivative) → (iterate (raised i) c l).unknown ≡ l.unknown
      unknown i zero l = refl
      unknown i (suc c) l = unknown i c (raised i l)
