-- Derivatives by several variables, step by step.
use Rattle.std.specs.Prelude.{◌≡◌, ℕ, zero, suc, ◌+◌, ◌-◌, ◌<◌, List, [], ◌∷◌, ◌++◌, length, drop, replicate}
use Rattle.std.proofs.Common.{refl, sym, ap, ap₂, subst, ◌∙◌, arith, append_assoc}
use Rattle.std.specs.List.{AllByRecursion as Every, Any}
use Rattle.lie_math.specs.FiniteSumLaws.{sum_of_terms}
use Rattle.lie_math.specs.LinearForm.{forms, LinearForm, ◌+ᶠ◌, form_term, each_coefficient}
use Rattle.lie_math.specs.LinearSystem.{Unknown}
use Rattle.lie_math.specs.Limits.{absolute}
use Rattle.lie_math.specs.Polynomial.{0ᴾ}
use Rattle.lie_math.proofs.FiniteSum.{entries_of}
use Rattle.lie_ring.specs.declared.failures.PastKind.TheVariants.{Order}
use Rattle.lie_ring.specs.declared.failures.PolyFail.{PolyFail}
use Rattle.lie_ring.specs.declared.failures.PolyFail.TheVariants.{Past}
use Rattle.lie_jet.proofs.PolynomialBounds.{absolute_bound}
use Rattle.lie_form.specs.FormLimits.{IsFormCoefficientCause}
use Rattle.lie_form.proofs.FormBounds.{IsFormBound, IsPlain, cause_bound, form_plain, form_one, form_trans, over_entries, entries_bound, form_absolute_bound}
use Rattle.lie_geometry.proofs.AbsoluteForms.{entry_absolutes, list_absolutes}
use Rattle.lie_form.proofs.FormSteps.{over_absolutes}
use Rattle.lie_steps.specs.Derivatives.{derivative}
use Rattle.lie_replace.specs.Growing.{FormLasts, IsGrownCause}
use Rattle.lie_normal.specs.Orders.{Entry, RisesHigh}
use Rattle.lie_replace.specs.Replacing.{variables_from, derivatives_by, form_of}
use Rattle.lie_normal.specs.TermSums.{derivative_term}
use Rattle.lie_replace.proofs.DerivativesBy.{derivative-plus, derivative-none, derivative-term}
use Rattle.lie_replace.proofs.DerivativeBounds.{derivative_plain, derivative_bounded}
use Rattle.lie_replace.proofs.LastingForms.{form_lasts_derivative}
use Rattle.lie_replace.proofs.CarriedCauses.{carried_coefficient, carried_high, rises_cause}

-- ---- variables
pub one_less : (xs : List ℕ) (n v : ℕ) → 0 < n → (xs ++ v ∷ []) ++ replicate (n - 1) v ≡ xs ++ replicate n v
one_less xs zero v h = absurd (omega arith)
one_less xs (suc n) v h = let e : suc n - 1 ≡ n = omega arith in rw e (append_assoc xs (v ∷ []) (replicate n v))

pub variables-push : (v : ℕ) (K : List ℕ) (c : ℕ) → variables_from v (K ++ c ∷ []) ≡ variables_from v K ++ replicate c (v + length K)
variables-push v [] c = let e : v + length {A = ℕ} [] ≡ v = plain v in rw e (nothing (replicate c v))
  where
    plain : (v : ℕ) → v + length {A = ℕ} [] ≡ v
    plain v = omega arith

    nothing : (xs : List ℕ) → xs ++ [] ≡ xs
    nothing [] = refl
    nothing (x ∷ xs) = ap (λ ys. x ∷ ys) (nothing xs)
variables-push v (d ∷ K) c =
    ap (λ xs. replicate d v ++ xs) (variables-push (suc v) K c ∙ ap (λ n. variables_from (suc v) K ++ replicate c n) (shift v (length K)))
    ∙ sym (append_assoc (replicate d v) (variables_from (suc v) K) (replicate c (v + suc (length K))))
  where
    shift : (v n : ℕ) → suc v + n ≡ v + suc n
    shift v n = omega arith

pub every_replicate : (c v n : ℕ) → v < n → Every (λ w. w < n) (replicate c v)
every_replicate zero v n h = tt
every_replicate (suc c) v n h = (h, every_replicate c v n h)

-- ---- sums over entries
module _ (us : List Unknown) (v : ℕ) where
  pub sum_entries : (es : List Entry) → over_entries (derivative_term us v) es ≡ derivative us v (form_of es)
  sum_entries [] = sym (derivative-none us v)
  sum_entries (e ∷ es) = ap₂ ◌+ᶠ◌ (sym (derivative-term us v e.0 e.1)) (sum_entries es) ∙ sym (derivative-plus us v (form_term e.0 e.1) (form_of es))

  pub sum_sizes : (es : List Entry) → over_entries (λ d a. derivative_term us v d (absolute a)) es ≡ derivative us v (form_of (entry_absolutes es))
  sum_sizes es = sym (over_absolutes (derivative_term us v) es) ∙ sum_entries (entry_absolutes es)

pub form_of_list : (F : LinearForm) → form_of F.list ≡ F
form_of_list F = sum_of_terms forms F

pub form_of_sizes : (F : LinearForm) → form_of (entry_absolutes F.list) ≡ each_coefficient absolute F
form_of_sizes F = ap form_of (sym (list_absolutes F)) ∙ form_of_list (each_coefficient absolute F)

pub apart_entries : (F : LinearForm) → Every (λ (e : Entry). ¬ (e.1 ≡ 0ᴾ)) F.list
apart_entries F = entries_of forms F (λ (e : Entry). ¬ (e.1 ≡ 0ᴾ)) (λ e is n. n)

pub entries_bounded : (es : List Entry) → IsFormBound (form_of es) (form_of (entry_absolutes es))
entries_bounded es = subst (IsFormBound (form_of es)) (sym (over_absolutes form_term es)) (entries_bound form_term (λ d a. form_term d (absolute a)) (λ d a. form_one d a (absolute a) (absolute_bound a)) es)

-- ---- one step
module _ (us : List Unknown) (vars : List ℕ) (k v : ℕ) (next : drop k vars ≡ v ∷ drop (k + 1) vars) (es : List Entry) where
  pub next_derivatives : (F T : LinearForm) → F ≡ over_entries (derivative_term us v) es → (fs : List Entry) → fs ≡ F.list → derivatives_by us (drop k vars) (form_of es) ≡ T → derivatives_by us (drop (k + 1) vars) (form_of fs) ≡ T
  next_derivatives F T is fs all h = ap (derivatives_by us (drop (k + 1) vars)) (ap form_of all ∙ form_of_list F ∙ is ∙ sum_entries us v es) ∙ ap (λ vs. derivatives_by us vs (form_of es)) (sym next) ∙ h

  module _ (B T : LinearForm) (bounded : IsFormBound (form_of (entry_absolutes es)) B) (lasts : FormLasts us (drop k vars) B) (made : derivatives_by us (drop k vars) B ≡ T) where
    first_lasts : FormLasts us (v ∷ drop (k + 1) vars) B
    first_lasts = subst (λ vs. FormLasts us vs B) next lasts

    pub next_made : derivatives_by us (drop (k + 1) vars) (derivative us v B) ≡ T
    next_made = ap (λ vs. derivatives_by us vs B) (sym next) ∙ made

    plain : IsPlain B
    plain = form_plain (form_of (entry_absolutes es)) B bounded

    pub next_lasts : FormLasts us (drop (k + 1) vars) (derivative us v B)
    next_lasts = form_lasts_derivative us v (drop (k + 1) vars) B first_lasts

    pub next_bounded : (F : LinearForm) → F ≡ over_entries (derivative_term us v) es → (fs : List Entry) → fs ≡ F.list → IsFormBound (form_of (entry_absolutes fs)) (derivative us v B)
    next_bounded F is fs all =
        subst (λ G. IsFormBound G (derivative us v B)) (sym (ap (λ gs. form_of (entry_absolutes gs)) all ∙ form_of_sizes F))
        (form_absolute_bound F (derivative us v B) (subst (λ G. IsFormBound G (derivative us v B)) (sym (is ∙ sum_entries us v es)) (derivative_bounded us v (form_of es) B (form_trans (form_of es) (form_of (entry_absolutes es)) B (entries_bounded es) bounded))))

    -- what is told of an error
    pub rises_told : Every (λ (e : Entry). ¬ (e.1 ≡ 0ᴾ)) es → Any (RisesHigh us v) es → IsGrownCause (Past Order) T
    rises_told n a = subst (IsGrownCause (Past Order)) next_made (carried_high us (drop (k + 1) vars) (derivative us v B) (derivative_plain us v B plain) next_lasts (rises_cause us v (drop (k + 1) vars) B plain first_lasts es n bounded a))

    pub sum_told : (fail : PolyFail) → IsFormCoefficientCause fail (over_entries (λ d a. derivative_term us v d (absolute a)) es) → IsGrownCause fail T
    sum_told fail c =
        subst (IsGrownCause fail) next_made
        (carried_coefficient us fail (drop (k + 1) vars) (derivative us v B) (derivative_plain us v B plain) next_lasts
        (cause_bound fail (derivative us v (form_of (entry_absolutes es))) (derivative us v B) (derivative_bounded us v (form_of (entry_absolutes es)) B bounded) (subst (IsFormCoefficientCause fail) (sum_sizes us v es) c)))
