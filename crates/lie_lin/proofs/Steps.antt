-- The steps of a sum of triples, one derivative after the other.
use Rattle.std.specs.Prelude.{◌≡◌, ℕ, ◌+◌, ◌<◌, ◌≤◌, T, List, [], ◌∷◌, ◌++◌, length, get_or, take}
use Rattle.std.proofs.Common.{sym, ap, ap₂, subst, ◌∙◌, add-one, append-nil, length-append}
use Rattle.std.proofs.Math.Seq.{take-suc}
use Rattle.std.specs.List.{AllByRecursion as Every}
use Rattle.lie_math.specs.SortedSum.{is_canonical}
use Rattle.lie_math.specs.FiniteSum as finite
use Rattle.lie_math.specs.Polynomial.{WholePolynomial, polynomial_of}
use Rattle.lie_math.specs.Counts.{Derivative, derivative_cmp}
use Rattle.lie_math.specs.LinearForm.{forms, LinearForm}
use Rattle.lie_math.specs.Limits.{absolutes}
use Rattle.lie_systems.specs.Triples.{Triple, triples_in, triples_with, sum_of_triples}
use Rattle.lie_systems.specs.Bulk.{absolute_triples, bulk, HasManyTriples, IsFormWithinLimits}
use Rattle.lie_math.proofs.EveryElement.{every-append}
use Rattle.lie_ring.proofs.Fronts.{all_taken}
use Rattle.lie_jet.specs.declared.derivative.Der.{Der}
use Rattle.lie_lin.specs.Forms.{derivatives_of, terms_at, coefficient_at, gathered, unless_zero, kept, AreDerivatives}
use Rattle.lie_jet.specs.Derivatives.{derivative_of}
use Rattle.lie_lin.proofs.Placing.{derivatives_of-append}
use Rattle.lie_lin.proofs.Gathering.{gathered-append, kept-push, terms_at-absolute, canonical_kept, sum_is_kept}
use Rattle.lie_lin.proofs.FormLimits.{IsPartWithin, within_of_parts, many_of_parts}
use Rattle.lie_form.proofs.FormParts.{triples_in-append}
use Rattle.lie_form.proofs.FormCauses.{length-with}

one_more : (ders : List Der) (i : ℕ) (d : Der) → i < length ders → derivatives_of (take (i + 1) ders) ≡ derivatives_of (take i ders) ++ derivative_of (get_or ders i d) ∷ []
one_more ders i d lt = ap (λ n. derivatives_of (take n ders)) (add-one i) ∙ ap derivatives_of (take-suc ders i d lt) ∙ derivatives_of-append (take i ders) (get_or ders i d ∷ [])

pub sum_step : (new old : List (Derivative × WholePolynomial)) (ders : List Der) (ts : List Triple) (i : ℕ) (d : Der) (p : WholePolynomial) → i < length ders → new ≡ old ++ unless_zero (derivative_of (get_or ders i d)) p [] → old ≡ kept (gathered (derivatives_of (take i ders)) ts) → p ≡ polynomial_of (terms_at (derivative_of (get_or ders i d)) ts)
    → new ≡ kept (gathered (derivatives_of (take (i + 1) ders)) ts)
sum_step new old ders ts i d p lt h k e =
    h ∙ ap₂ (λ es q. es ++ unless_zero (derivative_of (get_or ders i d)) q []) k e
    ∙ sym (ap (λ ds. kept (gathered ds ts)) (one_more ders i d lt) ∙ ap kept (gathered-append (derivatives_of (take i ders)) (derivative_of (get_or ders i d) ∷ []) ts)
    ∙ kept-push (gathered (derivatives_of (take i ders)) ts) (derivative_of (get_or ders i d), coefficient_at (derivative_of (get_or ders i d)) ts))

pub count_step : (n k : ℕ) (ders : List Der) (ts : List Triple) (i : ℕ) (d : Der) → i < length ders → n ≡ length (triples_in (gathered (derivatives_of (take i ders)) (absolute_triples ts))) → k ≡ length (polynomial_of (absolutes (terms_at (derivative_of (get_or ders i d)) ts))).list
    → n + k ≡ length (triples_in (gathered (derivatives_of (take (i + 1) ders)) (absolute_triples ts)))
count_step n k ders ts i d lt h e =
    ap₂ ◌+◌ h (e ∙ ap (λ es. length (polynomial_of es).list) (sym (terms_at-absolute x ts)) ∙ sym (length-with x (coefficient_at x us).list) ∙ ap length (sym (append-nil (triples_with x (coefficient_at x us).list))))
    ∙ sym (length-append (triples_in (gathered (derivatives_of (take i ders)) us)) (triples_in (gathered (x ∷ []) us)))
    ∙ ap length (sym (ap (λ ds. triples_in (gathered ds us)) (one_more ders i d lt) ∙ ap triples_in (gathered-append (derivatives_of (take i ders)) (x ∷ []) us) ∙ triples_in-append (gathered (derivatives_of (take i ders)) us) (gathered (x ∷ []) us)))
  where
    x : Derivative
    x = derivative_of (get_or ders i d)

    us : List Triple
    us = absolute_triples ts

abbrev pub AreWithin : List Derivative → List Triple → Type 0
AreWithin ds ts = Every (IsPartWithin ts) ds

pub within_step : (ders : List Der) (ts : List Triple) (i : ℕ) (d : Der) → i < length ders → AreWithin (derivatives_of (take i ders)) ts → IsPartWithin ts (derivative_of (get_or ders i d)) → AreWithin (derivatives_of (take (i + 1) ders)) ts
within_step ders ts i d lt h k = subst (λ ds. AreWithin ds ts) (sym (one_more ders i d lt)) (every-append (IsPartWithin ts) (derivatives_of (take i ders)) (derivative_of (get_or ders i d) ∷ []) h (k, tt))

pub many_at : (ders : List Der) (ts : List Triple) → AreDerivatives (derivatives_of ders) ts → (i n : ℕ) → length ders ≤ i → n ≡ length (triples_in (gathered (derivatives_of (take i ders)) (absolute_triples ts))) → 1000000 < n → HasManyTriples (bulk ts)
many_at ders ts all i n le e h = many_of_parts ders ts all (subst (λ k. 1000000 < k) (e ∙ ap (λ ds. length (triples_in (gathered (derivatives_of ds) (absolute_triples ts)))) (all_taken ders i le)) h)

pub within_at : (ders : List Der) (ts : List Triple) → AreDerivatives (derivatives_of ders) ts → (i n : ℕ) → length ders ≤ i → n ≡ length (triples_in (gathered (derivatives_of (take i ders)) (absolute_triples ts))) → n ≤ 1000000 → AreWithin (derivatives_of (take i ders)) ts → IsFormWithinLimits (bulk ts)
within_at ders ts all i n le e h w =
    within_of_parts ders ts all (subst (λ ds. AreWithin (derivatives_of ds) ts) (all_taken ders i le) w)
    (subst (λ k. k ≤ 1000000) (e ∙ ap (λ ds. length (triples_in (gathered (derivatives_of ds) (absolute_triples ts)))) (all_taken ders i le)) h)

pub all_of_slice : (s ders : List Der) (ts : List Triple) → s ≡ ders → AreDerivatives (derivatives_of ders) ts → AreDerivatives (derivatives_of s) ts
all_of_slice s ders ts e h = subst (λ ds. AreDerivatives (derivatives_of ds) ts) (sym e) h

pub coefficients_kept : (es : List (Derivative × WholePolynomial)) (ds : List Derivative) (ts : List Triple) → AreDerivatives ds ts → es ≡ kept (gathered ds ts) → T (is_canonical derivative_cmp forms.values es)
coefficients_kept es ds ts all e = subst (λ xs. T (is_canonical derivative_cmp forms.values xs)) (sym e) (canonical_kept ds ts all.ordered)

pub sum_of_kept : (E : LinearForm) (es : List (Derivative × WholePolynomial)) (ds : List Derivative) (ts : List Triple) → AreDerivatives ds ts → E ≡ finite.of forms es → es ≡ kept (gathered ds ts) → E ≡ sum_of_triples ts
sum_of_kept E es ds ts all i e = i ∙ ap (finite.of forms) e ∙ sum_is_kept ds ts all.ordered all.all
