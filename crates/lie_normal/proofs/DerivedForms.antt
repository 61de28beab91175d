-- The derivative of a form as the sum over its terms, and what is past a limit in it.
use Rattle.std.specs.Prelude.{◌≡◌, ℕ, ◌<◌, ◌≤◌, List, [], ◌∷◌, unsigned_abs}
use Rattle.std.specs.List.{Any, AllByRecursion as Every}
use Rattle.std.proofs.Common.{refl, sym, ap, subst, ◌∙◌, arith}
use Rattle.std.proofs.lemmas.List.Elements.{All-from_recursion}
use Rattle.lie_math.specs.Counts.{Derivative, order, raised}
use Rattle.lie_math.specs.FiniteSumLaws.{ext, value-none}
use Rattle.lie_math.specs.Limits.{absolute}
use Rattle.lie_math.specs.LinearForm.{forms, LinearForm, form_over, form_term}
use Rattle.lie_math.specs.LinearSystem.{Unknown}
use Rattle.lie_math.specs.Polynomial.{WholePolynomial, terms, coefficient, 0ᴾ}
use Rattle.lie_math.proofs.Counts.{order_raise}
use Rattle.lie_math.proofs.FiniteSum.{entries_of}
use Rattle.lie_math.proofs.Integer.{unsigned_abs_zero}
use Rattle.lie_systems.specs.Bulk.{HasHighOrder}
use Rattle.lie_systems.specs.Triples.{Triple}
use Rattle.lie_jet.specs.declared.derivative.Der.{Der}
use Rattle.lie_jet.proofs.PolynomialBounds.{IsBound, trans_bound, absolute_bound}
use Rattle.lie_form.specs.DerivativeTerms.{derivative_terms}
use Rattle.lie_form.proofs.FormBounds.{at, IsFormBound, IsPlain, form_trans, form_plain, form_first, form_second, over_entries, entries_bound}
use Rattle.lie_form.proofs.FormCauses.{triple_of}
use Rattle.lie_form.proofs.FormParts.{kept_absolutes}
use Rattle.lie_form.proofs.FormSteps.{at_term}
use Rattle.lie_steps.specs.Bulks.{absolute_form, derivative_bulk}
use Rattle.lie_steps.specs.Derivatives.{derivative}
use Rattle.lie_normal.specs.Orders.{Entry, RisesHigh, StaysLow}
use Rattle.lie_normal.specs.TermSums.{derivative_term}
use Rattle.lie_normal.proofs.Bounds.{bulk_is}
use Rattle.lie_normal.proofs.DerivativeSteps.{term_bound, raised_bound, partial_one, raised_is}

-- a derivative that occurs is that of a triple
high_at : (E : LinearForm) (d : Derivative) → 64 < order d.counts → ¬ (at E d ≡ 0ᴾ) → HasHighOrder E
high_at E d h n = triple_of E d (λ (t : Triple). 64 < order t.0.counts) n (λ m a. h)

pub derivative_is : (us : List Unknown) (i : ℕ) (E : LinearForm) → derivative us i E ≡ form_over (derivative_term us i) E
unfolding derivative
derivative_is us i E = refl

-- ---- some element
pub any_every : {X : Type 0} (P : X → Type 0) (Q : Type 0) (xs : List X) → Any P xs → Every (λ x. P x → Q) xs → Q
any_every P Q xs a all = subst (λ x. P x → Q) a.3 (All-from_recursion (λ x. P x → Q) xs all a.0 a.1 a.2) a.4

-- ---- the terms of a sum are bounded by it
each_bound : (φ : Derivative → WholePolynomial → LinearForm) → ((d : Derivative) (a : WholePolynomial) → IsPlain (φ d a)) → (es : List Entry) (B : LinearForm) → IsFormBound (over_entries φ es) B → Every (λ (e : Entry). IsFormBound (φ e.0 e.1) B) es
each_bound φ plain [] B h = tt
each_bound φ plain (e ∷ es) B h = (form_trans _ _ _ (form_first (φ e.0 e.1) (over_entries φ es) (plain e.0 e.1) rest) h, each_bound φ plain es B (form_trans _ _ _ (form_second (φ e.0 e.1) (over_entries φ es) (plain e.0 e.1) rest) h))
  where
    rest : IsPlain (over_entries φ es)
    rest = entries_bound φ φ plain es

pub none_bounded : (a : WholePolynomial) → IsBound a 0ᴾ → a ≡ 0ᴾ
none_bounded a h = ext terms a 0ᴾ (λ m. unsigned_abs_zero (coefficient a m) (by m (h.covered.at_most m)) ∙ sym (value-none terms m))
  where
    by : (m : _) → unsigned_abs (coefficient a m) ≤ unsigned_abs (coefficient 0ᴾ m) → unsigned_abs (coefficient a m) ≡ 0
    by m le = let z : unsigned_abs (coefficient 0ᴾ m) ≡ 0 = ap unsigned_abs (value-none terms m) in omega arith

module _ (us : List Unknown) (i : ℕ) (E : LinearForm) where
  abbrev pub with_sizes : Derivative → WholePolynomial → LinearForm
  with_sizes d a = derivative_term us i d (absolute a)

  pub bulk_sum : derivative_bulk us i E ≡ over_entries with_sizes E.list
  bulk_sum = derivative_is us i (absolute_form E) ∙ bulk_is (derivative_term us i) (term_bound us i) E

  rises_at : (d : Derivative) (a : WholePolynomial) → ¬ (a ≡ 0ᴾ) → IsFormBound (with_sizes d a) (derivative_bulk us i E) → RisesHigh us i (d, a) → HasHighOrder (derivative_bulk us i E)
  rises_at d a apart h r =
      high_at (derivative_bulk us i E) (raised i d) (let o = order_raise i d.counts in let q : 64 ≤ order d.counts = r.0 in omega arith)
      (λ z. apart (none_bounded a (subst (IsBound a) z (trans_bound a (absolute a) (at (derivative_bulk us i E) (raised i d)) (absolute_bound a) (subst (λ p. IsBound p (at (derivative_bulk us i E) (raised i d))) (at_term (raised i d) (absolute a)) (inside.each (raised i d)))))))
    where
      inside : IsFormBound (form_term (raised i d) (absolute a)) (derivative_bulk us i E)
      inside = subst (λ K. IsFormBound K (derivative_bulk us i E)) (raised_is us i d a r.1 (absolute a)) (form_trans _ _ _ (form_second _ _ (form_plain _ _ (partial_one us i d a)) (form_plain _ _ (raised_bound us i d a))) h)

  rises_all : (es : List Entry) → Every (λ (e : Entry). ¬ (e.1 ≡ 0ᴾ)) es → Every (λ (e : Entry). IsFormBound (with_sizes e.0 e.1) (derivative_bulk us i E)) es → Every (λ (e : Entry). RisesHigh us i e → HasHighOrder (derivative_bulk us i E)) es
  rises_all [] h k = tt
  rises_all (e ∷ es) h k = (rises_at e.0 e.1 h.0 k.0, rises_all es h.1 k.1)

  pub rises_cause : (ts : List Entry) → ts ≡ E.list → Any (RisesHigh us i) ts → HasHighOrder (derivative_bulk us i E)
  rises_cause ts e a =
      any_every (RisesHigh us i) (HasHighOrder (derivative_bulk us i E)) E.list (subst (Any (RisesHigh us i)) e a)
      (rises_all E.list (entries_of forms E (λ e. ¬ (e.1 ≡ 0ᴾ)) (λ e is apart. apart))
      (each_bound with_sizes (λ d a. form_plain _ _ (term_bound us i d a)) E.list (derivative_bulk us i E) (subst (λ K. IsFormBound K (derivative_bulk us i E)) bulk_sum (plain bulk_sum))))
    where
      plain : derivative_bulk us i E ≡ over_entries with_sizes E.list → IsPlain (derivative_bulk us i E)
      plain q = subst IsPlain (sym q) (entries_bound with_sizes with_sizes (λ d a. form_plain _ _ (term_bound us i d a)) E.list)

pub stays_sizes : (us : List Unknown) (i : ℕ) (ts : List (Der × WholePolynomial)) → Every (StaysLow us i) (derivative_terms ts) → Every (StaysLow us i) (derivative_terms (kept_absolutes ts))
stays_sizes us i [] h = tt
stays_sizes us i (t ∷ ts) h = (h.0, stays_sizes us i ts h.1)
