-- The reduction of a term, and the sum of the reductions.
use Rattle.std.specs.Prelude.{◌≡◌, ℕ, zero, suc, ◌+◌, ◌<◌, T, not, List, [], ◌∷◌, ◌++◌, length, take, get_or, ℤ, pos, ◌*ℤ◌, unsigned_abs, max}
use Rattle.std.proofs.Common.{refl, sym, ap, ap₂, subst, subst₂, ◌∙◌, arith}
use Rattle.std.proofs.lemmas.Int.{unsigned_abs-mul}
use Rattle.std.specs.List.{Any, AllByRecursion as Every}
use Rattle.lie_math.specs.Canonical.{sum_of_entries-append}
use Rattle.lie_math.specs.FiniteSum.{IsCanonical}
use Rattle.lie_math.specs.FiniteSumLaws.{of_list, list-of, plus_idl, plus_comm}
use Rattle.lie_math.specs.Limits.{absolute, absolutes}
use Rattle.lie_math.specs.Monomial.{Monomial, powers, unit}
use Rattle.lie_math.specs.Natural.{exponents}
use Rattle.lie_math.specs.Polynomial.{WholePolynomial, terms, polynomials, polynomial_of, constant, 0ᴾ, ◌+ᴾ◌, ◌*ᴾ◌}
use Rattle.lie_math.specs.PolynomialRing.{0ᴾ-*ᴾ, constant-times}
use Rattle.lie_math.specs.SortedSum.{sum_of_entries}
use Rattle.lie_math.proofs.CanonicalLists.{canonical_value, canonical_tail, of-append}
use Rattle.lie_math.proofs.Limits.{IsCovered, IsNonNegative, covered_first, covered_second, covered_trans, nonneg_none, absolutes-append, canonical_absolutes, term_apart}
use Rattle.lie_math.proofs.ZeroDivisors.{no_zero_divisors}
use Rattle.lie_geometry.specs.Coordinates.{Space}
use Rattle.lie_geometry.specs.SolvedEquations.{SolvedEquation, replacement, missing_powers, reduced_by, reduced}
use Rattle.lie_math.specs.Powers.{degree_in}
use mathlib.Core.Path.{fun_ext}
use Rattle.lie_ring.specs.Causes.{IsCause, IsPast}
use Rattle.lie_ring.specs.Entries.{entries}
use Rattle.lie_ring.specs.declared.failures.PolyFail.{PolyFail}
use Rattle.lie_poly.proofs.SumSteps.{cause_covered}
use Rattle.lie_ring.specs.declared.failures.PolyFail.TheVariants.{Past, NoMemory}
use Rattle.lie_poly.proofs.TermLists.{entries-append}
use Rattle.lie_poly.proofs.TimesSteps.{entry_not_zero}
use Rattle.lie_jet.specs.Listed.{sum_listed, bulk_listed}
use Rattle.lie_jet.proofs.BoundedPolynomials.{absolute-nonneg}
use Rattle.lie_jet.proofs.TotalBounds.{term_bound}
use Rattle.lie_solved.specs.declared.solved.LeadRule.{LeadRule}
use Rattle.lie_solved.specs.SolvedForms.{solved_equations}
use Rattle.lie_math.proofs.EveryElement.{every-weaken}
use Rattle.lie_reduce.specs.Bulks.{absolute_equations, reduction_bulk_by, reduction_bulk}
use Rattle.lie_reduce.specs.Reductions.{greatest_exponent, IsReductionCause}
use Rattle.lie_reduce.specs.ReducedTerms.{power, replaced, reduced_term, IsKept}
use Rattle.lie_reduce.proofs.Factors.{proper_product, apart_product, bounded_products}
use Rattle.lie_reduce.proofs.Products.{IsProper, times-none, bounded_times, cause_times}
use Rattle.lie_reduce.proofs.Replacing.{replaced_power, replaced_bulk, replaced_is, replaced_bulk_is, replaced_bounded, kept_proper, missing_power, missing_is, missing_absolute, absolute_constant, power_apart}
use Rattle.lie_ring.proofs.Fronts.{take_more}
use Rattle.lie_jet.proofs.PolynomialBounds.{IsBound, absolute_bound, covered_absolute, none_bound, sum_bound}

-- ---- terms put behind others
pub pushed_sum : (ms ts : List (Monomial × ℤ)) (p : WholePolynomial) (new : List (Monomial × ℤ)) → new ≡ ms ++ ts → entries (λ z. z) ts ≡ p.list → sum_listed new ≡ sum_listed ms +ᴾ p
pushed_sum ms ts p new e h =
    ap sum_listed e ∙ ap polynomial_of (entries-append (λ z. z) ms ts) ∙ of-append terms (entries (λ z. z) ms) (entries (λ z. z) ts) ∙ ap (λ q. sum_listed ms +ᴾ q) (ap polynomial_of h ∙ of_list terms p)

pub pushed_bulk : (ms ts : List (Monomial × ℤ)) (p : WholePolynomial) (new : List (Monomial × ℤ)) → new ≡ ms ++ ts → entries (λ z. z) ts ≡ p.list → bulk_listed new ≡ bulk_listed ms +ᴾ absolute p
unfolding absolute
pushed_bulk ms ts p new e h =
    ap bulk_listed e ∙ ap (λ es. polynomial_of (absolutes es)) (entries-append (λ z. z) ms ts) ∙ ap polynomial_of (absolutes-append (entries (λ z. z) ms) (entries (λ z. z) ts))
    ∙ of-append terms (absolutes (entries (λ z. z) ms)) (absolutes (entries (λ z. z) ts)) ∙ ap (λ es. bulk_listed ms +ᴾ polynomial_of (absolutes es)) h

plus_none : (p q : WholePolynomial) → q ≡ 0ᴾ → p ≡ p +ᴾ q
plus_none p q e = sym (ap (λ x. p +ᴾ x) e ∙ plus_comm terms p 0ᴾ ∙ plus_idl terms p)

-- ---- a term with a variable that is replaced by 0
not_none : (n : ℕ) → T (not (exponents.is_nil n)) → (k : ℕ) × (n ≡ suc k)
not_none zero h = absurd h
not_none (suc k) h = (k, refl)

removed_product : (rs : List SolvedEquation) (ps : List (ℕ × ℕ)) → IsCanonical powers ps → (k : ℕ) (x : ℕ × ℕ) → k < length ps → get_or ps k x ≡ x → replacement rs x.0 ≡ 0ᴾ → replaced rs ps ≡ 0ᴾ
removed_product rs [] c k x lt is z = absurd (omega arith)
removed_product rs (p ∷ ps) c zero x lt is z =
    let n = not_none p.1 (canonical_value powers p ps c) in
    ap (λ q. q *ᴾ replaced rs ps) (ap (power (replacement rs p.0)) n.1 ∙ ap (λ q. q *ᴾ power (replacement rs p.0) n.0) (ap (λ (y : ℕ × ℕ). replacement rs y.0) is ∙ z) ∙ 0ᴾ-*ᴾ (power (replacement rs p.0) n.0)) ∙ 0ᴾ-*ᴾ (replaced rs ps)
removed_product rs (p ∷ ps) c (suc k) x lt is z = ap (λ q. power (replacement rs p.0) p.1 *ᴾ q) (removed_product rs ps (canonical_tail powers p ps c) k x (omega arith) is z) ∙ times-none (power (replacement rs p.0) p.1)

module _ (rs : List SolvedEquation) (e : ℕ → ℕ) (m : Monomial) (a : ℤ) where
  pub removed_term : (ps : List (ℕ × ℕ)) → ps ≡ m.list → Any (λ p. replacement rs p.0 ≡ 0ᴾ) ps → reduced_term rs e m a ≡ 0ᴾ
  removed_term ps l h =
      let f : Any (λ p. replacement rs p.0 ≡ 0ᴾ) m.list = subst (Any (λ p. replacement rs p.0 ≡ 0ᴾ)) l h in
      ap (λ q. constant (a *ℤ missing_powers rs e m) *ᴾ q) (removed_product rs m.list m.canonical f.0 f.1 f.2 f.3 f.4) ∙ times-none (constant (a *ℤ missing_powers rs e m))

  pub removed_sum : (p : WholePolynomial) (ps : List (ℕ × ℕ)) → ps ≡ m.list → Any (λ p. replacement rs p.0 ≡ 0ᴾ) ps → p ≡ p +ᴾ reduced_term rs e m a
  removed_sum p ps l h = plus_none p (reduced_term rs e m a) (removed_term ps l h)

  pub removed_bulk : (p : WholePolynomial) (ps : List (ℕ × ℕ)) → ps ≡ m.list → Any (λ p. replacement rs p.0 ≡ 0ᴾ) ps → p ≡ p +ᴾ absolute (reduced_term rs e m a)
  removed_bulk p ps l h = plus_none p (absolute (reduced_term rs e m a)) (ap absolute (removed_term ps l h) ∙ absolute-nonneg 0ᴾ nonneg_none)

  -- ---- the others
  pub made_term : (number multiple made : WholePolynomial) (ps : List (ℕ × ℕ)) → ps ≡ m.list → number ≡ constant a → multiple ≡ number *ᴾ constant (missing_powers rs e m) → made ≡ multiple *ᴾ replaced rs ps → made ≡ reduced_term rs e m a
  made_term number multiple made ps l n h g = g ∙ ap₂ (λ x qs. x *ᴾ replaced rs qs) (h ∙ ap (λ x. x *ᴾ constant (missing_powers rs e m)) n ∙ sym (constant-times a (missing_powers rs e m))) l

  abbrev bulk : WholePolynomial
  bulk = reduced_term (absolute_equations rs) e m (pos (unsigned_abs a))

  bulk_is : (ps : List (ℕ × ℕ)) → ps ≡ m.list → constant (pos (unsigned_abs a) *ℤ missing_powers (absolute_equations rs) e m) *ᴾ replaced (absolute_equations rs) ps ≡ bulk
  bulk_is ps l = ap (λ qs. constant (pos (unsigned_abs a) *ℤ missing_powers (absolute_equations rs) e m) *ᴾ replaced (absolute_equations rs) qs) l

  pub multiple_cause : (fail : PolyFail) (number : WholePolynomial) (ps : List (ℕ × ℕ)) → ps ≡ m.list → Every (IsKept rs) ps → number ≡ constant a → IsCause fail (absolute number *ᴾ constant (missing_powers (absolute_equations rs) e m)) → IsCause fail bulk
  multiple_cause fail number ps l h n c =
      let A : WholePolynomial = constant (pos (unsigned_abs a) *ℤ missing_powers (absolute_equations rs) e m) in
      let same : absolute number *ᴾ constant (missing_powers (absolute_equations rs) e m) ≡ A = ap (λ x. absolute x *ᴾ constant (missing_powers (absolute_equations rs) e m)) n ∙ ap (λ x. x *ᴾ constant (missing_powers (absolute_equations rs) e m)) (absolute_constant a) ∙ sym (constant-times (pos (unsigned_abs a)) (missing_powers (absolute_equations rs) e m)) in
      subst (IsCause fail) (bulk_is ps l)
      (cause_times fail A (replaced (absolute_equations rs) ps) (plain_number (missing_absolute rs e m)) (subst IsProper (replaced_bulk_is rs ps) (proper_product (replaced_bulk rs) ps (kept_proper rs ps h))) (subst (IsCause fail) same c))
    where
      plain_number : missing_powers (absolute_equations rs) e m ≡ pos (unsigned_abs (missing_powers rs e m)) → IsNonNegative (constant (pos (unsigned_abs a) *ℤ missing_powers (absolute_equations rs) e m))
      plain_number f = subst IsNonNegative (absolute_constant (a *ℤ missing_powers rs e m) ∙ ap constant (ap pos (unsigned_abs-mul a (missing_powers rs e m)) ∙ ap (λ z. pos (unsigned_abs a) *ℤ z) (sym f))) ((absolute_bound (constant (a *ℤ missing_powers rs e m))).plain)

  pub product_term_cause : (fail : PolyFail) (number multiple : WholePolynomial) (ps : List (ℕ × ℕ)) → ps ≡ m.list → number ≡ constant a → multiple ≡ number *ᴾ constant (missing_powers rs e m) → IsCause fail (absolute multiple *ᴾ replaced (absolute_equations rs) ps) → IsCause fail bulk
  product_term_cause fail number multiple ps l n h c =
      subst (IsCause fail)
      (ap (λ x. absolute x *ᴾ replaced (absolute_equations rs) ps) (h ∙ ap (λ x. x *ᴾ constant (missing_powers rs e m)) n ∙ sym (constant-times a (missing_powers rs e m)))
      ∙ ap (λ x. x *ᴾ replaced (absolute_equations rs) ps) (absolute_constant (a *ℤ missing_powers rs e m) ∙ ap constant (ap pos (unsigned_abs-mul a (missing_powers rs e m)) ∙ ap (λ z. pos (unsigned_abs a) *ℤ z) (sym (missing_absolute rs e m))))
      ∙ bulk_is ps l) c

  -- the true term is bounded by its bulk
  pub term_bounded : IsBound (reduced_term rs e m a) bulk
  term_bounded =
      bounded_times (constant (a *ℤ missing_powers rs e m)) (replaced rs m.list) _ (replaced (absolute_equations rs) m.list)
      (subst (λ z. IsBound (constant (a *ℤ missing_powers rs e m)) (constant z)) (ap pos (unsigned_abs-mul a (missing_powers rs e m)) ∙ ap (λ z. pos (unsigned_abs a) *ℤ z) (sym (missing_absolute rs e m))) (term_bound unit (a *ℤ missing_powers rs e m)))
      (subst₂ IsBound (replaced_is rs m.list) (replaced_bulk_is rs m.list) (bounded_products (replaced_power rs) (replaced_bulk rs) (replaced_bounded rs) m.list))

pub multiple_apart : (S : Space) (rules : List LeadRule) (e : ℕ → ℕ) (m : Monomial) (a : ℤ) (number multiple : WholePolynomial) → ¬ (a ≡ pos 0) → Every (λ (r : LeadRule). ¬ (r.c ≡ pos 0)) rules → number ≡ constant a → multiple ≡ number *ᴾ constant (missing_powers (solved_equations S rules) e m) → ¬ (multiple ≡ 0ᴾ)
multiple_apart S rules e m a number multiple n h f g z =
    apart_product (missing_power S e m) rules (every-weaken (λ (r : LeadRule). ¬ (r.c ≡ pos 0)) (λ r. ¬ (missing_power S e m r ≡ 0ᴾ)) (λ r k. power_apart (constant r.c) (term_apart unit r.c k) _) rules h)
    (missing_is S e m rules ∙ no_zero_divisors (constant a) (constant (missing_powers (solved_equations S rules) e m)) (term_apart unit a n) (sym (g ∙ ap (λ x. x *ᴾ constant (missing_powers (solved_equations S rules) e m)) f) ∙ z))

-- ---- sums over terms
abbrev pub total : (Monomial → ℤ → WholePolynomial) → List (Monomial × ℤ) → WholePolynomial
total φ ts = sum_of_entries polynomials φ ts

pub total_more : (φ : Monomial → ℤ → WholePolynomial) (ts : List (Monomial × ℤ)) (i : ℕ) (t : Monomial × ℤ) → i < length ts → t ≡ get_or ts i t → total φ (take (i + 1) ts) ≡ total φ (take i ts) +ᴾ φ t.0 t.1
total_more φ ts i t lt is = ap (total φ) (sym (take_more ts i t lt is)) ∙ sum_of_entries-append polynomials φ (take i ts) (t ∷ []) ∙ ap (λ p. total φ (take i ts) +ᴾ p) (sym (plus_none (φ t.0 t.1) 0ᴾ refl))

module _ (rs : List SolvedEquation) (e : ℕ → ℕ) where
  abbrev pub sized_term : Monomial → ℤ → WholePolynomial
  sized_term m a = absolute (reduced_term rs e m a)

  abbrev pub bulk_term : Monomial → ℤ → WholePolynomial
  bulk_term m a = reduced_term (absolute_equations rs) e m (pos (unsigned_abs a))

  sized_bounded : (ts : List (Monomial × ℤ)) → IsBound (total sized_term ts) (total bulk_term ts)
  sized_bounded [] = none_bound
  sized_bounded (t ∷ ts) = sum_bound (sized_term t.0 t.1) (total sized_term ts) (bulk_term t.0 t.1) (total bulk_term ts) (covered_absolute (reduced_term rs e t.0 t.1) (bulk_term t.0 t.1) (term_bounded rs e t.0 t.1)) (sized_bounded ts)

  bulk_total : (ts : List (Monomial × ℤ)) → total bulk_term ts ≡ total (reduced_term (absolute_equations rs) e) (absolutes ts)
  bulk_total [] = refl
  bulk_total (t ∷ ts) = ap (λ p. bulk_term t.0 t.1 +ᴾ p) (bulk_total ts)

  pub reduced_total : (p : WholePolynomial) → total (reduced_term rs e) p.list ≡ reduced_by rs e p
  unfolding reduced_by
  reduced_total p = refl

  bulk_of : (p : WholePolynomial) → total bulk_term p.list ≡ reduction_bulk_by rs e p
  unfolding reduced_by absolute
  bulk_of p = bulk_total p.list ∙ ap (total (reduced_term (absolute_equations rs) e)) (sym (list-of terms (absolutes p.list) (canonical_absolutes p.list p.canonical)))

  terms_bounded : (ts : List (Monomial × ℤ)) → IsBound (total (reduced_term rs e) ts) (total bulk_term ts)
  terms_bounded [] = none_bound
  terms_bounded (t ∷ ts) = sum_bound (reduced_term rs e t.0 t.1) (total (reduced_term rs e) ts) (bulk_term t.0 t.1) (total bulk_term ts) (term_bounded rs e t.0 t.1) (terms_bounded ts)

  -- the reduction is bounded by its bulk
  pub reduction_bounded : (p : WholePolynomial) → IsBound (reduced_by rs e p) (reduction_bulk_by rs e p)
  reduction_bounded p = subst₂ IsBound (reduced_total p) (bulk_of p) (terms_bounded p.list)

  pub sum_cause : (fail : PolyFail) (p made : WholePolynomial) (ts : List (Monomial × ℤ)) → ts ≡ p.list → made ≡ total sized_term ts → IsCause fail made → IsCause fail (reduction_bulk_by rs e p)
  sum_cause fail p made ts l h c = subst (IsCause fail) (ap (total bulk_term) l ∙ bulk_of p) (cause_covered fail made (total bulk_term ts) (subst (λ q. IsCovered q (total bulk_term ts)) (sym h) ((sized_bounded ts).covered)) c)

  bulk_plain : (ts : List (Monomial × ℤ)) → IsNonNegative (total bulk_term ts)
  bulk_plain ts = (sized_bounded ts).plain

  term_covered : (ts : List (Monomial × ℤ)) (i : ℕ) (t : Monomial × ℤ) → i < length ts → t ≡ get_or ts i t → IsCovered (bulk_term t.0 t.1) (total bulk_term ts)
  term_covered [] i t lt is = absurd (omega arith)
  term_covered (u ∷ ts) zero t lt is = subst (λ (x : Monomial × ℤ). IsCovered (bulk_term x.0 x.1) (total bulk_term (u ∷ ts))) (sym is) (covered_first (bulk_term u.0 u.1) (total bulk_term ts) ((term_bounded rs e u.0 u.1).plain) (bulk_plain ts))
  term_covered (u ∷ ts) (suc i) t lt is = covered_trans _ (total bulk_term ts) _ (term_covered ts i t (omega arith) is) (covered_second (bulk_term u.0 u.1) (total bulk_term ts) ((term_bounded rs e u.0 u.1).plain) (bulk_plain ts))

  pub term_cause : (fail : PolyFail) (p : WholePolynomial) (ts : List (Monomial × ℤ)) (i : ℕ) (t : Monomial × ℤ) → ts ≡ p.list → i < length ts → t ≡ get_or ts i t → IsCause fail (bulk_term t.0 t.1) → IsCause fail (reduction_bulk_by rs e p)
  term_cause fail p ts i t l lt is c = subst (IsCause fail) (ap (total bulk_term) l ∙ bulk_of p) (cause_covered fail (bulk_term t.0 t.1) (total bulk_term ts) (term_covered ts i t lt is) c)

pub entry_apart : (p : WholePolynomial) (ts : List (Monomial × ℤ)) (i : ℕ) (t : Monomial × ℤ) → ts ≡ p.list → i < length ts → t ≡ get_or ts i t → ¬ (t.1 ≡ pos 0)
entry_apart p ts i t l lt is = entry_not_zero ts i t (subst (IsCanonical terms) (sym l) p.canonical) lt is

-- ---- several polynomials
pub reduction_cause_at : (rs : List SolvedEquation) (Ps : List WholePolynomial) (fail : PolyFail) (i : ℕ) (P : WholePolynomial) → i < length Ps → P ≡ get_or Ps i P → IsCause fail (reduction_bulk_by rs (greatest_exponent Ps) P) → IsReductionCause rs Ps fail
reduction_cause_at rs Ps (Past kind) i P lt is c = (i, P, lt, sym is, c)
reduction_cause_at rs Ps NoMemory i P lt is c = tt

-- ---- one polynomial
pub alone_cause : (rs : List SolvedEquation) (P : WholePolynomial) (fail : PolyFail) → IsReductionCause rs (P ∷ []) fail → IsCause fail (reduction_bulk rs P)
alone_cause rs P (Past kind) h = subst (λ (Q : WholePolynomial). IsPast kind Q) (only h.0 h.1 h.2 h.3) h.4
  where
    same : (Q : WholePolynomial) → Q ≡ P → reduction_bulk_by rs (greatest_exponent (P ∷ [])) Q ≡ reduction_bulk rs P
    same Q e = ap₂ (reduction_bulk_by rs) (fun_ext (λ w. least (degree_in w P))) e
      where
        least : (n : ℕ) → max n 0 ≡ n
        least n = omega arith

    only : (k : ℕ) (Q : WholePolynomial) → k < 1 → get_or (P ∷ []) k Q ≡ Q → reduction_bulk_by rs (greatest_exponent (P ∷ [])) Q ≡ reduction_bulk rs P
    only zero Q lt e = same Q (sym e)
    only (suc k) Q lt e = absurd (omega arith)
alone_cause rs P NoMemory h = tt

pub alone_value : (rs : List SolvedEquation) (P : WholePolynomial) → reduced_by rs (greatest_exponent (P ∷ [])) P ≡ reduced rs P
alone_value rs P = ap (λ e. reduced_by rs e P) (fun_ext (λ w. least (degree_in w P)))
  where
    least : (n : ℕ) → max n 0 ≡ n
    least n = omega arith
