-- The solutions are the reduced basis of what the kept rows take to 0.
use Rattle.std.specs.Prelude.{◌≡◌, ℕ, zero, suc, ◌+◌, ◌<◌, ◌≤◌, ◌⊎◌, ◌==◌, Bool, true, false, cond, List, [], ◌∷◌, ◌++◌, ℤ, pos, ◌+ℤ◌, ◌*ℤ◌, neg_ℤ, ◌<ℤ◌, length, Option, Some, None}
use Rattle.std.proofs.Common.{refl, sym, ap, ap₂, subst, ◌∙◌, arith, inl, inr, ⊎_elim, true≢false}
use Rattle.std.specs.List.{AllByRecursion as Every}
use Rattle.std.proofs.lemmas.Bool.{cases_lt}
use Rattle.lie_math.specs.Integer.{integer_ring}
use Rattle.lie_math.proofs.Integer.{no_zero_divisors_ℤ}
use Rattle.lie_math.proofs.RingSolver.{v, c0, c1, ◌⊕◌, ◌⊗◌, ⊖, solve, listed}
use Rattle.lie_spans.specs.Spans.{EveryTwo, IsSpanned}
use Rattle.lie_spans.specs.Reduced.{HasNoCommonDivisor}
use Rattle.lie_spans.specs.Rows.{Row, entry, IsReducedBasis}
use Rattle.lie_spans.specs.Content.{row_content, divided_row}
use Rattle.lie_spans.specs.Elimination.{pivot}
use Rattle.lie_spans.specs.Kernel.{dot, IsKernel}
use Rattle.lie_spans.specs.KeptRows.{AreKept, last_column, ending_at}
use Rattle.lie_spans.specs.Solutions.{solution_row, solution_in, solution_rows}
use Rattle.lie_math.proofs.EveryElement.{every-weaken, every_both}
use Rattle.lie_spans.proofs.Lists.{every_all}
use Rattle.lie_spans.proofs.Spans.{spanned_same, spanned-zero, spanned-plus, spanned_over, spanned_here, spanned_later}
use Rattle.lie_spans.proofs.Reduced.{positive_not_zero, abs_positive}
use Rattle.lie_spans.proofs.Pivots.{Apart, pivot_is, reduced_rows}
use Rattle.lie_spans.proofs.Clearing.{entry_past_end}
use Rattle.lie_spans.proofs.Dots.{dot_comm, dot-plus, dot_one, dot_spanned}
use Rattle.lie_spans.proofs.LastColumns.{apart_test}
use Rattle.lie_spans.proofs.EndingAt.{Told, ending_at_told, Into, ending_at_into, Crossed, crossed}
use Rattle.lie_spans.proofs.OneSolution.{last_column_below, IsSolution, solution_is, content_sol}

solution_pivot : (n : ℕ) (kept : List Row) (f : ℕ) (s : Row) → IsSolution n kept f s → pivot s ≡ f
solution_pivot n kept f s h = pivot_is s f (positive_not_zero (entry s f) h.positive) h.before

abbrev SolvesConditions : ℕ → List Row → ℕ → Row → Type 0
SolvesConditions n kept f s = (g : ℕ) × (f ≤ g) × IsSolution n kept g s

-- the solution of the first column is the first row
first_solution : (n : ℕ) (kept : List Row) → AreKept n kept → (c f : ℕ) → suc c + f ≡ n → ending_at f kept ≡ None → solution_rows n kept (suc c) f ≡ divided_row (row_content (solution_row n kept f)) (solution_row n kept f) ∷ solution_rows n kept c (suc f)
first_solution n kept h c f e free =
    ap (λ o. solution_in n kept f o ++ solution_rows n kept c (suc f)) free
    ∙ ap (λ b. cond b [] (divided_row (row_content (solution_row n kept f)) (solution_row n kept f) ∷ []) ++ solution_rows n kept c (suc f)) (some (row_content (solution_row n kept f)) (content_sol n kept h f (omega arith) free))
  where
    some : (m : ℕ) → 0 < m → (m == 0) ≡ false
    some m l = apart_test m 0 (λ e. absurd (omega arith))

no_solution : (n : ℕ) (kept : List Row) (c f : ℕ) (q : Row) → ending_at f kept ≡ Some q → solution_rows n kept (suc c) f ≡ solution_rows n kept c (suc f)
no_solution n kept c f q e = ap (λ o. solution_in n kept f o ++ solution_rows n kept c (suc f)) e

pub ending_at_or_not : (f : ℕ) (kept : List Row) → (ending_at f kept ≡ None) ⊎ ((q : Row) × (ending_at f kept ≡ Some q))
ending_at_or_not f kept = elim (ending_at f kept) as (λ o. ending_at f kept ≡ o → (ending_at f kept ≡ None) ⊎ ((q : Row) × (ending_at f kept ≡ Some q))) [
  | None ↦ λ e. inl e
  | Some q ↦ λ e. inr (q, e)
] refl

solutions_each : (n : ℕ) (kept : List Row) → AreKept n kept → (c f : ℕ) → c + f ≡ n → Every (SolvesConditions n kept f) (solution_rows n kept c f)
solutions_each n kept h zero f e = tt
solutions_each n kept h (suc c) f e =
    let rest : Every (SolvesConditions n kept f) (solution_rows n kept c (suc f)) =
    every-weaken (SolvesConditions n kept (suc f)) (SolvesConditions n kept f) (λ s t. (t.0, let l = t.1 in omega arith, t.2)) (solution_rows n kept c (suc f)) (solutions_each n kept h c (suc f) (omega arith)) in
    ⊎_elim
    (λ free. subst (Every (SolvesConditions n kept f)) (sym (first_solution n kept h c f e free)) ((f, omega arith, solution_is n kept h f (omega arith) free), rest))
    (λ q. subst (Every (SolvesConditions n kept f)) (sym (no_solution n kept c f q.0 q.1)) rest)
    (ending_at_or_not f kept)

solutions_apart : (n : ℕ) (kept : List Row) → AreKept n kept → (c f : ℕ) → c + f ≡ n → EveryTwo Apart (solution_rows n kept c f)
solutions_apart n kept h zero f e = tt
solutions_apart n kept h (suc c) f e =
    let rest : EveryTwo Apart (solution_rows n kept c (suc f)) = solutions_apart n kept h c (suc f) (omega arith) in
    ⊎_elim
    (λ free. subst (EveryTwo Apart) (sym (first_solution n kept h c f e free)) (
      every-weaken (SolvesConditions n kept (suc f)) (Apart (divided_row (row_content (solution_row n kept f)) (solution_row n kept f))) (two free) (solution_rows n kept c (suc f)) (solutions_each n kept h c (suc f) (omega arith)),
      rest,
    ))
    (λ q. subst (EveryTwo Apart) (sym (no_solution n kept c f q.0 q.1)) rest)
    (ending_at_or_not f kept)
  where
    two : ending_at f kept ≡ None → (s : Row) → SolvesConditions n kept (suc f) s → Apart (divided_row (row_content (solution_row n kept f)) (solution_row n kept f)) s
    two free s t =
        let u : IsSolution n kept f (divided_row (row_content (solution_row n kept f)) (solution_row n kept f)) = solution_is n kept h f (omega arith) free in
        let pu : pivot (divided_row (row_content (solution_row n kept f)) (solution_row n kept f)) ≡ f = solution_pivot n kept f _ u in
        let ps : pivot s ≡ t.0 = solution_pivot n kept t.0 s t.2 in
        let l : suc f ≤ t.0 = t.1 in
        record {
          rise = omega arith;
          left = ap (entry (divided_row (row_content (solution_row n kept f)) (solution_row n kept f))) ps ∙ u.others t.0 (t.2).free (omega arith);
          right = ap (entry s) pu ∙ (t.2).before f (omega arith);
        }

-- what is 0 in the free columns is 0
kernel_zero : (n : ℕ) (kept : List Row) → AreKept n kept → (w : ℕ → ℤ) → IsKernel n kept w → ((j : ℕ) → ending_at j kept ≡ None → w j ≡ pos 0) → (j : ℕ) → w j ≡ pos 0
kernel_zero n kept h w k free j =
    ⊎_elim (λ e. free j e)
    (λ q. subst (λ o. Into (λ s. w (last_column s) ≡ pos 0) o → Told j kept o → w j ≡ pos 0) (sym q.1) (λ i t. ap w (sym t) ∙ i) (ending_at_into (λ s. w (last_column s) ≡ pos 0) j kept each) (ending_at_told j kept))
    (ending_at_or_not j kept)
  where
    one : (q : Row) → (length q ≡ n) × (¬ (entry q (last_column q) ≡ pos 0)) → (dot n (entry q) w ≡ pos 0) × Crossed kept q → w (last_column q) ≡ pos 0
    one q l d =
        no_zero_divisors_ℤ (entry q (last_column q)) (w (last_column q)) l.1
        (sym (dot_one n (entry q) w (last_column q) (last_column_below n q l.0 l.1) (λ i m b. other i b)) ∙ d.0)
      where
        other : (i : ℕ) → ¬ (i ≡ last_column q) → entry q i *ℤ w i ≡ pos 0
        other i b = elim (ending_at i kept) as (λ o. ending_at i kept ≡ o → Told i kept o → Into (λ s. ¬ (last_column s ≡ last_column q) → entry q (last_column s) ≡ pos 0) o → entry q i *ℤ w i ≡ pos 0) [
          | None ↦ λ z t x. ap (λ y. entry q i *ℤ y) (free i z) ∙ solve integer_ring (listed (pos 0) (entry q i ∷ [])) (v 0 ⊗ c0) c0 refl
          | Some s ↦ λ z t x. ap (λ y. y *ℤ w i) (ap (entry q) (sym t) ∙ x (λ y. b (sym t ∙ y))) ∙ solve integer_ring (listed (pos 0) (w i ∷ [])) (c0 ⊗ v 0) c0 refl
        ] refl (ending_at_told i kept) (ending_at_into (λ s. ¬ (last_column s ≡ last_column q) → entry q (last_column s) ≡ pos 0) i kept d.1)

    each : Every (λ s. w (last_column s) ≡ pos 0) kept
    each = every_both (λ q. (length q ≡ n) × (¬ (entry q (last_column q) ≡ pos 0))) (λ q. (dot n (entry q) w ≡ pos 0) × Crossed kept q) (λ s. w (last_column s) ≡ pos 0) one kept
        (every_both (λ q. length q ≡ n) (λ q. ¬ (entry q (last_column q) ≡ pos 0)) (λ q. (length q ≡ n) × (¬ (entry q (last_column q) ≡ pos 0))) (λ q a b. (a, b)) kept h.lengths h.counts)
        (every_both (λ q. dot n (entry q) w ≡ pos 0) (Crossed kept) (λ q. (dot n (entry q) w ≡ pos 0) × Crossed kept q) (λ q a b. (a, b)) kept k (crossed kept h.clear))

kernel-plus : (n : ℕ) (kept : List Row) (a b : ℤ) (u w : ℕ → ℤ) → IsKernel n kept u → IsKernel n kept w → IsKernel n kept (λ j. a *ℤ u j +ℤ b *ℤ w j)
kernel-plus n kept a b u w h k = every_both (λ q. dot n (entry q) u ≡ pos 0) (λ q. dot n (entry q) w ≡ pos 0) (λ q. dot n (entry q) (λ j. a *ℤ u j +ℤ b *ℤ w j) ≡ pos 0)
    (λ q x y. dot-plus n a b (entry q) u w ∙ ap₂ (λ s t. a *ℤ s +ℤ b *ℤ t) x y ∙ solve integer_ring (listed (pos 0) (a ∷ b ∷ [])) (v 0 ⊗ c0 ⊕ v 1 ⊗ c0) c0 refl) kept h k

solutions_span : (n : ℕ) (kept : List Row) → AreKept n kept → (c f : ℕ) → c + f ≡ n → (w : ℕ → ℤ) → IsKernel n kept w → ((j : ℕ) → n ≤ j → w j ≡ pos 0) → ((j : ℕ) → j < f → ending_at j kept ≡ None → w j ≡ pos 0) → IsSpanned entry (solution_rows n kept c f) w
solutions_span n kept h zero f e w k past low =
    spanned_same entry [] (λ j. pos 0) w (λ j. sym (kernel_zero n kept h w k (λ i free. ⊎_elim (λ l. low i (omega arith) free) (λ l. past i l) (cases_lt i n)) j)) (spanned-zero entry [])
solutions_span n kept h (suc c) f e w k past low = ⊎_elim
    (λ free.
    let u : IsSolution n kept f (divided_row (row_content (solution_row n kept f)) (solution_row n kept f)) = solution_is n kept h f (omega arith) free in
    subst (λ rs. IsSpanned entry rs w) (sym (first_solution n kept h c f e free))
    (from_rest (divided_row (row_content (solution_row n kept f)) (solution_row n kept f)) u
    (solutions_span n kept h c (suc f) (omega arith) (λ j. entry (divided_row (row_content (solution_row n kept f)) (solution_row n kept f)) f *ℤ w j +ℤ neg_ℤ (w f) *ℤ entry (divided_row (row_content (solution_row n kept f)) (solution_row n kept f)) j)
    (kernel-plus n kept (entry (divided_row (row_content (solution_row n kept f)) (solution_row n kept f)) f) (neg_ℤ (w f)) w (entry (divided_row (row_content (solution_row n kept f)) (solution_row n kept f))) k u.kernel)
    (λ j l. zero_both (divided_row (row_content (solution_row n kept f)) (solution_row n kept f)) j (past j l) (entry_past_end _ j (omega (arith, u.length))))
    (λ j l g. lower (divided_row (row_content (solution_row n kept f)) (solution_row n kept f)) u j l g))))
    (λ q. subst (λ rs. IsSpanned entry rs w) (sym (no_solution n kept c f q.0 q.1))
    (solutions_span n kept h c (suc f) (omega arith) w k past (λ j l g. ⊎_elim (λ m. low j m g) (λ m. absurd (clash q.0 (let z : f ≡ j = omega arith in ap (λ i. ending_at i kept) z ∙ g) q.1)) (cases_lt j f))))
    (ending_at_or_not f kept)
  where
    clash : (q : Row) → ending_at f kept ≡ None → ending_at f kept ≡ Some q → ⊥
    clash q a b = true≢false (ap is_none (sym a ∙ b))
      where
        is_none : Option Row → Bool
        is_none None = true
        is_none (Some s) = false

    zero_both : (s : Row) (j : ℕ) → w j ≡ pos 0 → entry s j ≡ pos 0 → entry s f *ℤ w j +ℤ neg_ℤ (w f) *ℤ entry s j ≡ pos 0
    zero_both s j a b = ap₂ (λ x y. entry s f *ℤ x +ℤ neg_ℤ (w f) *ℤ y) a b ∙ solve integer_ring (listed (pos 0) (entry s f ∷ neg_ℤ (w f) ∷ [])) (v 0 ⊗ c0 ⊕ v 1 ⊗ c0) c0 refl

    lower : (s : Row) → IsSolution n kept f s → (j : ℕ) → j < suc f → ending_at j kept ≡ None → entry s f *ℤ w j +ℤ neg_ℤ (w f) *ℤ entry s j ≡ pos 0
    lower s u j l g = ⊎_elim
        (λ m. zero_both s j (low j m g) (u.before j m))
        (λ m. let z : f ≡ j = omega arith in
        ap (λ i. entry s f *ℤ w i +ℤ neg_ℤ (w f) *ℤ entry s i) (sym z) ∙ solve integer_ring (listed (pos 0) (entry s f ∷ w f ∷ [])) (v 0 ⊗ v 1 ⊕ ⊖ (v 1) ⊗ v 0) c0 refl)
        (cases_lt j f)

    from_rest : (s : Row) → IsSolution n kept f s → IsSpanned entry (solution_rows n kept c (suc f)) (λ j. entry s f *ℤ w j +ℤ neg_ℤ (w f) *ℤ entry s j) → IsSpanned entry (s ∷ solution_rows n kept c (suc f)) w
    from_rest s u t =
        spanned_over entry (s ∷ solution_rows n kept c (suc f)) (entry s f) w (abs_positive (entry s f) (positive_not_zero (entry s f) u.positive))
        (spanned_same entry (s ∷ solution_rows n kept c (suc f)) (λ j. pos 1 *ℤ (entry s f *ℤ w j +ℤ neg_ℤ (w f) *ℤ entry s j) +ℤ w f *ℤ entry s j) (λ j. entry s f *ℤ w j)
        (λ j. solve integer_ring (listed (pos 0) (entry s f ∷ w j ∷ w f ∷ entry s j ∷ [])) (c1 ⊗ (v 0 ⊗ v 1 ⊕ ⊖ (v 2) ⊗ v 3) ⊕ v 2 ⊗ v 3) (v 0 ⊗ v 1) refl)
        (spanned-plus entry (s ∷ solution_rows n kept c (suc f)) (pos 1) (w f) (λ j. entry s f *ℤ w j +ℤ neg_ℤ (w f) *ℤ entry s j) (entry s) (spanned_later entry s (solution_rows n kept c (suc f)) _ t) (spanned_here entry s (solution_rows n kept c (suc f)))))

each_swap : (R : Row → Row → Type 0) (xs ys : List Row) → Every (λ y. Every (λ x. R x y) xs) ys → Every (λ x. Every (R x) ys) xs
each_swap R xs [] h = every_all (λ x. Unit {0}) (λ x. tt) xs
each_swap R xs (y ∷ ys) h = every_both (λ x. R x y) (λ x. Every (R x) ys) (λ x. Every (R x) (y ∷ ys)) (λ x a b. (a, b)) xs h.0 (each_swap R xs ys h.1)

-- the solutions are the reduced basis of what the kept rows take to 0
pub solutions_are : (n : ℕ) (kept : List Row) → AreKept n kept → IsReducedBasis n (λ w. IsKernel n kept (entry w)) (solution_rows n kept n 0)
solutions_are n kept h =
    let each : Every (SolvesConditions n kept 0) (solution_rows n kept n 0) = solutions_each n kept h n 0 (omega arith) in
    record {
      lengths = every-weaken (SolvesConditions n kept 0) (λ s. length s ≡ n) (λ s t. (t.2).length) (solution_rows n kept n 0) each;
      reduced =
          reduced_rows (solution_rows n kept n 0)
          (every-weaken (SolvesConditions n kept 0) (HasNoCommonDivisor entry) (λ s t. (t.2).primitive) (solution_rows n kept n 0) each)
          (every-weaken (SolvesConditions n kept 0) (λ s. pos 0 <ℤ entry s (pivot s)) (λ s t. subst (λ i. pos 0 <ℤ entry s i) (sym (solution_pivot n kept t.0 s t.2)) (t.2).positive) (solution_rows n kept n 0) each)
          (solutions_apart n kept h n 0 (omega arith));
      spans = λ w l. (
        λ k. solutions_span n kept h n 0 (omega arith) (entry w) k (λ j m. entry_past_end w j (omega arith)) (λ j m g. absurd (omega arith)),
        λ s. every-weaken (λ q. Every (λ t. dot n (entry q) (entry t) ≡ pos 0) (solution_rows n kept n 0)) (λ q. dot n (entry q) (entry w) ≡ pos 0)
            (λ q k. dot_comm n (entry q) (entry w) ∙ dot_spanned n (solution_rows n kept n 0) (entry q) (entry w) (every-weaken (λ t. dot n (entry q) (entry t) ≡ pos 0) (λ t. dot n (entry t) (entry q) ≡ pos 0) (λ t e. dot_comm n (entry t) (entry q) ∙ e) (solution_rows n kept n 0) k) s) kept
            (each_swap (λ q t. dot n (entry q) (entry t) ≡ pos 0) kept (solution_rows n kept n 0) (every-weaken (SolvesConditions n kept 0) (λ t. IsKernel n kept (entry t)) (λ t u. (u.2).kernel) (solution_rows n kept n 0) each)),
      );
    }
