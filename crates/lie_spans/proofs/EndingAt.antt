-- Kept rows, each 0 where the others end, and the one that ends in a column.
use Rattle.std.specs.Prelude.{◌≡◌, ℕ, ◌==◌, true, false, cond, List, [], ◌∷◌, pos, Option, Some, None}
use Rattle.std.proofs.Common.{refl, sym, ap, subst, ◌∙◌}
use Rattle.std.specs.List.{AllByRecursion as Every}
use Rattle.lie_spans.specs.Spans.{EveryTwo}
use Rattle.lie_spans.specs.Rows.{Row, entry}
use Rattle.lie_spans.specs.KeptRows.{Clear, last_column, ending_at}
use Rattle.lie_math.proofs.EveryElement.{every-weaken, every_both}
use Rattle.lie_spans.proofs.LastColumns.{same_test, other_test, apart_test, itself_test}

abbrev pub Told : ℕ → List Row → Option Row → Type 0
Told k kept None = Every (λ q. ¬ (last_column q ≡ k)) kept
Told k kept (Some q) = last_column q ≡ k

pub ending_at_told : (k : ℕ) (kept : List Row) → Told k kept (ending_at k kept)
ending_at_told k [] = tt
ending_at_told k (q ∷ qs) = elim (last_column q == k) as (λ b. (last_column q == k) ≡ b → Told k (q ∷ qs) (cond b (Some q) (ending_at k qs))) [
  | true ↦ λ e. same_test (last_column q) k e
  | false ↦ λ e. further (ending_at k qs) (other_test (last_column q) k e) (ending_at_told k qs)
] refl
  where
    further : (o : Option Row) → ¬ (last_column q ≡ k) → Told k qs o → Told k (q ∷ qs) o
    further None n t = (n, t)
    further (Some s) n t = t

abbrev pub Into : (Row → Type 0) → Option Row → Type 0
Into P None = Unit {0}
Into P (Some q) = P q

pub ending_at_into : (P : Row → Type 0) (k : ℕ) (kept : List Row) → Every P kept → Into P (ending_at k kept)
ending_at_into P k [] h = tt
ending_at_into P k (q ∷ qs) h = elim (last_column q == k) as (λ b. Into P (cond b (Some q) (ending_at k qs))) [
  | true ↦ h.0
  | false ↦ ending_at_into P k qs h.1
]

-- a kept row is the holder of its last column
pub ending_at_each : (kept : List Row) → Every (λ r. ¬ (entry r (last_column r) ≡ pos 0)) kept → EveryTwo Clear kept → Every (λ q. ending_at (last_column q) kept ≡ Some q) kept
ending_at_each [] c t = tt
ending_at_each (q ∷ qs) c t = (
  ap (λ b. cond b (Some q) (ending_at (last_column q) qs)) (itself_test (last_column q)),
  every_both (λ s. ending_at (last_column s) qs ≡ Some s) (Clear q) (λ s. ending_at (last_column s) (q ∷ qs) ≡ Some s)
      (λ s e k. ap (λ b. cond b (Some q) (ending_at (last_column s) qs)) (apart_test (last_column q) (last_column s) (λ z. c.0 (subst (λ i. entry q i ≡ pos 0) (sym z) k.left))) ∙ e) qs (ending_at_each qs c.1 t.1) t.0,
)

-- a kept row has 0 at the other last columns
abbrev pub Crossed : List Row → Row → Type 0
Crossed kept q = Every (λ s. ¬ (last_column s ≡ last_column q) → entry q (last_column s) ≡ pos 0) kept

pub crossed : (kept : List Row) → EveryTwo Clear kept → Every (Crossed kept) kept
crossed [] t = tt
crossed (q ∷ qs) t = (
  (λ n. absurd (n refl), every-weaken (Clear q) (λ s. ¬ (last_column s ≡ last_column q) → entry q (last_column s) ≡ pos 0) (λ s k n. k.left) qs t.0),
  every_both (Crossed qs) (Clear q) (Crossed (q ∷ qs)) (λ s a k. (λ n. k.right, a)) qs (crossed qs t.1) t.0,
)
