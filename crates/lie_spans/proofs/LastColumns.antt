-- The last column where a row is not 0.
use Rattle.std.specs.Prelude.{◌≡◌, ℕ, zero, suc, ◌<◌, ◌⊎◌, ◌==◌, true, false, cond, T, [], ◌∷◌, pos}
use Rattle.std.proofs.Common.{refl, sym, ap, subst, ◌∙◌, arith, inl, inr, true≢false, eqb→eq}
use Rattle.lie_spans.specs.Rows.{Row, entry}
use Rattle.lie_spans.specs.Content.{row_content}
use Rattle.lie_spans.specs.KeptRows.{last_column}
use Rattle.lie_spans.proofs.Content.{positive_of_test, content_vanishes, vanishes_content}

pub same_test : (a b : ℕ) → (a == b) ≡ true → a ≡ b
same_test a b e = eqb→eq a b (subst T (sym e) tt)

pub other_test : (a b : ℕ) → (a == b) ≡ false → ¬ (a ≡ b)
other_test a b e q = true≢false (sym ((let r : (b == b) ≡ true = grind arith in r)) ∙ ap (λ x. x == b) (sym q) ∙ e)

pub same_or_not : (a b : ℕ) → (a ≡ b) ⊎ (¬ (a ≡ b))
same_or_not a b = elim (a == b) as (λ t. (a == b) ≡ t → (a ≡ b) ⊎ (¬ (a ≡ b))) [ true ↦ λ e. inl (same_test a b e) | false ↦ λ e. inr (other_test a b e) ] refl

pub apart_test : (a b : ℕ) → ¬ (a ≡ b) → (a == b) ≡ false
apart_test a b h = elim (a == b) as (λ t. (a == b) ≡ t → t ≡ false) [ true ↦ λ e. absurd (h (same_test a b e)) | false ↦ λ e. refl ] refl

pub itself_test : (n : ℕ) → (n == n) ≡ true
itself_test n = grind arith

pub entry_after_last : (r : Row) (j : ℕ) → last_column r < j → entry r j ≡ pos 0
entry_after_last [] j h = refl
entry_after_last (x ∷ xs) zero h = absurd (omega arith)
entry_after_last (x ∷ xs) (suc j) h =
    elim (row_content xs == 0) as (λ b. (row_content xs == 0) ≡ b → cond b 0 (suc (last_column xs)) < suc j → entry xs j ≡ pos 0) [
      | true ↦ λ e l. content_vanishes xs (same_test (row_content xs) 0 e) j
      | false ↦ λ e l. entry_after_last xs j (omega arith)
    ] refl h

pub entry_at_last : (r : Row) → 0 < row_content r → ¬ (entry r (last_column r) ≡ pos 0)
entry_at_last [] h = absurd (omega arith)
entry_at_last (x ∷ xs) h =
    elim (row_content xs == 0) as (λ b. (row_content xs == 0) ≡ b → ¬ (entry (x ∷ xs) (cond b 0 (suc (last_column xs))) ≡ pos 0)) [
      | true ↦ λ e z.
          let all : row_content (x ∷ xs) ≡ 0 = vanishes_content (x ∷ xs) (λ j. ending_at_or_not (content_vanishes xs (same_test (row_content xs) 0 e)) z j) in
          absurd (omega arith)
      | false ↦ λ e. entry_at_last xs (positive_of_test (row_content xs) e)
    ] refl
  where
    ending_at_or_not : ((j : ℕ) → entry xs j ≡ pos 0) → x ≡ pos 0 → (j : ℕ) → entry (x ∷ xs) j ≡ pos 0
    ending_at_or_not a z zero = z
    ending_at_or_not a z (suc j) = a j

pub last_column_is : (r : Row) (p : ℕ) → ¬ (entry r p ≡ pos 0) → ((j : ℕ) → p < j → entry r j ≡ pos 0) → last_column r ≡ p
last_column_is r p h after =
    let some : 0 < row_content r = at_least (row_content r) (λ e. h (content_vanishes r e p)) in
    decide (last_column r) p (λ l. entry_at_last r some (after (last_column r) l)) (λ l. h (entry_after_last r p l))
  where
    at_least : (n : ℕ) → ¬ (n ≡ 0) → 0 < n
    at_least n f = omega arith

    decide : (a b : ℕ) → ¬ (b < a) → ¬ (a < b) → a ≡ b
    decide a b f g = omega arith

pub last_column-zero : (r : Row) → ((j : ℕ) → entry r j ≡ pos 0) → last_column r ≡ 0
last_column-zero [] h = refl
last_column-zero (x ∷ xs) h = ap (λ n. cond (n == 0) 0 (suc (last_column xs))) (vanishes_content xs (λ j. h (suc j)))
