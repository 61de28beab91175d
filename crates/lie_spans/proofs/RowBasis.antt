-- A set of rows has at most one reduced basis, and the numbers of a combination are read off at the pivots.
use Rattle.std.specs.Prelude.{◌≡◌, ℕ, suc, ◌<◌, ◌↔◌, List, [], ◌∷◌, length}
use Rattle.std.proofs.Common.{refl, sym, ap₂, ◌∙◌, arith}
use Rattle.std.specs.List.{AllByRecursion as Every}
use Rattle.lie_spans.specs.Spans.{IsSpanned}
use Rattle.lie_spans.specs.Rows.{Row, entry, IsReducedBasis}
use Rattle.lie_math.proofs.EveryElement.{every_both}
use Rattle.lie_spans.proofs.Spans.{spanned_each}
use Rattle.lie_spans.proofs.Reduced.{Alike, same_reduced}

-- two rows of one length with the same entries
pub same_row : (xs ys : Row) → length xs ≡ length ys → ((k : ℕ) → entry xs k ≡ entry ys k) → xs ≡ ys
same_row [] [] e h = refl
same_row [] (y ∷ ys) e h = absurd (omega arith)
same_row (x ∷ xs) [] e h = absurd (omega arith)
same_row (x ∷ xs) (y ∷ ys) e h = ap₂ ◌∷◌ (h 0) (same_row xs ys (omega arith) (λ k. h (suc k)))

same_list_of_rows : (n : ℕ) (rs ss : List Row) → Every (λ r. length r ≡ n) rs → Every (λ r. length r ≡ n) ss → Alike entry rs ss → rs ≡ ss
same_list_of_rows n [] [] h k a = refl
same_list_of_rows n [] (s ∷ ss) h k a = absurd a
same_list_of_rows n (r ∷ rs) [] h k a = absurd a
same_list_of_rows n (r ∷ rs) (s ∷ ss) h k a = ap₂ ◌∷◌ (same_row r s (h.0 ∙ sym k.0) a.0) (same_list_of_rows n rs ss h.1 k.1 a.1)

pub lower_trans : (i j k : ℕ) → i < j → j < k → i < k
lower_trans i j k l m = omega arith

pub neither_lower : (j k : ℕ) → ¬ (j < k) → ¬ (k < j) → j ≡ k
neither_lower j k l m = omega arith

-- at most one list is the reduced basis of X
pub one_reduced_basis : (n : ℕ) (X : Row → Type 0) (rs ss : List Row) → IsReducedBasis n X rs → IsReducedBasis n X ss → rs ≡ ss
one_reduced_basis n X rs ss h k =
    same_list_of_rows n rs ss h.lengths k.lengths
    (same_reduced entry ◌<◌ lower_trans neither_lower rs ss h.reduced k.reduced
    (every_both (λ w. length w ≡ n) (λ w. IsSpanned entry rs (entry w)) (λ w. IsSpanned entry ss (entry w)) (λ w l s. (k.spans w l).0 ((h.spans w l).1 s)) rs h.lengths (spanned_each entry rs))
    (every_both (λ w. length w ≡ n) (λ w. IsSpanned entry ss (entry w)) (λ w. IsSpanned entry rs (entry w)) (λ w l s. (h.spans w l).0 ((k.spans w l).1 s)) ss k.lengths (spanned_each entry ss)))

-- sets with the same rows have the same reduced bases
pub basis_of_same : (n : ℕ) (X Y : Row → Type 0) (rs : List Row) → ((w : Row) → length w ≡ n → X w ↔ Y w) → IsReducedBasis n X rs → IsReducedBasis n Y rs
basis_of_same n X Y rs e h = record { lengths = h.lengths; reduced = h.reduced; spans = λ w l. (λ y. (h.spans w l).0 ((e w l).1 y), λ s. (e w l).0 ((h.spans w l).1 s)) }
