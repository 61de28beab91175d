-- The steps of the loops over lists of rows, over plain variables.
use Rattle.std.proofs.Common.{◌≡◌, ℕ, zero, suc, ◌+◌, ◌<◌, ◌≤◌, List, [], ◌∷◌, ◌++◌, length, get_or, drop, refl, sym, ap, ◌∙◌, subst, arith, append_assoc, append-nil, ℤ, drop_of_length-le, cond, true, false, Vec, Global}
use Rattle.std.specs.Prelude.{◌==◌, pos, ◌*ℤ◌, unsigned_abs}
use Prim.Native.Nat.{◌∣◌}
use Rattle.std.specs.List.{AllByRecursion as Every}
use Rattle.lie_spans.specs.Rows.{Row, entry}
use Rattle.lie_spans.specs.Elimination.{turned_row, turned_rows}
use Rattle.lie_spans.specs.Content.{row_content, divided_row, primitive_part}
use Rattle.lie_math.specs.Integer.{*ℤ-idl}
use Rattle.lie_spans.proofs.Content.{zero_of_test, content_divides, divided_is, length-divided}
use Rattle.lie_spans.proofs.RowBasis.{same_row}
use Rattle.lie_rows.specs.Rows.{rows_of, row_at}
use Rattle.lie_rows.proofs.RowLoops.{drop_at, read_at}

abbrev Rows : Type 0
Rows = List (Vec ℤ Global)

pub rows_of_append : (xs ys : List (Vec ℤ Global)) → rows_of (xs ++ ys) ≡ rows_of xs ++ rows_of ys
rows_of_append [] ys = refl
rows_of_append (x ∷ xs) ys = ap (λ rs. x.items ∷ rs) (rows_of_append xs ys)

pub length-rows_of : (xs : List (Vec ℤ Global)) → length (rows_of xs) ≡ length xs
length-rows_of [] = refl
length-rows_of (x ∷ xs) = ap suc (length-rows_of xs)

pub rows_none : (xs : List (Vec ℤ Global)) → length xs ≡ 0 → rows_of xs ≡ []
rows_none [] e = refl
rows_none (x ∷ xs) e = absurd (omega arith)

pub rows_at : (xs : List (Vec ℤ Global)) (i : ℕ) (x : Vec ℤ Global) → i < length xs → x ≡ get_or xs i x → rows_of (drop i xs) ≡ x.items ∷ rows_of (drop (i + 1) xs)
rows_at xs i x h e = ap rows_of (drop_at xs i x h e)

pub row_at_is : (xs : List (Vec ℤ Global)) (i : ℕ) (x : Vec ℤ Global) → i < length xs → x ≡ get_or xs i x → row_at xs i ≡ x.items
row_at_is [] i x h e = absurd (omega arith)
row_at_is (y ∷ xs) zero x h e = ap (λ (v : Vec ℤ Global). v.items) (sym e)
row_at_is (y ∷ xs) (suc i) x h e = row_at_is xs i x (omega arith) e

pub every_row_at : (P : Row → Type 0) (xs : List (Vec ℤ Global)) (i : ℕ) → i < length xs → Every P (rows_of xs) → P (row_at xs i)
every_row_at P [] i h a = absurd (omega arith)
every_row_at P (x ∷ xs) zero h a = a.0
every_row_at P (x ∷ xs) (suc i) h a = every_row_at P xs i (omega arith) a.1

-- ---- lists that are made front to back

pub rows_step : (f : List Row → List Row) (xs : List (Vec ℤ Global)) (i : ℕ) (x : Vec ℤ Global) (out new piece : List Row) → i < length xs → x ≡ get_or xs i x → ((rs : List Row) → f (x.items ∷ rs) ≡ piece ++ f rs) → new ≡ out ++ piece → out ++ f (rows_of (drop i xs)) ≡ f (rows_of xs) → new ++ f (rows_of (drop (i + 1) xs)) ≡ f (rows_of xs)
rows_step f xs i x out new piece h e c n s =
    ap (λ rs. rs ++ f (rows_of (drop (i + 1) xs))) n ∙ append_assoc out piece (f (rows_of (drop (i + 1) xs)))
    ∙ ap (λ rs. out ++ rs) (sym (c (rows_of (drop (i + 1) xs))) ∙ ap f (sym (rows_at xs i x h e))) ∙ s

pub rows_end : (f : List Row → List Row) (xs : List (Vec ℤ Global)) (i : ℕ) (out : List Row) → length xs ≤ i → f [] ≡ [] → out ++ f (rows_of (drop i xs)) ≡ f (rows_of xs) → out ≡ f (rows_of xs)
rows_end f xs i out h e s = sym (ap (λ ys. out ++ f (rows_of ys)) (drop_of_length-le xs h) ∙ ap (λ ys. out ++ ys) e ∙ append-nil out) ∙ s

pub turned_more : (out new all rest : List Row) (x d : Row) (ys : List Row) → rest ≡ x ∷ ys → d ≡ turned_row x → new ≡ out ++ d ∷ [] → out ++ turned_rows rest ≡ all → new ++ turned_rows ys ≡ all
turned_more out new all rest x d ys r e n s =
    ap (λ rs. rs ++ turned_rows ys) n ∙ append_assoc out (d ∷ []) (turned_rows ys) ∙ ap (λ y. out ++ (y ∷ turned_rows ys)) e ∙ ap (λ rs. out ++ turned_rows rs) (sym r) ∙ s

-- ---- one entry of one row

module _ (xs : List (Vec ℤ Global)) (i : ℕ) (x : Vec ℤ Global) (k : ℕ) (h : i < length xs) (e : x ≡ get_or xs i x) (a : Every (λ r. k < length r) (rows_of xs)) where
  pub entry_inside : k < length x.items
  entry_inside = subst (λ r. k < length r) (row_at_is xs i x h e) (every_row_at (λ r. k < length r) xs i h a)

  pub entry_at : (y : ℤ) → y ≡ get_or x.items k y → entry (row_at xs i) k ≡ y
  entry_at y f = ap (λ r. entry r k) (row_at_is xs i x h e) ∙ read_at x.items k y entry_inside f

-- ---- the primitive part of a row
pub primitive_part_some : (r : Row) (by : ℕ) (q : Row) → by ≡ row_content r → ¬ (by ≡ 0) → q ≡ divided_row by r → q ∷ [] ≡ primitive_part r
primitive_part_some r by q e n d =
    elim (row_content r == 0) as (λ b. (row_content r == 0) ≡ b → q ∷ [] ≡ cond b [] (divided_row (row_content r) r ∷ [])) [
      | true ↦ λ t. absurd (n (e ∙ zero_of_test (row_content r) t))
      | false ↦ λ t. ap (λ x. x ∷ []) (d ∙ ap (λ g. divided_row g r) e)
    ] refl

-- a row without a common divisor is left as it is
pub divided_by_one : (r : Row) (by : ℕ) → by ≡ row_content r → by ≡ 1 → r ≡ divided_row by r
divided_by_one r by e o = same_row r (divided_row by r) (sym (length-divided by r)) (λ k. sym (sym (*ℤ-idl (entry (divided_row by r) k)) ∙ ap (λ g. pos g *ℤ entry (divided_row by r) k) (sym o) ∙ divided_is by r (λ j. subst (λ g. g ∣ unsigned_abs (entry r j)) (sym e) (content_divides r j)) k))
