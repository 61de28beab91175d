-- The last column of a row, and the kept row that ends in a column.
use Rattle.std.proofs.Common.{◌≡◌, ℕ, zero, suc, ◌-◌, ◌<◌, ◌≤◌, List, [], ◌∷◌, length, map, get_or, refl, sym, ap, ◌∙◌, subst, arith, ℤ, pos, ⊎_elim, cond, Some, None, Vec, Global}
use Rattle.std.specs.Prelude.{◌==◌}
use Rattle.std.proofs.lemmas.Bool.{cases_lt}
use Rattle.lie_spans.specs.Rows.{Row, entry, HaveLength}
use Rattle.lie_spans.specs.KeptRows.{AreKept, last_column, ending_at}
use Rattle.lie_spans.proofs.LastColumns.{apart_test, itself_test, last_column_is}
use Rattle.lie_spans.proofs.EndingAt.{Told, ending_at_told, Into, ending_at_into}
use Rattle.lie_rows.specs.Rows.{rows_of, row_at, AreEnds}
use Rattle.lie_rows.proofs.RowLoops.{read_at}
use Rattle.std.proofs.lemmas.List.{length-map}
use Rattle.lie_rows.proofs.RowLists.{row_at_is, length-rows_of}

-- ---- the last column

pub zeros_more : (row : Row) (left : ℕ) (x : ℤ) → 0 < left → left ≤ length row → x ≡ get_or row (left - 1) x → x ≡ pos 0 → ((j : ℕ) → left ≤ j → entry row j ≡ pos 0) → (j : ℕ) → left - 1 ≤ j → entry row j ≡ pos 0
zeros_more row left x p l e z h j m = ⊎_elim
    (λ k. let q : left - 1 ≡ j = omega arith in subst (λ i. entry row i ≡ pos 0) q (read_at row (left - 1) x (omega arith) e ∙ z))
    (λ k. h j k) (cases_lt j left)

pub last_found : (row : Row) (left : ℕ) (x : ℤ) → 0 < left → left ≤ length row → x ≡ get_or row (left - 1) x → ¬ (x ≡ pos 0) → ((j : ℕ) → left ≤ j → entry row j ≡ pos 0) → left - 1 ≡ last_column row
last_found row left x p l e n h = sym (last_column_is row (left - 1) (λ z. n (sym (read_at row (left - 1) x (omega arith) e) ∙ z)) (λ j m. h j (omega arith)))

-- ---- the row that ends in a column
abbrev tail : List ℕ → List ℕ
tail [] = []
tail (n ∷ ns) = ns

pub ending_first : (k : ℕ) (xs : List (Vec ℤ Global)) (ends : List ℕ) → AreEnds (rows_of xs) ends → (i : ℕ) → i < length ends → get_or ends i 0 ≡ k → ((j : ℕ) → j < i → ¬ (get_or ends j 0 ≡ k)) → (i < length xs) × (ending_at k (rows_of xs) ≡ Some (row_at xs i))
ending_first k [] [] a i l e n = absurd (omega arith)
ending_first k [] (m ∷ ends) a i l e n = absurd (let q : 0 ≡ suc (length ends) = ap length a in omega arith)
ending_first k (x ∷ xs) [] a i l e n = absurd (omega arith)
ending_first k (x ∷ xs) (m ∷ ends) a zero l e n =
    let f : last_column x.items ≡ k = ap (λ ns. get_or ns 0 0) a ∙ e in
    (omega arith, ap (λ c. cond (c == k) (Some x.items) (ending_at k (rows_of xs))) f ∙ ap (λ b. cond b (Some x.items) (ending_at k (rows_of xs))) (itself_test k))
ending_first k (x ∷ xs) (m ∷ ends) a (suc i) l e n =
    let f : ¬ (last_column x.items ≡ k) = λ z. n 0 (omega arith) (sym (ap (λ ns. get_or ns 0 0) a) ∙ z) in
    let t = ending_first k xs ends (ap tail a) i (omega arith) e (λ j h. n (suc j) (omega arith)) in
    (omega (arith, t.0), ap (λ b. cond b (Some x.items) (ending_at k (rows_of xs))) (apart_test (last_column x.items) k f) ∙ t.1)

pub ending_none : (k : ℕ) (xs : List (Vec ℤ Global)) (ends : List ℕ) → AreEnds (rows_of xs) ends → ((j : ℕ) → j < length ends → ¬ (get_or ends j 0 ≡ k)) → ending_at k (rows_of xs) ≡ None
ending_none k [] ends a n = refl
ending_none k (x ∷ xs) [] a n = absurd (let q : suc (length (map last_column (rows_of xs))) ≡ 0 = ap length a in omega arith)
ending_none k (x ∷ xs) (m ∷ ends) a n =
    let f : ¬ (last_column x.items ≡ k) = λ z. n 0 (omega arith) (sym (ap (λ ns. get_or ns 0 0) a) ∙ z) in
    ap (λ b. cond b (Some x.items) (ending_at k (rows_of xs))) (apart_test (last_column x.items) k f) ∙ ending_none k xs ends (ap tail a) (λ j h. n (suc j) (omega arith))

pub ends_length : (xs : List (Vec ℤ Global)) (ends : List ℕ) → AreEnds (rows_of xs) ends → length ends ≡ length xs
ends_length xs ends a = sym (ap length a) ∙ length-map (rows_of xs) last_column ∙ length-rows_of xs

-- the last column of the row at a place
pub end_at : (xs : List (Vec ℤ Global)) (ends : List ℕ) → AreEnds (rows_of xs) ends → (i : ℕ) (x : Vec ℤ Global) (m : ℕ) → i < length xs → x ≡ get_or xs i x → m ≡ get_or ends i m → m ≡ last_column x.items
end_at [] ends a i x m l e f = absurd (omega arith)
end_at (y ∷ xs) [] a i x m l e f = absurd (let q : suc (length (map last_column (rows_of xs))) ≡ 0 = ap length a in omega arith)
end_at (y ∷ xs) (n ∷ ends) a zero x m l e f = f ∙ sym (ap (λ ns. get_or ns 0 0) a) ∙ ap (λ (v : Vec ℤ Global). last_column v.items) (sym e)
end_at (y ∷ xs) (n ∷ ends) a (suc i) x m l e f = end_at xs ends (ap tail a) i x m (omega arith) e f

module _ (k columns : ℕ) (kept : List (Vec ℤ Global)) (i : ℕ) (p : Vec ℤ Global) (found : (i < length kept) × (ending_at k (rows_of kept) ≡ Some (row_at kept i))) (e : p ≡ get_or kept i p) (h : AreKept columns (rows_of kept)) where
  pub ending_is : ending_at k (rows_of kept) ≡ Some p.items
  ending_is = found.1 ∙ ap Some (row_at_is kept i p found.0 e)

  pub ending_last : last_column p.items ≡ k
  ending_last = subst (Told k (rows_of kept)) ending_is (ending_at_told k (rows_of kept))

  pub ending_counts : ¬ (entry p.items k ≡ pos 0)
  ending_counts z = subst (Into (λ r. ¬ (entry r (last_column r) ≡ pos 0))) ending_is (ending_at_into (λ r. ¬ (entry r (last_column r) ≡ pos 0)) k (rows_of kept) h.counts) (ap (entry p.items) ending_last ∙ z)

  pub ending_length : length p.items ≡ columns
  ending_length = subst (Into (λ r. length r ≡ columns)) ending_is (ending_at_into (λ r. length r ≡ columns) k (rows_of kept) h.lengths)

  pub ending_rows : (rows : List Row) → HaveLength columns rows → HaveLength (length p.items) rows
  ending_rows rows l = subst (λ n. HaveLength n rows) (sym ending_length) l
