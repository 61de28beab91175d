-- The steps of one solution: its multiple and its entries.
use Rattle.std.proofs.Common.{◌≡◌, ℕ, zero, suc, ◌+◌, ◌<◌, ◌≤◌, List, [], ◌∷◌, ◌++◌, length, map, get_or, drop, refl, sym, ap, ap₂, ◌∙◌, subst, subst₂, arith, add-one, append_assoc, append-nil, ℤ, pos, ◌*ℤ◌, neg_ℤ, ⊎_elim, cond, Option, Some, None, Vec, Global}
use Rattle.std.specs.Prelude.{unsigned_abs, ◌==◌, int_div, MatchOption}
use Rattle.std.specs.List.{AllByRecursion as Every}
use Rattle.std.proofs.lemmas.Bool.{cases_lt}
use Prim.Native.Nat.{◌∣◌}
use Rattle.lie_math.specs.Integer.{is_zero_int}
use Rattle.lie_math.specs.Limits.{number_limit, FitsNumber}
use Rattle.lie_spans.specs.Solutions.{common_multiple}
use Rattle.lie_spans.specs.Rows.{Row, entry}
use Rattle.lie_spans.specs.KeptRows.{AreKept, last_column, ending_at}
use Rattle.lie_spans.specs.Solutions.{last_multiple, answer, answer_of, solution_at, row_from, solution_row}
use Rattle.lie_spans.proofs.LastColumns.{apart_test, itself_test}
use Rattle.lie_spans.proofs.EndingAt.{Into, ending_at_into}
use Rattle.lie_spans.proofs.OneSolution.{Divides, multiple_divides, multiple_above, entry-row_from}
use Rattle.lie_spans.proofs.Clearing.{entry_past_end}
use Rattle.lie_rows.specs.Causes.{AreWithin}
use Rattle.lie_rows.specs.Rows.{rows_of}
use Rattle.lie_rows.proofs.RowLoops.{not_zero_test}
use Rattle.lie_rows.proofs.RowLists.{rows_at, row_at_is, every_row_at}

module _ (columns : ℕ) (kept : List (Vec ℤ Global)) (i : ℕ) (p : Vec ℤ Global) (h : AreKept columns (rows_of kept)) (l : i < length kept) (e : p ≡ get_or kept i p) where
  pub place_length : length p.items ≡ columns
  place_length = ap length (sym (row_at_is kept i p l e)) ∙ every_row_at (λ r. length r ≡ columns) kept i l h.lengths

  pub place_counts : ¬ (entry p.items (last_column p.items) ≡ pos 0)
  place_counts = subst (λ r. ¬ (entry r (last_column r) ≡ pos 0)) (row_at_is kept i p l e) (every_row_at (λ r. ¬ (entry r (last_column r) ≡ pos 0)) kept i l h.counts)

  pub place_inside : last_column p.items < length p.items
  place_inside = ⊎_elim (λ k. k) (λ k. absurd (place_counts (entry_past_end p.items (last_column p.items) k))) (cases_lt (last_column p.items) (length p.items))

  now : rows_of (drop i kept) ≡ p.items ∷ rows_of (drop (i + 1) kept)
  now = rows_at kept i p l e

  pub multiple_skip : (f found : ℕ) → entry p.items f ≡ pos 0 → found ≡ last_multiple f (rows_of (drop (i + 1) kept)) → found ≡ last_multiple f (rows_of (drop i kept))
  multiple_skip f found z s =
      s ∙ ap (λ b. cond b (last_multiple f (rows_of (drop (i + 1) kept))) (common_multiple (unsigned_abs (entry p.items (last_column p.items))) (last_multiple f (rows_of (drop (i + 1) kept))))) (sym (ap is_zero_int z))
      ∙ ap (last_multiple f) (sym now)

  pub multiple_more : (f found m : ℕ) → ¬ (entry p.items f ≡ pos 0) → found ≡ last_multiple f (rows_of (drop (i + 1) kept)) → m ≡ common_multiple (unsigned_abs (entry p.items (last_column p.items))) found → m ≡ last_multiple f (rows_of (drop i kept))
  multiple_more f found m n s t =
      t ∙ ap (common_multiple (unsigned_abs (entry p.items (last_column p.items)))) s
      ∙ ap (λ b. cond b (last_multiple f (rows_of (drop (i + 1) kept))) (common_multiple (unsigned_abs (entry p.items (last_column p.items))) (last_multiple f (rows_of (drop (i + 1) kept))))) (sym (not_zero_test (entry p.items f) n))
      ∙ ap (last_multiple f) (sym now)

pub multiple_drop : (f : ℕ) (xs : List (Vec ℤ Global)) (i : ℕ) → Every (λ r. ¬ (entry r (last_column r) ≡ pos 0)) (rows_of xs) → last_multiple f (rows_of (drop i xs)) ≤ last_multiple f (rows_of xs)
multiple_drop f xs zero h = omega arith
multiple_drop f [] (suc i) h = omega arith
multiple_drop f (x ∷ xs) (suc i) h =
    let a : last_multiple f (rows_of (drop i xs)) ≤ last_multiple f (rows_of xs) = multiple_drop f xs i h.1 in
    let b : last_multiple f (rows_of xs) ≤ last_multiple f (x.items ∷ rows_of xs) = multiple_above f x.items (rows_of xs) h.0 in
    omega (arith, a, b)

-- ---- one entry

pub entry_free : (f j : ℕ) (kept : List Row) → j ≡ f → pos (last_multiple f kept) ≡ solution_at f kept j
entry_free f j kept e = ap (λ b. cond b (pos (last_multiple f kept)) (answer_of f (last_multiple f kept) (ending_at j kept))) (sym (ap (λ x. x == f) e ∙ itself_test f))

pub entry_ending : (f j : ℕ) (kept : List Row) (o : Option Row) → ¬ (j ≡ f) → ending_at j kept ≡ o → answer_of f (last_multiple f kept) o ≡ solution_at f kept j
entry_ending f j kept o n e =
    ap (answer_of f (last_multiple f kept)) (sym e) ∙ ap (λ b. cond b (pos (last_multiple f kept)) (answer_of f (last_multiple f kept) (ending_at j kept))) (sym (apart_test j f n))

-- what an answer says of a value
abbrev pub IsAnswer : ℤ → Option ℤ → Type 0
IsAnswer z o = MatchOption o (number_limit ≤ unsigned_abs z) (λ w. (w ≡ z) × FitsNumber z)

pub answered_entry : (f j m : ℕ) (kept : List (Vec ℤ Global)) (p : Vec ℤ Global) (x y : ℤ) (r : Option ℤ) → m ≡ last_multiple f (rows_of kept) → ¬ (j ≡ f) → ending_at j (rows_of kept) ≡ Some p.items → last_column p.items ≡ j
    → entry p.items f ≡ x → entry p.items j ≡ y → IsAnswer (neg_ℤ (x *ℤ int_div (pos m) y)) r → IsAnswer (solution_at f (rows_of kept) j) r
answered_entry f j m kept p x y r least apart is end ex ey s = subst (λ z. IsAnswer z r) value s
  where
    value : neg_ℤ (x *ℤ int_div (pos m) y) ≡ solution_at f (rows_of kept) j
    value = (λ i. neg_ℤ (sym ex i *ℤ int_div (pos (least i)) ((sym ey ∙ ap (entry p.items) (sym end)) i))) ∙ entry_ending f j (rows_of kept) (Some p.items) apart is

-- the last entry of a kept row with an entry in column f divides the multiple
pub ending_divides : (f j m columns : ℕ) (kept : List (Vec ℤ Global)) (p : Vec ℤ Global) (x y : ℤ) → m ≡ last_multiple f (rows_of kept) → ending_at j (rows_of kept) ≡ Some p.items → last_column p.items ≡ j → entry p.items f ≡ x → entry p.items j ≡ y → ¬ (x ≡ pos 0) → unsigned_abs y ∣ m
ending_divides f j m columns kept p x y least is end ex ey n =
    let d : Divides f (last_multiple f (rows_of kept)) p.items = subst (Into (Divides f (last_multiple f (rows_of kept)))) is (ending_at_into (Divides f (last_multiple f (rows_of kept))) j (rows_of kept) (multiple_divides f (rows_of kept))) in
    subst₂ (λ a b. unsigned_abs a ∣ b) (ap (entry p.items) end ∙ ey) (sym least) (d (λ z. n (sym ex ∙ z)))

-- ---- one solution
abbrev AllFit : Row → Type 0
AllFit r = AreWithin (map unsigned_abs r)

all_fit-append : (xs : Row) (y : ℤ) → AllFit xs → FitsNumber y → AllFit (xs ++ y ∷ [])
all_fit-append [] y h k = (k, tt)
all_fit-append (x ∷ xs) y h k = (h.0, all_fit-append xs y h.1 k)

pub entry_fits : (r : Row) → AreWithin (map unsigned_abs r) → (k : ℕ) → FitsNumber (entry r k)
entry_fits [] h k = omega arith
entry_fits (x ∷ r) h zero = h.0
entry_fits (x ∷ r) h (suc k) = entry_fits r h.1 k

pub record Filling (f columns : ℕ) (kept : List Row) (j : ℕ) (out : Row) : Type 0 where
  pub left : ℕ
  pub sum : left + j ≡ columns
  pub made : out ++ row_from (solution_at f kept) left j ≡ solution_row columns kept f
  pub fits : AreWithin (map unsigned_abs out)

pub filling_start : (f columns : ℕ) (kept : List Row) → Filling f columns kept 0 []
filling_start f columns kept = record { left = columns; sum = omega arith; made = refl; fits = tt }

pub filling_more : (f columns : ℕ) (kept : List Row) (j : ℕ) (out : Row) (y : ℤ) → Filling f columns kept j out → j < columns → y ≡ solution_at f kept j → FitsNumber (solution_at f kept j) → Filling f columns kept (j + 1) (out ++ y ∷ [])
filling_more f columns kept j out y s l e h = go s.left s.sum s.made
  where
    go : (n : ℕ) → n + j ≡ columns → out ++ row_from (solution_at f kept) n j ≡ solution_row columns kept f → Filling f columns kept (j + 1) (out ++ y ∷ [])
    go zero a b = absurd (omega arith)
    go (suc n) a b = record {
      left = n;
      sum = omega arith;
      made = append_assoc out (y ∷ []) _ ∙ ap₂ (λ w k. out ++ (w ∷ row_from (solution_at f kept) n k)) e (add-one j) ∙ b;
      fits = all_fit-append out y s.fits (subst FitsNumber (sym e) h);
    }

pub filling_end : (f columns : ℕ) (kept : List Row) (j : ℕ) (out : Row) → columns ≤ j → Filling f columns kept j out → (out ≡ solution_row columns kept f) × AreWithin (map unsigned_abs (solution_row columns kept f))
filling_end f columns kept j out l s = let e = go s.left s.sum s.made in (e, subst AllFit e s.fits)
  where
    go : (n : ℕ) → n + j ≡ columns → out ++ row_from (solution_at f kept) n j ≡ solution_row columns kept f → out ≡ solution_row columns kept f
    go zero a b = sym (append-nil out) ∙ b
    go (suc n) a b = absurd (omega arith)

-- an entry past the limit
pub entry_past : (f columns : ℕ) (kept : List Row) (j : ℕ) → j < columns → number_limit ≤ unsigned_abs (solution_at f kept j) → ¬ (AreWithin (map unsigned_abs (solution_row columns kept f)))
entry_past f columns kept j l p w =
    let h : FitsNumber (solution_at f kept j) = subst FitsNumber (entry-row_from (solution_at f kept) columns 0 j l ∙ ap (solution_at f kept) (let e : j + 0 ≡ j = omega arith in e)) (entry_fits (solution_row columns kept f) w j) in
    let k : unsigned_abs (solution_at f kept j) < number_limit = h in
    omega arith

-- the multiple past the limit
pub multiple_past : (f columns : ℕ) (kept : List Row) → f < columns → number_limit ≤ last_multiple f kept → ¬ (AreWithin (map unsigned_abs (solution_row columns kept f)))
multiple_past f columns kept l p = entry_past f columns kept f l (subst (λ z. number_limit ≤ unsigned_abs z) (entry_free f f kept refl) p)
