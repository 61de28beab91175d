-- The steps of clearing a column of rows.
use Rattle.std.proofs.Common.{◌≡◌, ℕ, zero, suc, ◌+◌, ◌<◌, ◌≤◌, ◌↔◌, List, [], ◌∷◌, ◌++◌, length, get_or, refl, sym, ap, ◌∙◌, subst, arith, append_assoc, append-nil, ℤ, pos, cond, Some, None, Vec, Global}
use Rattle.std.specs.Prelude.{remove}
use Rattle.std.specs.List.{AllByRecursion as Every}
use Rattle.lie_math.specs.Integer.{is_zero_int}
use Rattle.lie_spans.specs.Rows.{Row, entry, HaveLength}
use Rattle.lie_math.specs.Limits.{number_limit}
use Rattle.lie_math.proofs.EveryElement.{every-append, every-front, every-back}
use Rattle.lie_spans.specs.Bulks.{elimination_bulks, clearing_bulks, column_bulks}
use Rattle.lie_spans.specs.Elimination.{cleared_row, cleared_rows, found_after, first_with, column_cleared}
use Rattle.lie_spans.proofs.FirstWith.{Told, first_with_told}
use Rattle.lie_rows.specs.Causes.{AreWithin}
use Rattle.lie_rows.specs.Rows.{rows_of, row_at}
use Rattle.lie_rows.proofs.RowLoops.{not_zero_test}
use Rattle.lie_rows.proofs.RowLists.{row_at_is, every_row_at}

-- ---- the rows that are cleared

-- some are done, and the rest is to come
pub record Clearing (p : Row) (k : ℕ) (all rest out : List Row) : Type 0 where
  pub lengths : HaveLength (length p) rest
  pub made : out ++ cleared_rows p k rest ≡ cleared_rows p k all
  pub fits : AreWithin (clearing_bulks p k rest) ↔ AreWithin (clearing_bulks p k all)

pub clearing_start : (p : Row) (k : ℕ) (all : List Row) → HaveLength (length p) all → Clearing p k all all []
clearing_start p k all h = record { lengths = h; made = refl; fits = (λ f. f, λ f. f) }

module _ (p : Row) (k : ℕ) (all rest out : List Row) (s : Clearing p k all rest out) where
  module _ (x : Row) (ys : List Row) (e : rest ≡ x ∷ ys) where
    here : Clearing p k all (x ∷ ys) out
    here = subst (λ rs. Clearing p k all rs out) e s

    pub clearing_length : length p ≡ length x
    clearing_length = sym here.lengths.0

    pub clearing_part : AreWithin (clearing_bulks p k all) → AreWithin (elimination_bulks p k x)
    clearing_part w = every-front (λ b. b < number_limit) (elimination_bulks p k x) (clearing_bulks p k ys) (here.fits.1 w)

    pub clearing_more : (new : List Row) → new ≡ out ++ cleared_row p k x → AreWithin (elimination_bulks p k x) → Clearing p k all ys new
    clearing_more new n f = record {
      lengths = here.lengths.1;
      made = ap (λ rs. rs ++ cleared_rows p k ys) n ∙ append_assoc out (cleared_row p k x) (cleared_rows p k ys) ∙ here.made;
      fits = (
        λ g. here.fits.0 (every-append (λ b. b < number_limit) (elimination_bulks p k x) (clearing_bulks p k ys) f g),
        λ g. every-back (λ b. b < number_limit) (elimination_bulks p k x) (clearing_bulks p k ys) (here.fits.1 g),
      );
    }

  pub clearing_end : rest ≡ [] → (out ≡ cleared_rows p k all) × AreWithin (clearing_bulks p k all)
  clearing_end e =
      let t : Clearing p k all [] out = subst (λ rs. Clearing p k all rs out) e s in
      (sym (append-nil out) ∙ t.made, t.fits.0 tt)

-- ---- the first row with an entry

pub first_with_at : (k : ℕ) (xs : List (Vec ℤ Global)) (i : ℕ) → i < length xs → ((j : ℕ) → j < i → entry (row_at xs j) k ≡ pos 0) → ¬ (entry (row_at xs i) k ≡ pos 0) → first_with k (rows_of xs) ≡ Some (row_at xs i, rows_of (remove xs i))
first_with_at k [] i h b n = absurd (omega arith)
first_with_at k (x ∷ xs) zero h b n = ap (λ t. cond t (found_after x.items (first_with k (rows_of xs))) (Some (x.items, rows_of xs))) (not_zero_test (entry x.items k) n)
first_with_at k (x ∷ xs) (suc i) h b n =
    ap (λ t. cond t (found_after x.items (first_with k (rows_of xs))) (Some (x.items, rows_of xs))) (ap is_zero_int (b 0 (omega arith)))
    ∙ ap (found_after x.items) (first_with_at k xs i (omega arith) (λ j l. b (suc j) (omega arith)) n)

pub first_with_none : (k : ℕ) (xs : List (Vec ℤ Global)) → ((j : ℕ) → j < length xs → entry (row_at xs j) k ≡ pos 0) → first_with k (rows_of xs) ≡ None
first_with_none k [] b = refl
first_with_none k (x ∷ xs) b =
    ap (λ t. cond t (found_after x.items (first_with k (rows_of xs))) (Some (x.items, rows_of xs))) (ap is_zero_int (b 0 (omega arith)))
    ∙ ap (found_after x.items) (first_with_none k xs (λ j l. b (suc j) (omega arith)))

pub first_with_counts : (k : ℕ) (xs : List (Vec ℤ Global)) (q : Row × List Row) → first_with k (rows_of xs) ≡ Some q → ¬ (entry q.0 k ≡ pos 0)
first_with_counts k xs q e = subst (Told k (rows_of xs)) e (first_with_told k (rows_of xs))

pub every_remove : (P : Row → Type 0) (xs : List (Vec ℤ Global)) (i : ℕ) → Every P (rows_of xs) → Every P (rows_of (remove xs i))
every_remove P [] zero h = tt
every_remove P [] (suc i) h = tt
every_remove P (x ∷ xs) zero h = h.1
every_remove P (x ∷ xs) (suc i) h = (h.0, every_remove P xs i h.1)

-- ---- one column

-- the first row with an entry stands at place i
abbrev pub IsFirst : ℕ → ℕ → List (Vec ℤ Global) → Type 0
IsFirst k i xs = (i < length xs) × (first_with k (rows_of xs) ≡ Some (row_at xs i, rows_of (remove xs i)))

module _ (k columns : ℕ) (ds xs : List (Vec ℤ Global)) (i : ℕ) (p : Vec ℤ Global) (found : IsFirst k i xs) (e : p ≡ get_or xs i p) (hd : HaveLength columns (rows_of ds)) (hx : HaveLength columns (rows_of xs)) (inside : k < columns) where
  pivot_items : row_at xs i ≡ p.items
  pivot_items = row_at_is xs i p found.0 e

  length_pivot : length p.items ≡ columns
  length_pivot = ap length (sym pivot_items) ∙ every_row_at (λ r. length r ≡ columns) xs i found.0 hx

  picks : first_with k (rows_of xs) ≡ Some (p.items, rows_of (remove xs i))
  picks = found.1 ∙ ap (λ r. Some (r, rows_of (remove xs i))) pivot_items

  pub column_inside : k < length p.items
  column_inside = omega (arith, length_pivot)

  pub column_counts : ¬ (entry p.items k ≡ pos 0)
  column_counts = first_with_counts k xs (p.items, rows_of (remove xs i)) picks

  pub column_done : HaveLength (length p.items) (rows_of ds)
  column_done = subst (λ n. HaveLength n (rows_of ds)) (sym length_pivot) hd

  pub column_rest : HaveLength (length p.items) (rows_of (remove xs i))
  column_rest = subst (λ n. HaveLength n (rows_of (remove xs i))) (sym length_pivot) (every_remove (λ r. length r ≡ columns) xs i hx)

  both : AreWithin (column_bulks k (rows_of ds) (first_with k (rows_of xs))) → AreWithin (clearing_bulks p.items k (rows_of ds) ++ clearing_bulks p.items k (rows_of (remove xs i)))
  both w = subst (λ o. AreWithin (column_bulks k (rows_of ds) o)) picks w

  pub column_part_done : AreWithin (column_bulks k (rows_of ds) (first_with k (rows_of xs))) → AreWithin (clearing_bulks p.items k (rows_of ds))
  column_part_done w = every-front (λ b. b < number_limit) (clearing_bulks p.items k (rows_of ds)) (clearing_bulks p.items k (rows_of (remove xs i))) (both w)

  pub column_part_rest : AreWithin (column_bulks k (rows_of ds) (first_with k (rows_of xs))) → AreWithin (clearing_bulks p.items k (rows_of (remove xs i)))
  column_part_rest w = every-back (λ b. b < number_limit) (clearing_bulks p.items k (rows_of ds)) (clearing_bulks p.items k (rows_of (remove xs i))) (both w)

  pub column_fits : AreWithin (clearing_bulks p.items k (rows_of ds)) → AreWithin (clearing_bulks p.items k (rows_of (remove xs i))) → AreWithin (column_bulks k (rows_of ds) (first_with k (rows_of xs)))
  column_fits f g = subst (λ o. AreWithin (column_bulks k (rows_of ds) o)) (sym picks) (every-append (λ b. b < number_limit) (clearing_bulks p.items k (rows_of ds)) (clearing_bulks p.items k (rows_of (remove xs i))) f g)

  pub column_items : (done left new : List Row) → done ≡ cleared_rows p.items k (rows_of ds) → new ≡ done ++ p.items ∷ [] → left ≡ cleared_rows p.items k (rows_of (remove xs i)) → ◌≡◌ {A = List Row × List Row} (new, left) (column_cleared k (rows_of ds) (rows_of xs) (first_with k (rows_of xs)))
  column_items done left new a b c =
      let firsts : new ≡ cleared_rows p.items k (rows_of ds) ++ p.items ∷ [] = b ∙ ap (λ rs. rs ++ p.items ∷ []) a in
      let both : ◌≡◌ {A = List Row × List Row} (new, left) (cleared_rows p.items k (rows_of ds) ++ p.items ∷ [], cleared_rows p.items k (rows_of (remove xs i))) = λ j. (firsts j, c j) in
      both ∙ ap (column_cleared k (rows_of ds) (rows_of xs)) (sym picks)
