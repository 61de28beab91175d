-- The steps of the solutions, column by column.
use Rattle.std.proofs.Common.{◌≡◌, ℕ, zero, suc, ◌+◌, ◌<◌, ◌≤◌, ◌↔◌, List, [], ◌++◌, refl, sym, ap, ◌∙◌, subst, subst₂, arith, add-one, append_assoc, append-nil}
use Rattle.lie_spans.specs.Rows.{Row, entry, HaveLength, IsReducedBasis}
use Rattle.lie_spans.specs.Kernel.{IsKernel}
use Rattle.lie_spans.specs.KeptRows.{AreKept, ending_at, kept_rows}
use Rattle.lie_spans.specs.Solutions.{solution_in, solution_rows, kernel_of}
use Rattle.lie_spans.specs.Bulks.{kept_bulks, solution_bulks, solutions_bulks, kernel_bulks}
use Rattle.lie_math.specs.Limits.{number_limit}
use Rattle.lie_math.proofs.EveryElement.{every-append, every-front, every-back}
use Rattle.lie_spans.proofs.KeptRows.{kernel_of_is, kept_is, kept_none}
use Rattle.lie_rows.specs.Causes.{AreWithin}

-- ---- all solutions

pub record Solved (columns : ℕ) (kept : List Row) (f : ℕ) (out : List Row) : Type 0 where
  pub left : ℕ
  pub sum : left + f ≡ columns
  pub made : out ++ solution_rows columns kept left f ≡ solution_rows columns kept columns 0
  pub fits : AreWithin (solutions_bulks columns kept left f) ↔ AreWithin (solutions_bulks columns kept columns 0)

pub solved_start : (columns : ℕ) (kept : List Row) → Solved columns kept 0 []
solved_start columns kept = record { left = columns; sum = omega arith; made = refl; fits = (λ f. f, λ f. f) }

module _ (columns : ℕ) (kept : List Row) (f : ℕ) (out : List Row) (s : Solved columns kept f out) where
  pub solved_more : (new : List Row) → f < columns → new ≡ out ++ solution_in columns kept f (ending_at f kept) → AreWithin (solution_bulks columns kept f (ending_at f kept)) → Solved columns kept (f + 1) new
  solved_more new l e h = go s.left s.sum s.made s.fits
    where
      go : (n : ℕ) → n + f ≡ columns → out ++ solution_rows columns kept n f ≡ solution_rows columns kept columns 0 → (AreWithin (solutions_bulks columns kept n f) ↔ AreWithin (solutions_bulks columns kept columns 0)) → Solved columns kept (f + 1) new
      go zero a b c = absurd (omega arith)
      go (suc n) a b c = subst₂ (λ j new'. Solved columns kept j new') (sym (add-one f)) (sym e) (record {
        left = n;
        sum = omega arith;
        made = append_assoc out (solution_in columns kept f (ending_at f kept)) (solution_rows columns kept n (suc f)) ∙ b;
        fits = (
          λ g. c.0 (every-append (λ b. b < number_limit) (solution_bulks columns kept f (ending_at f kept)) (solutions_bulks columns kept n (suc f)) h g),
          λ g. every-back (λ b. b < number_limit) (solution_bulks columns kept f (ending_at f kept)) (solutions_bulks columns kept n (suc f)) (c.1 g),
        );
      })

  pub solved_part : f < columns → AreWithin (solutions_bulks columns kept columns 0) → AreWithin (solution_bulks columns kept f (ending_at f kept))
  solved_part l g = go s.left s.sum s.fits
    where
      go : (n : ℕ) → n + f ≡ columns → (AreWithin (solutions_bulks columns kept n f) ↔ AreWithin (solutions_bulks columns kept columns 0)) → AreWithin (solution_bulks columns kept f (ending_at f kept))
      go zero a c = absurd (omega arith)
      go (suc n) a c = every-front (λ b. b < number_limit) (solution_bulks columns kept f (ending_at f kept)) (solutions_bulks columns kept n (suc f)) (c.1 g)

  pub solved_end : columns ≤ f → (out ≡ solution_rows columns kept columns 0) × AreWithin (solutions_bulks columns kept columns 0)
  solved_end l = go s.left s.sum s.made s.fits
    where
      go : (n : ℕ) → n + f ≡ columns → out ++ solution_rows columns kept n f ≡ solution_rows columns kept columns 0 → (AreWithin (solutions_bulks columns kept n f) ↔ AreWithin (solutions_bulks columns kept columns 0)) → (out ≡ solution_rows columns kept columns 0) × AreWithin (solutions_bulks columns kept columns 0)
      go zero a b c = (sym (append-nil out) ∙ b, c.0 tt)
      go (suc n) a b c = absurd (omega arith)

pub kept_is_kept : (columns : ℕ) (rows : List Row) → HaveLength columns rows → AreKept columns (kept_rows columns [] rows)
kept_is_kept columns rows h = (kept_is columns [] rows h (kept_none columns)).kept_rows

pub kernel_done : (columns : ℕ) (rows : List Row) → HaveLength columns rows → (kept : List Row) → kept ≡ kept_rows columns [] rows → AreWithin (kept_bulks columns [] rows) → (out : List Row) → (out ≡ solution_rows columns kept columns 0) × AreWithin (solutions_bulks columns kept columns 0)
    → IsReducedBasis columns (λ w. IsKernel columns rows (entry w)) out × AreWithin (kernel_bulks columns rows)
unfolding kernel_of kernel_bulks
kernel_done columns rows h kept e f out s = (
  subst (IsReducedBasis columns (λ w. IsKernel columns rows (entry w))) (sym (s.0 ∙ ap (λ k. solution_rows columns k columns 0) e)) (kernel_of_is columns rows h),
  every-append (λ b. b < number_limit) (kept_bulks columns [] rows) (solutions_bulks columns (kept_rows columns [] rows) columns 0) f (subst (λ k. AreWithin (solutions_bulks columns k columns 0)) e s.1),
)

pub kernel_part_kept : (columns : ℕ) (rows : List Row) → AreWithin (kernel_bulks columns rows) → AreWithin (kept_bulks columns [] rows)
unfolding kernel_bulks
kernel_part_kept columns rows w = every-front (λ b. b < number_limit) (kept_bulks columns [] rows) (solutions_bulks columns (kept_rows columns [] rows) columns 0) w

pub kernel_part_solutions : (columns : ℕ) (rows kept : List Row) → kept ≡ kept_rows columns [] rows → AreWithin (kernel_bulks columns rows) → AreWithin (solutions_bulks columns kept columns 0)
unfolding kernel_bulks
kernel_part_solutions columns rows kept e w =
    subst (λ ks. AreWithin (solutions_bulks columns ks columns 0)) (sym e) (every-back (λ b. b < number_limit) (kept_bulks columns [] rows) (solutions_bulks columns (kept_rows columns [] rows) columns 0) w)
