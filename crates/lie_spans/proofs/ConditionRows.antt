-- The fields that solve equations and are 0 outside some columns: their rows are those that the rows of the equations take to 0.
use Rattle.std.specs.Prelude.{◌≡◌, ℕ, zero, suc, ◌⊎◌, Bool, true, false, cond, eqb, List, [], ◌∷◌, map, length, ℤ, pos, ◌+ℤ◌, ◌*ℤ◌}
use Rattle.std.proofs.Common.{refl, sym, ap, ap₂, subst, ◌∙◌, arith, inl, inr, ⊎_elim, true≢false, is_eq}
use Rattle.std.specs.List.{AllByRecursion as Every}
use Rattle.std.specs.Ordering.{eq_by_cmp}
use Rattle.std.specs.Cmp.{tied_itself}
use Rattle.std.proofs.lemmas.List.{length-map, get_or-map}
use mathlib.Core.Path.{fun_ext}
use lib.IntN.{*ℤ-zero, *ℤ_comm}
use Rattle.lie_math.specs.Integer.{integer_ring, *ℤ-idl}
use Rattle.lie_math.specs.FiniteSumLaws.{ext, value-none, value-plus, value-term}
use Rattle.lie_math.specs.LinearForm.{LinearForm, apply}
use Rattle.lie_math.specs.Monomial.{Monomial, monomial_cmp}
use Rattle.lie_math.specs.MonomialOrder.{monomial_cmp_total}
use Rattle.lie_math.specs.Polynomial.{WholePolynomial, terms, 0ᴾ, term, constant, coefficient, ◌+ᴾ◌, ◌*ᴾ◌}
use Rattle.lie_math.specs.VectorField.{VectorField, component}
use Rattle.lie_math.proofs.FiniteSum.{key}
use Rattle.lie_math.proofs.Weighing.{coefficient-constant_times}
use Rattle.lie_math.proofs.RingSolver.{v, c0, ◌⊕◌, ◌⊗◌, solve, listed}
use Rattle.lie_spans.specs.Rows.{Row, entry}
use Rattle.lie_spans.specs.Kernel.{dot, IsKernel}
use Rattle.lie_spans.specs.Solutions.{kernel_of}
use Rattle.lie_spans.specs.Fields.{Column, field_entry, IsFieldBasis}
use Rattle.lie_spans.specs.FieldRows.{AreColumns, field_of_row, row_of_field, IsWithinColumns}
use Rattle.lie_spans.specs.Conditions.{unknowns_of, column_alone, condition_row, condition_rows, HasAllMonomials, SolvesConditions}
use Rattle.lie_math.proofs.EveryElement.{every-append, every-front, every-back}
use Rattle.lie_spans.proofs.FieldRows.{value_in, counted, placed, value_at_place, value_elsewhere}
use Rattle.lie_spans.proofs.FieldBasis.{field_basis_of_same}
use Rattle.lie_spans.proofs.FieldsOfBasis.{kernel_of_fields}
use Rattle.lie_spans.proofs.Assignments.{apply-sum, apply-multiple, apply-nothing}

-- ---- sums of products, from the first column on
dot_first : (n : ℕ) (u w : ℕ → ℤ) → dot (suc n) u w ≡ u 0 *ℤ w 0 +ℤ dot n (λ j. u (suc j)) (λ j. w (suc j))
dot_first zero u w = solve integer_ring (listed (pos 0) (u 0 ∷ w 0 ∷ [])) (c0 ⊕ v 0 ⊗ v 1) (v 0 ⊗ v 1 ⊕ c0) refl
dot_first (suc n) u w =
    ap (λ x. x +ℤ u (suc n) *ℤ w (suc n)) (dot_first n u w)
    ∙ solve integer_ring (listed (pos 0) (u 0 ∷ w 0 ∷ dot n (λ j. u (suc j)) (λ j. w (suc j)) ∷ u (suc n) ∷ w (suc n) ∷ [])) (v 0 ⊗ v 1 ⊕ v 2 ⊕ v 3 ⊗ v 4) (v 0 ⊗ v 1 ⊕ (v 2 ⊕ v 3 ⊗ v 4)) refl

-- ---- the functions that a row puts in for the unknowns
abbrev function_of : List Column → Row → ℕ → WholePolynomial
function_of [] r f = 0ᴾ
function_of (k ∷ ks) [] f = 0ᴾ
function_of (k ∷ ks) (x ∷ r) f = constant x *ᴾ column_alone k f +ᴾ function_of ks r f

scaled_test : (x : ℤ) (t : Bool) → x *ℤ cond t (pos 1) (pos 0) ≡ cond t x (pos 0)
scaled_test x true = *ℤ_comm x (pos 1) ∙ *ℤ-idl x
scaled_test x false = *ℤ-zero x

column_number : (k : Column) (x : ℤ) (s : ℕ) (m : Monomial) → coefficient (constant x *ᴾ column_alone k (suc s)) m ≡ counted (s, m) k x
column_number k x s m =
    coefficient-constant_times x (column_alone k (suc s)) m
    ∙ (elim (eqb k.0 s) as (λ b. x *ℤ coefficient (cond b (term k.1 (pos 1)) 0ᴾ) m ≡ cond b (cond (eq_by_cmp monomial_cmp m k.1) x (pos 0)) (pos 0)) [
      | true ↦ ap (λ z. x *ℤ z) (value-term terms k.1 (pos 1) m) ∙ scaled_test x (eq_by_cmp monomial_cmp m k.1)
      | false ↦ ap (λ z. x *ℤ z) (value-none terms m) ∙ *ℤ-zero x
    ])

function_number : (ks : List Column) (r : Row) (s : ℕ) (m : Monomial) → coefficient (function_of ks r (suc s)) m ≡ value_in ks r (s, m)
function_number [] r s m = value-none terms m
function_number (k ∷ ks) [] s m = value-none terms m
function_number (k ∷ ks) (x ∷ r) s m = value-plus terms (constant x *ᴾ column_alone k (suc s)) (function_of ks r (suc s)) m ∙ ap₂ ◌+ℤ◌ (column_number k x s m) (function_number ks r s m)

function_none : (ks : List Column) (r : Row) (m : Monomial) → coefficient (function_of ks r zero) m ≡ pos 0
function_none [] r m = value-none terms m
function_none (k ∷ ks) [] m = value-none terms m
function_none (k ∷ ks) (x ∷ r) m =
    value-plus terms (constant x *ᴾ 0ᴾ) (function_of ks r zero) m
    ∙ ap₂ ◌+ℤ◌ (coefficient-constant_times x 0ᴾ m ∙ ap (λ z. x *ℤ z) (value-none terms m) ∙ *ℤ-zero x) (function_none ks r m)

-- what an equation says of them
says : (ks : List Column) (E : LinearForm) (m : Monomial) (r : Row) → length r ≡ length ks → coefficient (apply (function_of ks r) E) m ≡ dot (length ks) (entry (condition_row ks E m)) (entry r)
says [] E m r l = ap (λ p. coefficient p m) (apply-nothing E) ∙ value-none terms m
says (k ∷ ks) E m [] l = absurd (omega arith)
says (k ∷ ks) E m (x ∷ r) l =
    ap (λ p. coefficient p m) (apply-sum (λ f. constant x *ᴾ column_alone k f) (function_of ks r) E)
    ∙ value-plus terms (apply (λ f. constant x *ᴾ column_alone k f) E) (apply (function_of ks r) E) m
    ∙ ap₂ ◌+ℤ◌
    (ap (λ p. coefficient p m) (apply-multiple x (column_alone k) E) ∙ coefficient-constant_times x (apply (column_alone k) E) m ∙ *ℤ_comm x (coefficient (apply (column_alone k) E) m))
    (says ks E m r (omega arith))
    ∙ sym (dot_first (length ks) (entry (condition_row (k ∷ ks) E m)) (entry (x ∷ r)))

-- ---- all monomials
same_or_other : (m x : Monomial) → (x ≡ m) ⊎ ¬ (x ≡ m)
same_or_other m x = elim (eq_by_cmp monomial_cmp x m) as (λ t. eq_by_cmp monomial_cmp x m ≡ t → (x ≡ m) ⊎ ¬ (x ≡ m)) [
  | true ↦ λ e. inl (key terms x m e)
  | false ↦ λ e. inr (λ q. true≢false (sym (ap (λ y. eq_by_cmp monomial_cmp y m) q ∙ ap is_eq (tied_itself monomial_cmp_total m)) ∙ e))
] refl

-- a monomial is among some, and has what these have, or it is none of them
met : (P : Monomial → Type 0) (ms : List Monomial) → Every P ms → (m : Monomial) → P m ⊎ Every (λ x. ¬ (x ≡ m)) ms
met P [] h m = inr tt
met P (x ∷ ms) h m = ⊎_elim (λ e. inl (subst P e h.0)) (λ n. ⊎_elim (λ p. inl p) (λ q. inr (n, q)) (met P ms h.1 m)) (same_or_other m x)

dot_nothing : (n : ℕ) (u w : ℕ → ℤ) → ((j : ℕ) → u j ≡ pos 0) → dot n u w ≡ pos 0
dot_nothing zero u w h = refl
dot_nothing (suc n) u w h = ap₂ (λ x y. x +ℤ y *ℤ w n) (dot_nothing n u w h) (h n) ∙ solve integer_ring (listed (pos 0) (w n ∷ [])) (c0 ⊕ c0 ⊗ v 0) c0 refl

row_nothing : (ks : List Column) (E : LinearForm) (m : Monomial) → Every (λ k. coefficient (apply (column_alone k) E) m ≡ pos 0) ks → (j : ℕ) → entry (condition_row ks E m) j ≡ pos 0
row_nothing [] E m h j = refl
row_nothing (k ∷ ks) E m h zero = h.0
row_nothing (k ∷ ks) E m h (suc j) = row_nothing ks E m h.1 j

module _ (n : ℕ) (ks : List Column) (h : AreColumns n ks) (W : VectorField) (w : IsWithinColumns ks W) where
  same_functions : (f : ℕ) → unknowns_of W f ≡ function_of ks (row_of_field ks W) f
  same_functions zero = ext terms 0ᴾ (function_of ks (row_of_field ks W) zero) (λ m. value-none terms m ∙ sym (function_none ks (row_of_field ks W) m))
  same_functions (suc s) = ext terms (component W s) (function_of ks (row_of_field ks W) (suc s)) (λ m. sym (function_number ks (row_of_field ks W) s m ∙ ⊎_elim
      (λ p. value_at_place ks (row_of_field ks W) p.0 (s, m) h.rising (length-map ks (field_entry W)) p.1 p.2 ∙ get_or-map (field_entry W) ks p.0 (s, m) (pos 0) p.1 ∙ ap (field_entry W) (sym p.2))
      (λ q. value_elsewhere ks (row_of_field ks W) (s, m) q ∙ sym (w (s, m) q))
      (placed ks (s, m))))

  number_said : (E : LinearForm) (m : Monomial) → coefficient (apply (unknowns_of W) E) m ≡ dot (length ks) (entry (condition_row ks E m)) (entry (row_of_field ks W))
  number_said E m = ap (λ F. coefficient (apply F E) m) (fun_ext same_functions) ∙ says ks E m (row_of_field ks W) (length-map ks (field_entry W))

  -- one equation, at its monomials
  rows_of_solution : (E : LinearForm) (ms : List Monomial) → apply (unknowns_of W) E ≡ 0ᴾ → IsKernel (length ks) (map (condition_row ks E) ms) (entry (row_of_field ks W))
  rows_of_solution E [] e = tt
  rows_of_solution E (m ∷ ms) e = (sym (number_said E m) ∙ ap (λ p. coefficient p m) e ∙ value-none terms m, rows_of_solution E ms e)

  rows_at : (E : LinearForm) (ms : List Monomial) → IsKernel (length ks) (map (condition_row ks E) ms) (entry (row_of_field ks W)) → Every (λ m. coefficient (apply (unknowns_of W) E) m ≡ pos 0) ms
  rows_at E [] k = tt
  rows_at E (m ∷ ms) k = (number_said E m ∙ k.0, rows_at E ms k.1)

  solution_of_rows : (c : LinearForm × List Monomial) → HasAllMonomials ks c → IsKernel (length ks) (map (condition_row ks c.0) c.1) (entry (row_of_field ks W)) → apply (unknowns_of W) c.0 ≡ 0ᴾ
  solution_of_rows c a k = ext terms (apply (unknowns_of W) c.0) 0ᴾ (λ m. ⊎_elim
      (λ p. p)
      (λ q. number_said c.0 m ∙ dot_nothing (length ks) (entry (condition_row ks c.0 m)) (entry (row_of_field ks W)) (row_nothing ks c.0 m (a m q)))
      (met (λ x. coefficient (apply (unknowns_of W) c.0) x ≡ pos 0) c.1 (rows_at c.0 c.1 k) m) ∙ sym (value-none terms m))

  -- all equations
  abbrev Zero : Row → Type 0
  Zero r = dot (length ks) (entry r) (entry (row_of_field ks W)) ≡ pos 0

  all_rows : (cs : List (LinearForm × List Monomial)) → SolvesConditions cs W → IsKernel (length ks) (condition_rows ks cs) (entry (row_of_field ks W))
  all_rows [] s = tt
  all_rows (c ∷ cs) s = every-append Zero (map (condition_row ks c.0) c.1) (condition_rows ks cs) (rows_of_solution c.0 c.1 s.0) (all_rows cs s.1)

  all_solutions : (cs : List (LinearForm × List Monomial)) → Every (HasAllMonomials ks) cs → IsKernel (length ks) (condition_rows ks cs) (entry (row_of_field ks W)) → SolvesConditions cs W
  all_solutions [] a k = tt
  all_solutions (c ∷ cs) a k = (
    solution_of_rows c a.0 (every-front Zero (map (condition_row ks c.0) c.1) (condition_rows ks cs) k),
    all_solutions cs a.1 (every-back Zero (map (condition_row ks c.0) c.1) (condition_rows ks cs) k),
  )

condition_lengths : (ks : List Column) (cs : List (LinearForm × List Monomial)) → Every (λ r. length r ≡ length ks) (condition_rows ks cs)
condition_lengths ks [] = tt
condition_lengths ks (c ∷ cs) = every-append (λ r. length r ≡ length ks) (map (condition_row ks c.0) c.1) (condition_rows ks cs) (one c.1) (condition_lengths ks cs)
  where
    one : (ms : List Monomial) → Every (λ r. length r ≡ length ks) (map (condition_row ks c.0) ms)
    one [] = tt
    one (m ∷ ms) = (length-map ks (λ k. coefficient (apply (column_alone k) c.0) m), one ms)

-- the fields of the solutions are the reduced basis of the fields that are 0 outside the columns and solve the equations
pub conditions_are : (n : ℕ) (ks : List Column) → AreColumns n ks → (cs : List (LinearForm × List Monomial)) → Every (HasAllMonomials ks) cs
    → IsFieldBasis n (λ W. IsWithinColumns ks W × SolvesConditions cs W) (map (field_of_row n ks) (kernel_of (length ks) (condition_rows ks cs)))
conditions_are n ks h cs a =
    field_basis_of_same n (λ W. IsWithinColumns ks W × IsKernel (length ks) (condition_rows ks cs) (entry (row_of_field ks W))) (λ W. IsWithinColumns ks W × SolvesConditions cs W) (map (field_of_row n ks) (kernel_of (length ks) (condition_rows ks cs)))
    (λ W f. (λ k. (k.0, all_solutions n ks h W k.0 cs a k.1), λ s. (s.0, all_rows n ks h W s.0 cs s.1)))
    (kernel_of_fields n ks h (condition_rows ks cs) (condition_lengths ks cs))
