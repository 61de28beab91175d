-- The basis up to a degree from the solutions of the rows of all conditions, and why there is none.
use Rattle.std.specs.Prelude.{◌≡◌, ℕ, ◌≤◌, List, map, length}
use Rattle.std.proofs.Common.{refl, sym, subst, inl, inr}
use Rattle.std.specs.List.{AllByRecursion as Every, Any, Contains}
use Rattle.lie_math.specs.Limits.{IsWithinLimits}
use Rattle.lie_math.specs.LinearForm.{LinearForm}
use Rattle.lie_math.specs.LinearSystem.{LinearSystem, Gives}
use Rattle.lie_math.specs.Monomial.{Monomial}
use Rattle.lie_math.proofs.EveryElement.{every_contained}
use Rattle.lie_ring.specs.Causes.{IsPast}
use Rattle.lie_ring.specs.declared.failures.PastKind.{PastKind}
use Rattle.lie_ring.specs.declared.failures.PastKind.TheVariants.{Coefficient, Exponent, Terms, Order, Unknowns, Width}
use Rattle.lie_ring.specs.declared.failures.PolyFail.{PolyFail}
use Rattle.lie_ring.specs.declared.failures.PolyFail.TheVariants.{Past, NoMemory}
use Rattle.lie_systems.specs.Works.{APolynomial, ABasis, IsMadeWithin, IsWorkWithin, greatest_basis_unknown_count, greatest_column_count}
use Rattle.lie_algebra.specs.ColumnLists.{IsColumnsCause}
use Rattle.lie_rows.specs.Causes.{IsWorkCause}
use Rattle.lie_spans.specs.Bulks.{KernelMakes}
use Rattle.lie_spans.specs.Conditions.{condition_rows}
use Rattle.lie_spans.specs.FieldRows.{field_of_row}
use Rattle.lie_spans.specs.Fields.{Column, IsFieldBasis}
use Rattle.lie_spans.specs.Kernel.{IsKernel}
use Rattle.lie_spans.specs.Openings.{IsOpening, HasDegreeAtMost, AreDegreeColumns}
use Rattle.lie_spans.specs.Rows.{Row, entry, IsReducedBasis}
use Rattle.lie_spans.specs.Solutions.{kernel_of}
use Rattle.lie_spans.proofs.KeptRows.{kernel_of_is}
use Rattle.lie_spans.proofs.Openings.{degree_basis_is}
use Rattle.lie_spans.proofs.RowBasis.{one_reduced_basis}
use Rattle.lie_degree.specs.Columns.{columns_from, monomials_to}
use Rattle.lie_degree.specs.Conditions.{said_bulk, AreConditions}
use Rattle.lie_degree.specs.Works.{WidthMakes, RowsMake, NumbersMake, IsBasisWithin, IsBasisCause}
use Rattle.lie_degree.proofs.DegreeColumns.{are_degree_columns, same_columns, width_within}
use Rattle.lie_degree.specs.Said.{IsRowsCause, AreRowsWithin}
use Rattle.lie_degree.proofs.Rows.{rows_have_length, conditions_have_all, same_conditions}

-- ---- too many columns
pub columns_cause : (n d : ℕ) (T : LinearSystem) (fail : PolyFail) → IsColumnsCause fail (columns_from 0 n (monomials_to n d))
    → IsBasisCause n d T fail
columns_cause n d T (Past Width) (ks, h, l) = (ABasis n (length ks), (ks, are_degree_columns n d ks h, refl), inr l)
columns_cause n d T (Past Coefficient) h = absurd h
columns_cause n d T (Past Exponent) h = absurd h
columns_cause n d T (Past Terms) h = absurd h
columns_cause n d T (Past Order) h = absurd h
columns_cause n d T (Past Unknowns) h = absurd h
columns_cause n d T NoMemory h = tt

module _ (n d : ℕ) (T : LinearSystem) (ks : List Column) (h : AreDegreeColumns n d ks) (u : n ≤ greatest_basis_unknown_count)
    (c : length ks ≤ greatest_column_count) where
  width : IsWorkWithin (WidthMakes n d)
  width = width_within n d ks h u c

  -- ---- what is said is past a limit
  picked : {X : Type 0} (P : X → Type 0) (xs : List X) → Any P xs → (x : X) × Contains xs x × P x
  picked P xs a = (a.1, (a.0, a.2, a.3), a.4)

  said_made : (kind : PastKind) → IsRowsCause (Past kind) ks T.equations → (E : LinearForm) ×
      ((k : Column) × RowsMake n d T (APolynomial (said_bulk E k)) × IsPast kind (said_bulk E k))
  said_made kind a =
      let e = picked (λ E. Any (λ k. IsPast kind (said_bulk E k)) ks) T.equations a in
      let k = picked (λ k. IsPast kind (said_bulk e.0 k)) ks e.2 in
      (e.0, (k.0, (ks, h, (e.0, e.1, (k.0, k.1, refl))), k.2))

  pub rows_past : (fail : PolyFail) → IsRowsCause fail ks T.equations → IsBasisCause n d T fail
  rows_past (Past Coefficient) a = let r = said_made Coefficient a in (width, (APolynomial (said_bulk r.0 r.1.0), inl r.1.1, r.1.2))
  rows_past (Past Exponent) a = let r = said_made Exponent a in (width, (APolynomial (said_bulk r.0 r.1.0), inl r.1.1, r.1.2))
  rows_past (Past Terms) a = let r = said_made Terms a in (width, (APolynomial (said_bulk r.0 r.1.0), inl r.1.1, r.1.2))
  rows_past (Past Order) a = absurd ((said_made Order a).1.2)
  rows_past (Past Unknowns) a = absurd ((said_made Unknowns a).1.2)
  rows_past (Past Width) a = absurd ((said_made Width a).1.2)
  rows_past NoMemory a = tt

  module _ (cs : List (LinearForm × List Monomial)) (g : AreConditions ks T.equations cs) where
    pub solutions_past : (fail : PolyFail) → IsWorkCause fail (KernelMakes (length ks) (condition_rows ks cs)) → IsBasisCause n d T fail
    solutions_past (Past Coefficient) (b, m, p) = (width, (b, inr (ks, h, (cs, g, m)), p))
    solutions_past (Past Width) p = absurd p
    solutions_past (Past Exponent) p = absurd p
    solutions_past (Past Terms) p = absurd p
    solutions_past (Past Order) p = absurd p
    solutions_past (Past Unknowns) p = absurd p
    solutions_past NoMemory p = tt

    pub within : AreRowsWithin ks T.equations → IsWorkWithin (KernelMakes (length ks) (condition_rows ks cs)) → IsBasisWithin n d T
    within rows solutions = record { width = width; numbers = both }
      where
        both : IsWorkWithin (NumbersMake n d T)
        both b (inl (js, f, (E, e, (k, i, is)))) =
            let same : js ≡ ks = same_columns n d js ks f h in
            subst IsMadeWithin (sym is)
            (every_contained (λ k. IsWithinLimits (said_bulk E k)) ks k
            (every_contained (λ E. Every (λ k. IsWithinLimits (said_bulk E k)) ks) T.equations E rows e)
            (subst (λ xs. Contains xs k) same i))
        both b (inr (js, f, (ds, e, m))) =
            let same : js ≡ ks = same_columns n d js ks f h in
            let e' : AreConditions ks T.equations ds = subst (λ xs. AreConditions xs T.equations ds) same e in
            solutions b (subst (λ ys. KernelMakes (length ks) (condition_rows ks ys) b) (same_conditions ks T.equations ds cs e' g)
            (subst (λ xs. KernelMakes (length xs) (condition_rows xs ds) b) same m))

    pub solutions_basis : IsOpening n T → (rs : List Row) → IsReducedBasis (length ks)
        (λ w. IsKernel (length ks) (condition_rows ks cs) (entry w)) rs
        → IsFieldBasis n (λ V. Gives T V × HasDegreeAtMost d V) (map (field_of_row n ks) rs)
    solutions_basis o rs b =
        subst (λ qs. IsFieldBasis n (λ V. Gives T V × HasDegreeAtMost d V) (map (field_of_row n ks) qs))
        (sym (one_reduced_basis (length ks) (λ w. IsKernel (length ks) (condition_rows ks cs) (entry w)) rs
        (kernel_of (length ks) (condition_rows ks cs)) b
        (kernel_of_is (length ks) (condition_rows ks cs) (rows_have_length ks cs))))
        (degree_basis_is n d T o ks h cs g.equations (conditions_have_all ks T.equations cs g))
