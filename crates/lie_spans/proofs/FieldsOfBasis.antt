-- The fields of the rows of a reduced basis are a reduced basis of fields.
use Rattle.std.specs.Prelude.{◌≡◌, ℕ, zero, suc, ◌<◌, ◌≤◌, ◌↔◌, List, [], ◌∷◌, map, length, get_or, ℤ, pos, ◌+ℤ◌, ◌*ℤ◌, ◌<ℤ◌, unsigned_abs}
use Rattle.std.proofs.Common.{refl, sym, ap, ap₂, subst, ◌∙◌, arith, ⊎_elim}
use Rattle.std.specs.List.{AllByRecursion as Every}
use Rattle.std.proofs.lemmas.Bool.{cases_lt}
use Rattle.std.proofs.lemmas.List.{get_or-map, length-map}
use Rattle.std.proofs.Math.Nat.{dvd-zero}
use Prim.Native.Nat.{◌∣◌}
use Rattle.lie_math.specs.Integer.{integer_ring}
use Rattle.lie_math.specs.VectorField.{VectorField}
use Rattle.lie_math.proofs.Integer.{not_zero, no_zero_divisors_ℤ}
use Rattle.lie_math.proofs.RingSolver.{v, c0, ◌⊗◌, solve, listed}
use Rattle.lie_spans.specs.Spans.{EveryTwo, combination, IsSpanned}
use Rattle.lie_spans.specs.Reduced.{HasNoCommonDivisor, IsPivot, IsApart, IsReduced}
use Rattle.lie_spans.specs.Rows.{Row, entry, IsReducedBasis}
use Rattle.lie_spans.specs.Fields.{Column, column_before, field_entry, IsFieldIn, IsCombination, IsFieldBasis}
use Rattle.lie_spans.specs.FieldRows.{AreColumns, field_of_row, row_of_field, IsWithinColumns}
use Rattle.lie_math.proofs.EveryElement.{every-weaken, every_both, every_at, every-map}
use Rattle.lie_spans.proofs.Lists.{every_all, every_two-map, every_two-weaken}
use Rattle.lie_spans.proofs.Spans.{combination_vanishes}
use Rattle.lie_spans.proofs.Reduced.{positive_not_zero}
use Rattle.lie_spans.proofs.Clearing.{entry_past_end}
use Rattle.lie_spans.proofs.FieldBasis.{column_trans, neither_before, combination_is_spanned, spanned_is_combination}
use Rattle.lie_spans.specs.Elimination.{basis_of}
use Rattle.lie_spans.specs.Kernel.{IsKernel}
use Rattle.lie_spans.specs.Solutions.{kernel_of}
use Rattle.lie_spans.proofs.Elimination.{basis_of_is}
use Rattle.lie_spans.proofs.KeptRows.{kernel_of_is}
use Rattle.lie_spans.proofs.FieldRows.{placed, entry_elsewhere, entry_at_place, field_of_is, less_apart}

-- ---- the places of columns
rising_at : (ks : List Column) → EveryTwo column_before ks → (i j : ℕ) (c k : Column) → i < j → j < length ks → c ≡ get_or ks i c → k ≡ get_or ks j k → column_before c k
rising_at [] h i j c k l m e f = absurd (omega arith)
rising_at (d ∷ ks) h zero zero c k l m e f = absurd (omega arith)
rising_at (d ∷ ks) h zero (suc j) c k l m e f = subst (λ x. column_before x k) (sym e) (every_at (column_before d) ks j k (omega arith) f h.0)
rising_at (d ∷ ks) h (suc i) zero c k l m e f = absurd (omega arith)
rising_at (d ∷ ks) h (suc i) (suc j) c k l m e f = rising_at ks h.1 i j c k (omega arith) (omega arith) e f

-- the column at a place
column_at : (ks : List Column) (i : ℕ) → i < length ks → (c : Column) × (c ≡ get_or ks i c)
column_at [] i l = absurd (omega arith)
column_at (d ∷ ks) zero l = (d, refl)
column_at (d ∷ ks) (suc i) l = column_at ks i (omega arith)

same_place : (ks : List Column) (i : ℕ) (c k : Column) → i < length ks → c ≡ get_or ks i c → k ≡ get_or ks i k → c ≡ k
same_place [] i c k l e f = absurd (omega arith)
same_place (d ∷ ks) zero c k l e f = e ∙ sym f
same_place (d ∷ ks) (suc i) c k l e f = same_place ks i c k (omega arith) e f

not_itself : (k : Column) → ¬ (column_before k k)
not_itself k l = less_apart k k l refl

module _ (n : ℕ) (ks : List Column) (h : AreColumns n ks) where
  -- ---- one row
  module _ (r : Row) (l : length r ≡ length ks) where
    primitive_field : HasNoCommonDivisor entry r → HasNoCommonDivisor field_entry (field_of_row n ks r)
    primitive_field p d f = p d (λ i. ⊎_elim
        (λ m. let c = column_at ks i m in subst (λ x. d ∣ unsigned_abs x) (entry_at_place n ks h r l i c.0 m c.1) (f c.0))
        (λ m. subst (λ x. d ∣ unsigned_abs x) (sym (entry_past_end r i (omega (arith, l)))) (dvd-zero d))
        (cases_lt i (length ks)))

    -- a pivot of the row stands at a place, and its column is the pivot of the field
    pivot_inside : (i : ℕ) → IsPivot entry ◌<◌ r i → i < length ks
    pivot_inside i p = ⊎_elim (λ m. m) (λ m. absurd (positive_not_zero (entry r i) p.positive (entry_past_end r i (omega (arith, l))))) (cases_lt i (length ks))

    pivot_field : (i : ℕ) (c : Column) → c ≡ get_or ks i c → IsPivot entry ◌<◌ r i → IsPivot field_entry column_before (field_of_row n ks r) c
    pivot_field i c e p = record {
      positive = subst (λ x. pos 0 <ℤ x) (sym (entry_at_place n ks h r l i c (pivot_inside i p) e)) p.positive;
      first = λ k b. ⊎_elim
          (λ q. entry_at_place n ks h r l q.0 k q.1 q.2 ∙ p.first q.0 (lower k q.0 q.1 q.2 b))
          (λ q. entry_elsewhere n ks h r k q)
          (placed ks k);
    }
      where
        lower : (k : Column) (j : ℕ) → j < length ks → k ≡ get_or ks j k → column_before k c → j < i
        lower k j m f b = ⊎_elim (λ a. a)
            (λ a. ⊎_elim
            (λ x. absurd (not_itself k (column_trans k c k b (rising_at ks h.rising i j c k x m e f))))
            (λ x. let y : j ≡ i = omega arith in absurd (less_apart k c b (same_place ks i k c (pivot_inside i p) (subst (λ z. k ≡ get_or ks z k) y f) e)))
            (cases_lt i j))
            (cases_lt j i)

  one_pivot : (V : VectorField) (j k : Column) → IsPivot field_entry column_before V j → IsPivot field_entry column_before V k → j ≡ k
  one_pivot V j k p q = neither_before j k (λ b. positive_not_zero (field_entry V j) p.positive (q.first j b)) (λ b. positive_not_zero (field_entry V k) q.positive (p.first k b))

  -- ---- all rows
  abbrev Known : Row → Type 0
  Known r = (length r ≡ length ks) × ((i : ℕ) × IsPivot entry ◌<◌ r i)

  abbrev RowsApart : Row → Row → Type 0
  RowsApart r s = (i j : ℕ) → IsPivot entry ◌<◌ r i → IsPivot entry ◌<◌ s j → IsApart entry ◌<◌ r s i j

  abbrev FieldsApart : VectorField → VectorField → Type 0
  FieldsApart V W = (j k : Column) → IsPivot field_entry column_before V j → IsPivot field_entry column_before W k → IsApart field_entry column_before V W j k

  apart_fields : (r s : Row) → Known r → Known s → RowsApart r s → FieldsApart (field_of_row n ks r) (field_of_row n ks s)
  apart_fields r s kr ks' a j k p q =
      let i = kr.1.0 in
      let m = ks'.1.0 in
      let li : i < length ks = pivot_inside r kr.0 i kr.1.1 in
      let lm : m < length ks = pivot_inside s ks'.0 m ks'.1.1 in
      let c = column_at ks i li in
      let d = column_at ks m lm in
      let ej : c.0 ≡ j = one_pivot (field_of_row n ks r) c.0 j (pivot_field r kr.0 i c.0 c.1 kr.1.1) p in
      let ek : d.0 ≡ k = one_pivot (field_of_row n ks s) d.0 k (pivot_field s ks'.0 m d.0 d.1 ks'.1.1) q in
      let b = a i m kr.1.1 ks'.1.1 in
      record {
        rise = subst (λ x. column_before x k) ej (subst (column_before c.0) ek (rising_at ks h.rising i m c.0 d.0 b.rise lm c.1 d.1));
        left = ap (field_entry (field_of_row n ks r)) (sym ek) ∙ entry_at_place n ks h r kr.0 m d.0 lm d.1 ∙ b.left;
        right = ap (field_entry (field_of_row n ks s)) (sym ej) ∙ entry_at_place n ks h s ks'.0 i c.0 li c.1 ∙ b.right;
      }

  module _ (rs : List Row) (lengths : Every (λ r. length r ≡ length ks) rs) where
    pub reduced_fields : IsReduced entry ◌<◌ rs → IsReduced field_entry column_before (map (field_of_row n ks) rs)
    reduced_fields g =
        let known : Every Known rs = every_both (λ r. length r ≡ length ks) (λ r. (i : ℕ) × IsPivot entry ◌<◌ r i) Known (λ r a b. (a, b)) rs lengths g.pivots in
        record {
          primitive = every-map (HasNoCommonDivisor field_entry) (field_of_row n ks) rs (every_both (λ r. length r ≡ length ks) (HasNoCommonDivisor entry) (λ r. HasNoCommonDivisor field_entry (field_of_row n ks r)) (λ r l p. primitive_field r l p) rs lengths g.primitive);
          pivots = every-map (λ V. (k : Column) × IsPivot field_entry column_before V k) (field_of_row n ks) rs
              (every-weaken Known (λ r. (k : Column) × IsPivot field_entry column_before (field_of_row n ks r) k)
              (λ r a. let c = column_at ks a.1.0 (pivot_inside r a.0 a.1.0 a.1.1) in (c.0, pivot_field r a.0 a.1.0 c.0 c.1 a.1.1)) rs known);
          apart = every_two-map (field_of_row n ks) FieldsApart rs (every_two-weaken Known RowsApart (λ r s. FieldsApart (field_of_row n ks r) (field_of_row n ks s)) apart_fields rs known g.apart);
        }

    -- ---- combinations
    combination_at : (c : ℕ → ℤ) (ss : List Row) → Every (λ r. length r ≡ length ks) ss → (i : ℕ) (k : Column) → i < length ks → k ≡ get_or ks i k → combination field_entry c (map (field_of_row n ks) ss) k ≡ combination entry c ss i
    combination_at c [] a i k m e = refl
    combination_at c (r ∷ ss) a i k m e = ap₂ (λ x y. c 0 *ℤ x +ℤ y) (entry_at_place n ks h r a.0 i k m e) (combination_at (λ j. c (suc j)) ss a.1 i k m e)

    combination_elsewhere : (c : ℕ → ℤ) (k : Column) → Every (λ d. ¬ (d ≡ k)) ks → combination field_entry c (map (field_of_row n ks) rs) k ≡ pos 0
    combination_elsewhere c k m = combination_vanishes field_entry c (map (field_of_row n ks) rs) k (every-map (λ V. field_entry V k ≡ pos 0) (field_of_row n ks) rs (every_all (λ r. field_entry (field_of_row n ks r) k ≡ pos 0) (λ r. entry_elsewhere n ks h r k m) rs))

    module _ (W : VectorField) where
      row_entry : (i : ℕ) (k : Column) → i < length ks → k ≡ get_or ks i k → entry (row_of_field ks W) i ≡ field_entry W k
      row_entry i k m e = get_or-map (field_entry W) ks i k (pos 0) m ∙ ap (field_entry W) (sym e)

      row_past : (i : ℕ) → length ks ≤ i → entry (row_of_field ks W) i ≡ pos 0
      row_past i m = entry_past_end (row_of_field ks W) i (omega (arith, length-map ks (field_entry W)))

      pub spanned_fields : IsWithinColumns ks W → IsSpanned entry rs (entry (row_of_field ks W)) → IsSpanned field_entry (map (field_of_row n ks) rs) (field_entry W)
      spanned_fields w s = record {
        multiple = s.multiple;
        positive = s.positive;
        numbers = s.numbers;
        same = λ k. ⊎_elim
            (λ p. ap (λ x. pos s.multiple *ℤ x) (sym (row_entry p.0 k p.1 p.2)) ∙ s.same p.0 ∙ sym (combination_at s.numbers rs lengths p.0 k p.1 p.2))
            (λ m. ap (λ x. pos s.multiple *ℤ x) (w k m) ∙ solve integer_ring (listed (pos 0) (pos s.multiple ∷ [])) (v 0 ⊗ c0) c0 refl ∙ sym (combination_elsewhere s.numbers k m))
            (placed ks k);
      }

      pub spanned_rows : IsSpanned field_entry (map (field_of_row n ks) rs) (field_entry W) → IsSpanned entry rs (entry (row_of_field ks W))
      spanned_rows s = record {
        multiple = s.multiple;
        positive = s.positive;
        numbers = s.numbers;
        same = λ i. ⊎_elim
            (λ m. let c = column_at ks i m in ap (λ x. pos s.multiple *ℤ x) (row_entry i c.0 m c.1) ∙ s.same c.0 ∙ combination_at s.numbers rs lengths i c.0 m c.1)
            (λ m. ap (λ x. pos s.multiple *ℤ x) (row_past i m) ∙ solve integer_ring (listed (pos 0) (pos s.multiple ∷ [])) (v 0 ⊗ c0) c0 refl
            ∙ sym (combination_vanishes entry s.numbers rs i (every-weaken (λ r. length r ≡ length ks) (λ r. entry r i ≡ pos 0) (λ r l. entry_past_end r i (omega (arith, l))) rs lengths)))
            (cases_lt i (length ks));
      }

      pub spanned_within : IsSpanned field_entry (map (field_of_row n ks) rs) (field_entry W) → IsWithinColumns ks W
      spanned_within s k m = no_zero_divisors_ℤ (pos s.multiple) (field_entry W k) (not_zero s.multiple s.positive) (s.same k ∙ combination_elsewhere s.numbers k m)

  -- the fields of a reduced basis of rows, of those fields that have no other columns and whose rows are in the set
  pub fields_of_basis : (X : VectorField → Type 0) (Y : Row → Type 0) (rs : List Row) → ((W : VectorField) → IsFieldIn n W → X W ↔ (IsWithinColumns ks W × Y (row_of_field ks W)))
      → IsReducedBasis (length ks) Y rs → IsFieldBasis n X (map (field_of_row n ks) rs)
  fields_of_basis X Y rs x g = record {
    whole = every-map (λ V. V.denominator ≡ 1) (field_of_row n ks) rs (every_all (λ r. (field_of_row n ks r).denominator ≡ 1) (λ r. refl) rs);
    fields = every-map (IsFieldIn n) (field_of_row n ks) rs (every_all (λ r. IsFieldIn n (field_of_row n ks r)) (field_of_is n ks h) rs);
    reduced = reduced_fields rs g.lengths g.reduced;
    spans = λ W f. (
      λ a.
          let b = (x W f).0 a in
          spanned_is_combination (map (field_of_row n ks) rs) W f.positive (spanned_fields rs g.lengths W b.0 ((g.spans (row_of_field ks W) (length-map ks (field_entry W))).0 b.1)),
      λ c.
          let s = combination_is_spanned (map (field_of_row n ks) rs) W c in
          (x W f).1 (spanned_within rs g.lengths W s, (g.spans (row_of_field ks W) (length-map ks (field_entry W))).1 (spanned_rows rs g.lengths W s)),
    );
  }

  -- ---- fields without other columns
  field_back : (U : VectorField) → IsWithinColumns ks U → (k : Column) → field_entry (field_of_row n ks (row_of_field ks U)) k ≡ field_entry U k
  field_back U w k = ⊎_elim
      (λ p. entry_at_place n ks h (row_of_field ks U) (length-map ks (field_entry U)) p.0 k p.1 p.2 ∙ get_or-map (field_entry U) ks p.0 k (pos 0) p.1 ∙ ap (field_entry U) (sym p.2))
      (λ m. entry_elsewhere n ks h (row_of_field ks U) k m ∙ sym (w k m))
      (placed ks k)

  rows_of_fields : (c : ℕ → ℤ) (Us : List VectorField) → Every (IsWithinColumns ks) Us → (k : Column) → combination field_entry c (map (field_of_row n ks) (map (row_of_field ks) Us)) k ≡ combination field_entry c Us k
  rows_of_fields c [] a k = refl
  rows_of_fields c (U ∷ Us) a k = ap₂ (λ x y. c 0 *ℤ x +ℤ y) (field_back U a.0 k) (rows_of_fields (λ j. c (suc j)) Us a.1 k)

  rows_have_length : (Us : List VectorField) → Every (λ r. length r ≡ length ks) (map (row_of_field ks) Us)
  rows_have_length [] = tt
  rows_have_length (U ∷ Us) = (length-map ks (field_entry U), rows_have_length Us)

  -- the elimination of the rows of fields gives the reduced basis of their combinations
  pub basis_of_fields : (Us : List VectorField) → Every (IsWithinColumns ks) Us → IsFieldBasis n (IsCombination Us) (map (field_of_row n ks) (basis_of (length ks) (map (row_of_field ks) Us)))
  basis_of_fields Us a =
      let l : Every (λ r. length r ≡ length ks) (map (row_of_field ks) Us) = rows_have_length Us in
      let there : (w : Column → ℤ) → IsSpanned field_entry Us w → IsSpanned field_entry (map (field_of_row n ks) (map (row_of_field ks) Us)) w =
      λ w s. record { multiple = s.multiple; positive = s.positive; numbers = s.numbers; same = λ k. s.same k ∙ sym (rows_of_fields s.numbers Us a k) } in
      let back : (w : Column → ℤ) → IsSpanned field_entry (map (field_of_row n ks) (map (row_of_field ks) Us)) w → IsSpanned field_entry Us w =
      λ w s. record { multiple = s.multiple; positive = s.positive; numbers = s.numbers; same = λ k. s.same k ∙ rows_of_fields s.numbers Us a k } in
      fields_of_basis (IsCombination Us) (λ w. IsSpanned entry (map (row_of_field ks) Us) (entry w)) (basis_of (length ks) (map (row_of_field ks) Us))
      (λ W f. (
        λ c.
            let s = there (field_entry W) (combination_is_spanned Us W c) in
            (spanned_within (map (row_of_field ks) Us) l W s, spanned_rows (map (row_of_field ks) Us) l W s),
        λ b. spanned_is_combination Us W f.positive (back (field_entry W) (spanned_fields (map (row_of_field ks) Us) l W b.0 b.1)),
      )) (basis_of_is (length ks) (map (row_of_field ks) Us) l)

  -- the solutions are the reduced basis of the fields without other columns whose rows are taken to 0
  pub kernel_of_fields : (rows : List Row) → Every (λ r. length r ≡ length ks) rows
      → IsFieldBasis n (λ W. IsWithinColumns ks W × IsKernel (length ks) rows (entry (row_of_field ks W))) (map (field_of_row n ks) (kernel_of (length ks) rows))
  kernel_of_fields rows l =
      fields_of_basis (λ W. IsWithinColumns ks W × IsKernel (length ks) rows (entry (row_of_field ks W))) (λ w. IsKernel (length ks) rows (entry w)) (kernel_of (length ks) rows)
      (λ W f. (λ a. a, λ a. a)) (kernel_of_is (length ks) rows l)
