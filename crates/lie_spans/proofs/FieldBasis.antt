-- A set of fields has at most one reduced basis, and the numbers of a combination are read off at the pivots.
use Rattle.std.specs.Prelude.{◌↔◌, ◌≡◌, ℕ, suc, ◌*◌, ◌<◌, List, [], ◌∷◌, ℤ, pos, ◌+ℤ◌, ◌*ℤ◌, length, get_or}
use Rattle.std.proofs.Common.{refl, sym, ap, ap₂, ◌∙◌, arith, Less, Equal, Greater}
use Rattle.std.specs.List.{AllByRecursion as Every}
use Rattle.std.specs.Ordering.{ordering_reverse}
use Rattle.std.specs.Cmp.{IsTotalOrder, nat_cmp_total, on_total, then_total}
use Rattle.std.specs.FinMap.{nat_cmp-IsAntisymmetric}
use Rattle.lie_math.specs.Integer.{integer_ring}
use Rattle.lie_math.specs.Monomial.{Monomial, degree}
use Rattle.lie_math.specs.MonomialOrder.{monomial_cmp_total, monomial_cmp-IsAntisymmetric, then_equal}
use Rattle.lie_math.specs.Polynomial.{WholePolynomial, terms, 0ᴾ, constant, coefficient, ◌*ᴾ◌}
use Rattle.lie_math.specs.FiniteSumLaws.{ext, value-none, value-plus}
use Rattle.lie_math.specs.VectorField.{VectorField, component}
use Rattle.lie_math.proofs.Weighing.{coefficient-constant_times}
use Rattle.lie_math.proofs.RingSolver.{v, ◌⊗◌, solve, listed}
use Rattle.lie_spans.specs.Spans.{combination, IsSpanned}
use Rattle.lie_spans.specs.Fields.{Column, column_cmp, column_before, field_entry, field_sum, IsCombination, IsFieldIn, IsFieldBasis}
use Rattle.lie_math.proofs.EveryElement.{every_both}
use Rattle.lie_spans.proofs.Spans.{spanned_each, combination-times}
use Rattle.lie_spans.proofs.Reduced.{Alike, same_reduced}

-- ---- the order of columns
pub column_cmp_total : IsTotalOrder column_cmp
column_cmp_total = then_total (on_total (λ (k : Column). k.0) nat_cmp_total) (then_total (on_total (λ (k : Column). degree k.1) nat_cmp_total) (on_total (λ (k : Column). k.1) monomial_cmp_total))

pub column_same : (j k : Column) → column_cmp j k ≡ Equal → j ≡ k
column_same j k e =
    let p = then_equal _ _ e in
    let s : j.0 ≡ k.0 = nat_cmp-IsAntisymmetric j.0 k.0 p.0 in
    let m : j.1 ≡ k.1 = monomial_cmp-IsAntisymmetric j.1 k.1 (then_equal _ _ p.1).1 in
    λ i. (s i, m i)

pub column_trans : (i j k : Column) → column_before i j → column_before j k → column_before i k
column_trans = column_cmp_total.trans

pub neither_before : (j k : Column) → ¬ (column_before j k) → ¬ (column_before k j) → j ≡ k
neither_before j k l m =
    elim (column_cmp j k) as (λ o. column_cmp j k ≡ o → j ≡ k) [
      | Less ↦ λ e. absurd (l e)
      | Equal ↦ λ e. column_same j k e
      | Greater ↦ λ e. absurd (m (column_cmp_total.antisymm k j ∙ ap ordering_reverse e))
    ] refl

-- ---- combinations of fields, by their entries
pub coefficient-field_sum : (c : ℕ → ℤ) (Vs : List VectorField) (s : ℕ) (m : Monomial) → coefficient (field_sum c Vs s) m ≡ combination field_entry c Vs (s, m)
coefficient-field_sum c [] s m = value-none terms m
coefficient-field_sum c (V ∷ Vs) s m =
    value-plus terms (constant (c 0) *ᴾ component V s) (field_sum (λ i. c (suc i)) Vs s) m
    ∙ ap₂ ◌+ℤ◌ (coefficient-constant_times (c 0) (component V s) m) (coefficient-field_sum (λ i. c (suc i)) Vs s m)

-- a multiple of a field is a combination exactly if one of its entries is
pub combination_is_spanned : (Vs : List VectorField) (W : VectorField) → IsCombination Vs W → IsSpanned field_entry Vs (field_entry W)
combination_is_spanned Vs W h = record {
  multiple = h.multiple;
  positive = h.positive;
  numbers = λ i. pos W.denominator *ℤ h.numbers i;
  same = λ k.
      sym (coefficient-constant_times (pos h.multiple) (component W k.0) k.1) ∙ ap (λ p. coefficient p k.1) (h.same k.0)
      ∙ coefficient-constant_times (pos W.denominator) (field_sum h.numbers Vs k.0) k.1
      ∙ ap (λ x. pos W.denominator *ℤ x) (coefficient-field_sum h.numbers Vs k.0 k.1) ∙ sym (combination-times field_entry (pos W.denominator) h.numbers Vs k);
}

pub spanned_is_combination : (Vs : List VectorField) (W : VectorField) → 0 < W.denominator → IsSpanned field_entry Vs (field_entry W) → IsCombination Vs W
spanned_is_combination Vs W d h = record {
  multiple = W.denominator * h.multiple;
  positive = grind (arith, d, h.positive);
  numbers = h.numbers;
  same = λ s. ext terms _ _ (λ m.
      coefficient-constant_times (pos W.denominator *ℤ pos h.multiple) (component W s) m
      ∙ solve integer_ring (listed (pos 0) (pos W.denominator ∷ pos h.multiple ∷ field_entry W (s, m) ∷ [])) ((v 0 ⊗ v 1) ⊗ v 2) (v 0 ⊗ (v 1 ⊗ v 2)) refl
      ∙ ap (λ x. pos W.denominator *ℤ x) (h.same (s, m) ∙ sym (coefficient-field_sum h.numbers Vs s m))
      ∙ sym (coefficient-constant_times (pos W.denominator) (field_sum h.numbers Vs s) m));
}

-- ---- uniqueness
same_field : (V W : VectorField) → V.denominator ≡ W.denominator → length V.parts ≡ length W.parts → ((k : Column) → field_entry V k ≡ field_entry W k) → V ≡ W
same_field V W d l e = λ i. record { denominator = d i; parts = parts i }
  where
    same_parts : (ps qs : List WholePolynomial) → length ps ≡ length qs → ((s : ℕ) → get_or ps s 0ᴾ ≡ get_or qs s 0ᴾ) → ps ≡ qs
    same_parts [] [] l h = refl
    same_parts [] (q ∷ qs) l h = absurd (omega arith)
    same_parts (p ∷ ps) [] l h = absurd (omega arith)
    same_parts (p ∷ ps) (q ∷ qs) l h = ap₂ ◌∷◌ (h 0) (same_parts ps qs (omega arith) (λ s. h (suc s)))

    parts : V.parts ≡ W.parts
    parts = same_parts V.parts W.parts l (λ s. ext terms (component V s) (component W s) (λ m. e (s, m)))

abbrev Whole : ℕ → VectorField → Type 0
Whole n V = (V.denominator ≡ 1) × IsFieldIn n V

same_list_of_fields : (n : ℕ) (Vs Ws : List VectorField) → Every (Whole n) Vs → Every (Whole n) Ws → Alike field_entry Vs Ws → Vs ≡ Ws
same_list_of_fields n [] [] h k a = refl
same_list_of_fields n [] (W ∷ Ws) h k a = absurd a
same_list_of_fields n (V ∷ Vs) [] h k a = absurd a
same_list_of_fields n (V ∷ Vs) (W ∷ Ws) h k a = ap₂ ◌∷◌ (same_field V W (h.0.0 ∙ sym k.0.0) (h.0.1.size ∙ sym k.0.1.size) a.0) (same_list_of_fields n Vs Ws h.1 k.1 a.1)

whole : (n : ℕ) (X : VectorField → Type 0) (Vs : List VectorField) → IsFieldBasis n X Vs → Every (Whole n) Vs
whole n X Vs h = every_both (λ V. V.denominator ≡ 1) (IsFieldIn n) (Whole n) (λ V a b. (a, b)) Vs h.whole h.fields

-- a field of one basis of X is spanned by the other
crossed : (n : ℕ) (X : VectorField → Type 0) (Vs Ws : List VectorField) → IsFieldBasis n X Vs → IsFieldBasis n X Ws → Every (λ V. IsSpanned field_entry Ws (field_entry V)) Vs
crossed n X Vs Ws h k =
    every_both (IsFieldIn n) (λ V. IsSpanned field_entry Vs (field_entry V)) (λ V. IsSpanned field_entry Ws (field_entry V))
    (λ V p s. combination_is_spanned Ws V ((k.spans V p).0 ((h.spans V p).1 (spanned_is_combination Vs V p.positive s)))) Vs h.fields (spanned_each field_entry Vs)

-- at most one list is the reduced basis of X
pub one_field_basis : (n : ℕ) (X : VectorField → Type 0) (Vs Ws : List VectorField) → IsFieldBasis n X Vs → IsFieldBasis n X Ws → Vs ≡ Ws
one_field_basis n X Vs Ws h k =
    same_list_of_fields n Vs Ws (whole n X Vs h) (whole n X Ws k)
    (same_reduced field_entry column_before column_trans neither_before Vs Ws h.reduced k.reduced (crossed n X Vs Ws h k) (crossed n X Ws Vs k h))

-- sets with the same fields have the same reduced bases
pub field_basis_of_same : (n : ℕ) (X Y : VectorField → Type 0) (Vs : List VectorField) → ((W : VectorField) → IsFieldIn n W → X W ↔ Y W) → IsFieldBasis n X Vs → IsFieldBasis n Y Vs
field_basis_of_same n X Y Vs e h = record { whole = h.whole; fields = h.fields; reduced = h.reduced; spans = λ W f. (λ y. (h.spans W f).0 ((e W f).1 y), λ s. (e W f).0 ((h.spans W f).1 s)) }
