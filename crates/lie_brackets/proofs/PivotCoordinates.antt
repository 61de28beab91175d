-- The fractions at the pivots of generators are the coordinates of a combination.
use Rattle.std.specs.Prelude.{◌≡◌, ℕ, zero, suc, ◌+◌, ◌<◌, List, [], ◌∷◌, ◌++◌, length, take, get_or, pos, ◌*ℤ◌}
use Rattle.std.proofs.Common.{refl, sym, ap, subst, arith}
use Rattle.std.specs.List.{AllByRecursion as Every, Contains}
use Rattle.lie_math.specs.VectorField.{VectorField}
use Rattle.lie_math.proofs.EveryElement.{every_contained}
use Rattle.lie_geometry.specs.Commutator.{commutator}
use Rattle.lie_geometry.specs.Coordinates.{Space}
use Rattle.lie_ring.specs.Ratios.{IsRatio}
use Rattle.lie_ring.specs.declared.ratio.Ratio.{Ratio}
use Rattle.lie_ring.proofs.Fronts.{take_more}
use Rattle.lie_spans.specs.Coordinates.{AreAtPivots, IsLowest}
use Rattle.lie_spans.specs.Fields.{column_before, field_entry, IsCombination}
use Rattle.lie_spans.specs.Reduced.{IsPivot, IsReduced}
use Rattle.lie_spans.proofs.Coordinates.{sum_at_pivots}
use Rattle.lie_spans.proofs.FieldBasis.{column_trans, neither_before, combination_is_spanned}
use Rattle.lie_brackets.specs.Generators.{field_of_generator, pivot_column, IsGenerator, fields_of, AreCoordinates}
use Rattle.lie_brackets.specs.Tables.{IsClosed, pairs_of, numerator_in, denominator_in, IsEntry}
use Rattle.lie_brackets.specs.declared.generators.Generator.{Generator}
use Rattle.lie_brackets.proofs.PivotColumns.{one_pivot}

-- ---- one fraction more
coordinates_append : (W : VectorField) (gs : List Generator) (rs : List Ratio) (g : Generator) (r : Ratio) → AreCoordinates W gs rs
    → IsRatio (field_entry W (pivot_column g)) (field_entry (field_of_generator g) (pivot_column g)) r → AreCoordinates W (gs ++ g ∷ []) (rs ++ r ∷ [])
coordinates_append W [] [] g r h k = (k, tt)
coordinates_append W [] (s ∷ rs) g r h k = absurd h
coordinates_append W (f ∷ gs) [] g r h k = absurd h
coordinates_append W (f ∷ gs) (s ∷ rs) g r h k = (h.0, coordinates_append W gs rs g r h.1 k)

pub coordinates_more : (W : VectorField) (gs : List Generator) (i : ℕ) (old new : List Ratio) (g : Generator) (r : Ratio) → i < length gs → g ≡ get_or gs i g
    → new ≡ old ++ r ∷ [] → AreCoordinates W (take i gs) old
    → IsRatio (field_entry W (pivot_column g)) (field_entry (field_of_generator g) (pivot_column g)) r → AreCoordinates W (take (i + 1) gs) new
coordinates_more W gs i old new g r l is put h k =
    subst (AreCoordinates W (take (i + 1) gs)) (sym put) (subst (λ fs. AreCoordinates W fs (old ++ r ∷ [])) (take_more gs i g l is) (coordinates_append W (take i gs) old g r h k))

-- ---- all fractions
module _ (W : VectorField) where
  one_each : (gs : List Generator) (rs : List Ratio) → AreCoordinates W gs rs → length rs ≡ length (fields_of gs)
  one_each [] [] h = refl
  one_each [] (r ∷ rs) h = absurd h
  one_each (g ∷ gs) [] h = absurd h
  one_each (g ∷ gs) (r ∷ rs) h = ap suc (one_each gs rs h.1)

  each_lowest : (gs : List Generator) (rs : List Ratio) → AreCoordinates W gs rs → Every (λ (r : Ratio). IsLowest r.num r.den) rs
  each_lowest [] [] h = tt
  each_lowest [] (r ∷ rs) h = absurd h
  each_lowest (g ∷ gs) [] h = absurd h
  each_lowest (g ∷ gs) (r ∷ rs) h = (record { positive = h.0.positive; lowest = h.0.lowest }, each_lowest gs rs h.1)

  at_pivots : (S : Space) (gs : List Generator) (rs : List Ratio) → Every (IsGenerator S) gs → AreCoordinates W gs rs
      → AreAtPivots field_entry column_before (fields_of gs) (numerator_in rs) (denominator_in rs) (field_entry W)
  at_pivots S [] rs f h i V k l e p = absurd (omega arith)
  at_pivots S (g ∷ gs) [] f h i V k l e p = absurd h
  at_pivots S (g ∷ gs) (r ∷ rs) f h zero V k l e p =
      let c : k ≡ pivot_column g = one_pivot S g f.0 k (subst (λ U. IsPivot field_entry column_before U k) e p) in
      subst (λ U. r.num *ℤ field_entry U k ≡ field_entry W k *ℤ pos r.den) (sym e)
      (subst (λ j. r.num *ℤ field_entry (field_of_generator g) j ≡ field_entry W j *ℤ pos r.den) (sym c) h.0.same)
  at_pivots S (g ∷ gs) (r ∷ rs) f h (suc i) V k l e p = at_pivots S gs rs f.1 h.1 i V k (omega arith) e p

-- the entry of a pair whose bracket is W
pub entry_at_pivots : (S : Space) (gs : List Generator) → Every (IsGenerator S) gs → IsReduced field_entry column_before (fields_of gs) → IsClosed S (fields_of gs)
    → (pair : VectorField × VectorField) → Contains (pairs_of (fields_of gs)) pair → (W : VectorField) → W ≡ commutator S pair.0 pair.1
    → (rs : List Ratio) → AreCoordinates W gs rs → IsEntry S (fields_of gs) pair rs
entry_at_pivots S gs each reduced closed pair inside W is rs h = record {
  one_each = one_each W gs rs h;
  lowest = each_lowest W gs rs h;
  sum = sum_at_pivots field_entry column_before column_trans neither_before (fields_of gs) reduced (numerator_in rs) (denominator_in rs) (field_entry (commutator S pair.0 pair.1))
      (combination_is_spanned (fields_of gs) (commutator S pair.0 pair.1)
      (every_contained (λ (p : VectorField × VectorField). IsCombination (fields_of gs) (commutator S p.0 p.1)) (pairs_of (fields_of gs)) pair closed inside))
      (subst (λ U. AreAtPivots field_entry column_before (fields_of gs) (numerator_in rs) (denominator_in rs) (field_entry U)) is (at_pivots W S gs rs each h));
}
