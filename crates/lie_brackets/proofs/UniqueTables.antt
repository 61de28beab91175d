-- A reduced list of fields has one table.
use Rattle.std.specs.Prelude.{◌≡◌, ℕ, zero, suc, ◌<◌, List, [], ◌∷◌, length}
use Rattle.std.proofs.Common.{refl, sym, ap₂, ◌∙◌, arith}
use Rattle.std.specs.List.{AllByRecursion as Every}
use Rattle.lie_math.specs.VectorField.{VectorField}
use Rattle.lie_geometry.specs.Commutator.{commutator}
use Rattle.lie_geometry.specs.Coordinates.{Space}
use Rattle.lie_spans.specs.Coordinates.{IsLowest}
use Rattle.lie_spans.specs.Fields.{column_before, field_entry}
use Rattle.lie_spans.specs.Laws.{CoordinatesAreUnique}
use Rattle.lie_spans.specs.Reduced.{IsReduced}
use Rattle.lie_ring.specs.declared.ratio.Ratio.{Ratio}
use Rattle.lie_brackets.specs.Laws.{TableIsUnique}
use Rattle.lie_brackets.specs.Tables.{numerator_in, denominator_in, IsEntry, AreEntries, pairs_of}

pub lowest_in : (rs : List Ratio) (i : ℕ) → i < length rs → Every (λ (r : Ratio). IsLowest r.num r.den) rs → IsLowest (numerator_in rs i) (denominator_in rs i)
lowest_in [] i l h = absurd (omega arith)
lowest_in (r ∷ rs) zero l h = h.0
lowest_in (r ∷ rs) (suc i) l h = lowest_in rs i (omega arith) h.1

abbrev AreAlikeAt : List Ratio → List Ratio → ℕ → Type 0
AreAlikeAt rs ss i = (numerator_in rs i ≡ numerator_in ss i) × (denominator_in rs i ≡ denominator_in ss i)

same_ratio : (r s : Ratio) → r.num ≡ s.num → r.den ≡ s.den → r ≡ s
same_ratio r s e f = λ i. record { num = e i; den = f i }

same_ratios : (rs ss : List Ratio) → length rs ≡ length ss → ((i : ℕ) → i < length rs → AreAlikeAt rs ss i) → rs ≡ ss
same_ratios [] [] e f = refl
same_ratios [] (s ∷ ss) e f = absurd (omega arith)
same_ratios (r ∷ rs) [] e f = absurd (omega arith)
same_ratios (r ∷ rs) (s ∷ ss) e f =
    let first = f 0 (omega arith) in
    ap₂ ◌∷◌ (same_ratio r s first.0 first.1) (same_ratios rs ss (omega arith) (λ i l. f (suc i) (omega arith)))

module _ (law : CoordinatesAreUnique) (S : Space) (Vs : List VectorField) (reduced : IsReduced field_entry column_before Vs) where
  same_entry : (pair : VectorField × VectorField) (rs ss : List Ratio) → IsEntry S Vs pair rs → IsEntry S Vs pair ss → rs ≡ ss
  same_entry pair rs ss h k = same_ratios rs ss (h.one_each ∙ sym k.one_each) (λ i l.
      law Vs reduced (numerator_in rs) (numerator_in ss) (denominator_in rs) (denominator_in ss) (commutator S pair.0 pair.1) h.sum k.sum i
      (omega (arith, h.one_each)) (lowest_in rs i l h.lowest) (lowest_in ss i (omega (arith, h.one_each, k.one_each)) k.lowest))

  same_entries : (pairs : List (VectorField × VectorField)) (es fs : List (List Ratio)) → AreEntries S Vs pairs es → AreEntries S Vs pairs fs → es ≡ fs
  same_entries [] [] [] h k = refl
  same_entries [] [] (f ∷ fs) h k = absurd k
  same_entries [] (e ∷ es) fs h k = absurd h
  same_entries (p ∷ ps) [] fs h k = absurd h
  same_entries (p ∷ ps) (e ∷ es) [] h k = absurd k
  same_entries (p ∷ ps) (e ∷ es) (f ∷ fs) h k = ap₂ ◌∷◌ (same_entry p e f h.0 k.0) (same_entries ps es fs h.1 k.1)

pub table_is_unique : CoordinatesAreUnique → TableIsUnique
table_is_unique law S Vs reduced es fs h k = same_entries law S Vs reduced (pairs_of Vs) es fs h k
