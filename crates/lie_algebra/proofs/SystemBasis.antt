-- The reduced basis of a finite system from the elimination of its rows, and why there is none.
use Rattle.std.specs.Prelude.{◌≡◌, ℕ, zero, suc, ◌+◌, ◌<◌, ◌≤◌, ltb, List, [], ◌∷◌, map, length, get_or, ℤ, pos, Option, Some, None, cond, ◌==◌, Bool, true, false}
use Rattle.std.proofs.Common.{refl, sym, ap, subst, ◌∙◌, arith, ⊎_elim, inl, inr, ltb-true}
use Rattle.std.proofs.lemmas.List.{length-map, get_or_past, length-append}
use Rattle.std.proofs.lemmas.Bool.{cases_lt}
use Rattle.std.specs.List.{AllByRecursion as Every, Any}
use Rattle.lie_math.specs.Counts.{Derivative}
use Rattle.lie_math.specs.FiniteSum as finite
use Rattle.lie_math.specs.FiniteSumLaws.{value-none}
use Rattle.lie_math.specs.Integer.{is_zero_int}
use Rattle.lie_math.specs.LinearForm.{LinearForm, forms, no_form}
use Rattle.lie_math.specs.LinearSystem.{LinearSystem, Unknown, Gives}
use Rattle.lie_math.specs.Monomial.{Monomial, exponent}
use Rattle.lie_math.specs.Polynomial.{WholePolynomial, terms, coefficient}
use Rattle.lie_math.specs.Variables.{IsIn}
use Rattle.lie_math.specs.VectorField.{VectorField}
use Rattle.lie_math.proofs.CanonicalLists.{value_has}
use Rattle.lie_math.proofs.EveryElement.{every_contained, every_of_contained, every-append, every-weaken}
use Rattle.lie_math.proofs.FiniteSum.{entries_of}
use Rattle.lie_math.proofs.Integer.{zero_or_not}
use Rattle.lie_math.proofs.SomeElement.{any_head, any_tail, any_left, any_right}
use Rattle.lie_ring.specs.declared.failures.PastKind.TheVariants.{Coefficient, Exponent, Terms, Order, Unknowns, Width}
use Rattle.lie_ring.specs.declared.failures.PolyFail.{PolyFail}
use Rattle.lie_ring.specs.declared.failures.PolyFail.TheVariants.{Past, NoMemory}
use Rattle.lie_systems.specs.Triples.{Triple, triples, triples_in, triples_with}
use Rattle.lie_systems.specs.ValidSystems.{IsValid, IsOwned, IsFormOf}
use Rattle.lie_systems.specs.Works.{ABasis, IsMadeWithin, greatest_basis_unknown_count, greatest_column_count, IsWorkWithin}
use Rattle.lie_lin.specs.declared.system.Unknown as kept
use Rattle.lie_lin.specs.Systems.{unknown_of}
use Rattle.lie_rows.specs.Causes.{IsWorkCause}
use Rattle.lie_steps.specs.Runs.{IsFinite}
use Rattle.lie_spans.specs.Bulks.{BasisMakes}
use Rattle.lie_spans.specs.ConstantSystems.{unknown_field, unknown_fields}
use Rattle.lie_spans.specs.Content.{row_content, divided_row, primitive_part, primitive_parts}
use Rattle.lie_spans.specs.Elimination.{cleared_row, cleared_rows, eliminated_row, first_with, found_after, column_cleared, columns_cleared, turned_rows, basis_of}
use Rattle.lie_spans.specs.FieldRows.{AreColumns, field_of_row, row_of_field, IsWithinColumns}
use Rattle.lie_spans.specs.Fields.{Column, field_entry, IsFieldBasis}
use Rattle.lie_spans.specs.Rows.{Row, entry, HaveLength, IsReducedBasis}
use Rattle.lie_spans.specs.Spans.{IsSpanned}
use Rattle.lie_spans.proofs.ConstantSystems.{basis_of_system}
use Rattle.lie_spans.proofs.Elimination.{basis_of_is}
use Rattle.lie_spans.proofs.RowBasis.{one_reduced_basis}
use Rattle.lie_algebra.specs.BasisWork.{WidthMakes, IsBasisWithin, IsBasisPast, IsBasisCause}
use Rattle.lie_algebra.specs.ColumnLists.{listed_columns, AreColumnsOf, IsColumnsCause}
use Rattle.lie_algebra.specs.GeneralColumns.{OccursInGeneral, AreGeneralColumns, unknown_rows}
use Rattle.lie_algebra.proofs.ColumnLists.{rising_of_sorted}
use Rattle.lie_algebra.proofs.FiniteSystems.{finite_is_constant}
use Rattle.lie_algebra.proofs.GeneralColumns.{HasMonomial, no_monomial, listed_occurs, general_columns, same_columns}
use Rattle.lie_algebra.proofs.UnknownRows.{entry_is}

-- ---- the triples of a form
triples_have : (P : Monomial → Type 0) (es : List (Derivative × WholePolynomial))
    → Every (λ (e : Derivative × WholePolynomial). Every (λ (t : Monomial × ℤ). P t.0) e.1.list) es → Every (λ (t : Triple). P t.1) (triples_in es)
triples_have P [] h = tt
triples_have P (e ∷ es) h = every-append (λ (t : Triple). P t.1) (triples_with e.0 e.1.list) (triples_in es) (with e.1.list h.0) (triples_have P es h.1)
  where
    with : (ts : List (Monomial × ℤ)) → Every (λ (t : Monomial × ℤ). P t.0) ts → Every (λ (t : Triple). P t.1) (triples_with e.0 ts)
    with [] g = tt
    with (t ∷ ts) g = (g.0, with ts g.1)

-- a monomial of a coefficient is that of a triple
monomial_listed : (d : Derivative) (p : WholePolynomial) (m : Monomial) → ¬ (coefficient p m ≡ pos 0) → Any (λ (t : Triple). t.1 ≡ m) (triples_with d p.list)
monomial_listed d p m n = value_has terms (λ e. Any (λ (t : Triple). t.1 ≡ e.0) (triples_with d p.list)) m p.list p.canonical (each p.list) n
  where
    each : (es : List (Monomial × ℤ)) → Every (λ (e : Monomial × ℤ). Any (λ (t : Triple). t.1 ≡ e.0) (triples_with d es)) es
    each [] = tt
    each (e ∷ es) = (
      any_head (λ (t : Triple). t.1 ≡ e.0) (d, e.0, e.1) (triples_with d es) refl,
      every-weaken (λ (f : Monomial × ℤ). Any (λ (t : Triple). t.1 ≡ f.0) (triples_with d es)) (λ (f : Monomial × ℤ). Any (λ (t : Triple). t.1 ≡ f.0) (triples_with d (e ∷ es)))
          (λ f a. any_tail (λ (t : Triple). t.1 ≡ f.0) (d, e.0, e.1) (triples_with d es) a) es (each es),
    )

coefficients_listed : (m : Monomial) (es : List (Derivative × WholePolynomial))
    → Every (λ (e : Derivative × WholePolynomial). ¬ (coefficient e.1 m ≡ pos 0) → Any (λ (t : Triple). t.1 ≡ m) (triples_in es)) es
coefficients_listed m [] = tt
coefficients_listed m (e ∷ es) = (
  λ n. any_left (λ (t : Triple). t.1 ≡ m) (triples_with e.0 e.1.list) (triples_in es) (monomial_listed e.0 e.1 m n),
  every-weaken (λ (f : Derivative × WholePolynomial). ¬ (coefficient f.1 m ≡ pos 0) → Any (λ (t : Triple). t.1 ≡ m) (triples_in es))
      (λ (f : Derivative × WholePolynomial). ¬ (coefficient f.1 m ≡ pos 0) → Any (λ (t : Triple). t.1 ≡ m) (triples_in (e ∷ es)))
      (λ f a n. any_right (λ (t : Triple). t.1 ≡ m) (triples_with e.0 e.1.list) (triples_in es) (a n)) es (coefficients_listed m es),
)

value_occurs : (E : LinearForm) (d : Derivative) (m : Monomial) → ¬ (coefficient (finite.value forms E d) m ≡ pos 0) → HasMonomial m E
value_occurs E d m n =
    value_has forms (λ (e : Derivative × WholePolynomial). ¬ (coefficient e.1 m ≡ pos 0) → HasMonomial m E) d E.list E.canonical (coefficients_listed m E.list)
    (λ z. n (ap (λ p. coefficient p m) z ∙ value-none terms m)) n

-- ---- lengths of eliminations
cleared_row_length : (p r : Row) (k : ℕ) → length (cleared_row p k r) ≤ 1
cleared_row_length p r k = at (is_zero_int (entry r k))
  where
    part : (b : Bool) (q : Row) → length (cond b [] (q ∷ [])) ≤ 1
    part true q = omega arith
    part false q = omega arith

    at : (b : Bool) → length (cond b (r ∷ []) (primitive_part (eliminated_row p k r))) ≤ 1
    at true = omega arith
    at false = part (row_content (eliminated_row p k r) == 0) (divided_row (row_content (eliminated_row p k r)) (eliminated_row p k r))

cleared_length : (p : Row) (k : ℕ) (rs : List Row) → length (cleared_rows p k rs) ≤ length rs
cleared_length p k [] = omega arith
cleared_length p k (r ∷ rs) =
    let a = cleared_row_length p r k in
    let b = cleared_length p k rs in
    let e = length-append (cleared_row p k r) (cleared_rows p k rs) in
    omega arith

parts_length : (rs : List Row) → length (primitive_parts rs) ≤ length rs
parts_length [] = omega arith
parts_length (r ∷ rs) =
    let a = part (row_content r == 0) in
    let b = parts_length rs in
    let e = length-append (primitive_part r) (primitive_parts rs) in
    omega arith
  where
    part : (b : Bool) → length (cond b [] (divided_row (row_content r) r ∷ [])) ≤ 1
    part true = omega arith
    part false = omega arith

abbrev FoundLength : List Row → Option (Row × List Row) → Type 0
FoundLength rs None = Unit {0}
FoundLength rs (Some q) = suc (length q.1) ≡ length rs

first_length : (k : ℕ) (rs : List Row) → FoundLength rs (first_with k rs)
first_length k [] = tt
first_length k (r ∷ rs) = at (is_zero_int (entry r k)) (first_with k rs) (first_length k rs)
  where
    after : (f : Option (Row × List Row)) → FoundLength rs f → FoundLength (r ∷ rs) (found_after r f)
    after None h = tt
    after (Some q) h = ap suc h

    at : (b : Bool) (f : Option (Row × List Row)) → FoundLength rs f → FoundLength (r ∷ rs) (cond b (found_after r f) (Some (r, rs)))
    at true f h = after f h
    at false f h = refl

column_length : (k : ℕ) (ps rs : List Row) (f : Option (Row × List Row)) → FoundLength rs f
    → length (column_cleared k ps rs f).0 + length (column_cleared k ps rs f).1 ≤ length ps + length rs
column_length k ps rs None h = omega arith
column_length k ps rs (Some q) h =
    let a = cleared_length q.0 k ps in
    let b = cleared_length q.0 k q.1 in
    let e = length-append (cleared_rows q.0 k ps) (q.0 ∷ []) in
    omega arith

columns_length : (n k : ℕ) (ps rs : List Row) → length (columns_cleared n k ps rs) ≤ length ps + length rs
columns_length zero k ps rs = omega arith
columns_length (suc n) k ps rs =
    let a = column_length k ps rs (first_with k rs) (first_length k rs) in
    let b = columns_length n (suc k) (column_cleared k ps rs (first_with k rs)).0 (column_cleared k ps rs (first_with k rs)).1 in
    omega arith

turned_length : (rs : List Row) → length (turned_rows rs) ≡ length rs
turned_length [] = refl
turned_length (r ∷ rs) = ap suc (turned_length rs)

basis_length : (n : ℕ) (rows : List Row) → length (basis_of n rows) ≤ length rows
unfolding basis_of
basis_length n rows =
    let a = turned_length (columns_cleared n 0 [] (primitive_parts rows)) in
    let b = columns_length n 0 [] (primitive_parts rows) in
    let c = parts_length rows in
    omega arith

-- ---- of the columns of a system
pub general_of_listed : (S : LinearSystem) (ks : List Column) → AreColumnsOf (listed_columns 0 S.general) ks → AreGeneralColumns S ks
general_of_listed S ks h = record {
  rising = rising_of_sorted ks h.sorted;
  elements = λ k. (λ c. (listed_occurs S k).0 ((h.elements k).0 c), λ a. (h.elements k).1 ((listed_occurs S k).1 a));
}

module _ (S : LinearSystem) where
  -- too many unknowns, or too many columns
  pub many_unknowns : greatest_basis_unknown_count < length S.unknowns → IsBasisPast S Width
  many_unknowns l = let r = general_columns S in (ABasis (length S.unknowns) (length r.0), (r.0, r.1, refl), inl l)

  pub many_columns : (fail : PolyFail) → IsColumnsCause fail (listed_columns 0 S.general) → IsBasisCause fail S
  many_columns (Past Width) (ks, h, l) = (ABasis (length S.unknowns) (length ks), (ks, general_of_listed S ks h, refl), inr l)
  many_columns (Past Coefficient) h = absurd h
  many_columns (Past Exponent) h = h
  many_columns (Past Terms) h = h
  many_columns (Past Order) h = h
  many_columns (Past Unknowns) h = h
  many_columns NoMemory h = tt

  module _ (ks : List Column) (h : AreGeneralColumns S ks) where
    width_within : length S.unknowns ≤ greatest_basis_unknown_count → length ks ≤ greatest_column_count → IsWorkWithin (WidthMakes S)
    width_within u c b (js, g, e) =
        subst IsMadeWithin (sym (e ∙ ap (λ ls. ABasis (length S.unknowns) (length ls)) (same_columns S js ks g h))) (u, c)

    pub past_cause : (fail : PolyFail) → length S.unknowns ≤ greatest_basis_unknown_count → length ks ≤ greatest_column_count
        → IsWorkCause fail (BasisMakes (length ks) (unknown_rows ks S)) → IsBasisCause fail S
    past_cause (Past Coefficient) u c (b, m, p) = (width_within u c, (b, (ks, h, m), p))
    past_cause (Past Width) u c p = absurd p
    past_cause (Past Exponent) u c p = p
    past_cause (Past Terms) u c p = p
    past_cause (Past Order) u c p = p
    past_cause (Past Unknowns) u c p = p
    past_cause NoMemory u c p = tt

    pub within : length S.unknowns ≤ greatest_basis_unknown_count → length ks ≤ greatest_column_count
        → IsWorkWithin (BasisMakes (length ks) (unknown_rows ks S)) → IsBasisWithin S
    within u c w = record {
      width = width_within u c;
      numbers = λ b m. w b (subst (λ ls. BasisMakes (length ls) (unknown_rows ls S) b) (same_columns S m.0 ks m.1 h) m.2);
    }

    pub rows_have_length : HaveLength (length ks) (unknown_rows ks S)
    rows_have_length = each (unknown_fields S)
      where
        each : (Us : List VectorField) → HaveLength (length ks) (map (row_of_field ks) Us)
        each [] = tt
        each (U ∷ Us) = (length-map ks (field_entry U), each Us)

    -- the rows that are made are those of the elimination
    made_is : (rs : List Row) → IsReducedBasis (length ks) (λ w. IsSpanned entry (unknown_rows ks S) (entry w)) rs → rs ≡ basis_of (length ks) (unknown_rows ks S)
    made_is rs b =
        one_reduced_basis (length ks) (λ w. IsSpanned entry (unknown_rows ks S) (entry w)) rs (basis_of (length ks) (unknown_rows ks S)) b
        (basis_of_is (length ks) (unknown_rows ks S) rows_have_length)

    pub made_length : (rs : List Row) → IsReducedBasis (length ks) (λ w. IsSpanned entry (unknown_rows ks S) (entry w)) rs → length rs ≤ length S.unknowns
    made_length rs b =
        let e = ap length (made_is rs b) in
        let l = basis_length (length ks) (unknown_rows ks S) in
        let f = length-map (unknown_fields S) (row_of_field ks) in
        let g = length-map S.unknowns (unknown_field S) in
        omega arith

    -- the columns are those of a field
    module _ (n : ℕ) (v : IsValid n S) where
      general_at : (s : ℕ) → s < length S.general → IsFormOf n S.unknowns (get_or S.general s no_form)
      general_at s l = go S.general s l v.general
        where
          go : (Es : List LinearForm) (s : ℕ) → s < length Es → Every (IsFormOf n S.unknowns) Es → IsFormOf n S.unknowns (get_or Es s no_form)
          go [] s l h = absurd (omega arith)
          go (E ∷ Es) zero l h = h.0
          go (E ∷ Es) (suc s) l h = go Es s (omega arith) h.1

      own_monomials : (E : LinearForm) → IsFormOf n S.unknowns E → Every (λ (t : Triple). (w : ℕ) → n ≤ w → exponent t.1 w ≡ 0) (triples E)
      own_monomials E f =
          triples_have (λ m. (w : ℕ) → n ≤ w → exponent m w ≡ 0) E.list
          (every-weaken (λ (e : Derivative × WholePolynomial). IsOwned S.unknowns e.0 × IsIn (λ w. ltb w n) e.1)
          (λ (e : Derivative × WholePolynomial). Every (λ (t : Monomial × ℤ). (w : ℕ) → n ≤ w → exponent t.0 w ≡ 0) e.1.list)
          (λ e o. entries_of terms e.1 (λ (t : Monomial × ℤ). (w : ℕ) → n ≤ w → exponent t.0 w ≡ 0)
          (λ t is apart w l. o.1 w (not_less w n l) t.0 (λ z. apart (sym is ∙ z)))) E.list f)
        where
          not_less : (w n : ℕ) → n ≤ w → ltb w n ≡ false
          not_less w n l = test (ltb w n) refl
            where
              test : (t : Bool) → ltb w n ≡ t → ltb w n ≡ false
              test false e = e
              test true e = absurd (let lt = ltb-true w n e in omega arith)

      pub are_columns : AreColumns n ks
      are_columns = record {
        rising = h.rising;
        components = every_of_contained (λ k. k.0 < n) ks (λ k c. inside k ((h.elements k).0 c));
        own = every_of_contained (λ k. (w : ℕ) → n ≤ w → exponent k.1 w ≡ 0) ks (λ k c. own k ((h.elements k).0 c));
      }
        where
          nowhere : (k : Column) → length S.general ≤ k.0 → ¬ (OccursInGeneral S k)
          nowhere k l a = no_monomial k.1 (subst (HasMonomial k.1) (get_or_past S.general k.0 no_form l) a)

          inside : (k : Column) → OccursInGeneral S k → k.0 < n
          inside k a = ⊎_elim (λ l. omega (arith, l, v.components)) (λ l. absurd (nowhere k l a)) (cases_lt k.0 (length S.general))

          own : (k : Column) → OccursInGeneral S k → (w : ℕ) → n ≤ w → exponent k.1 w ≡ 0
          own k a w l =
              let i = inside k a in
              let o = every_contained (λ (t : Triple). (w : ℕ) → n ≤ w → exponent t.1 w ≡ 0) (triples (get_or S.general k.0 no_form)) a.1
              (own_monomials (get_or S.general k.0 no_form) (general_at k.0 (omega (arith, i, v.components)))) (a.0, a.2, a.3) in
              ap (λ m. exponent m w) (sym a.4) ∙ o w l

      -- the fields of the unknowns are 0 in all other columns
      fields_within : Every (IsWithinColumns ks) (unknown_fields S)
      fields_within = each S.unknowns
        where
          zero_there : (f : Unknown) → IsWithinColumns ks (unknown_field S f)
          zero_there f k m = ⊎_elim (λ z. z) (λ q. absurd (there q)) (zero_or_not (field_entry (unknown_field S f) k))
            where
              there : ¬ (field_entry (unknown_field S f) k ≡ pos 0) → ⊥
              there q =
                  let a : OccursInGeneral S k = value_occurs (get_or S.general k.0 no_form) (record { unknown = f.number; counts = [] }) k.1 (λ z. q (entry_is S f k ∙ z)) in
                  every_contained (λ c. ¬ (c ≡ k)) ks k m ((h.elements k).1 a) refl

          each : (fs : List Unknown) → Every (IsWithinColumns ks) (map (unknown_field S) fs)
          each [] = tt
          each (f ∷ fs) = (zero_there f, each fs)

      pub system_basis : IsFinite S → (rs : List Row) → IsReducedBasis (length ks) (λ w. IsSpanned entry (unknown_rows ks S) (entry w)) rs
          → IsFieldBasis n (Gives S) (map (field_of_row n ks) rs)
      system_basis f rs b =
          subst (λ qs. IsFieldBasis n (Gives S) (map (field_of_row n ks) qs)) (sym (made_is rs b))
          (basis_of_system S (finite_is_constant n S v f) n ks are_columns fields_within)

pub columns_inside : (n : ℕ) (S : LinearSystem) (ks : List Column) → IsValid n S → AreGeneralColumns S ks → Every (λ k. k.0 < length S.general) ks
columns_inside n S ks v h =
    every-weaken (λ (k : Column). k.0 < n) (λ (k : Column). k.0 < length S.general) (λ k l. omega (arith, l, v.components)) ks (are_columns S ks h n v).components

pub unknowns_length : (S : LinearSystem) (us : List kept.Unknown) → map unknown_of us ≡ S.unknowns → length S.unknowns ≡ length us
unknowns_length S us e = sym (ap length e) ∙ length-map us unknown_of
