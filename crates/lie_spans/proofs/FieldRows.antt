-- The entries of a field made of a row: the row's numbers in its columns, and 0 elsewhere.
use Rattle.std.specs.Prelude.{◌≡◌, ℕ, zero, suc, ◌<◌, ◌≤◌, ◌⊎◌, Bool, true, false, T, cond, eqb, ltb, List, [], ◌∷◌, map, length, get_or, ℤ, pos, ◌+ℤ◌}
use Rattle.std.proofs.Common.{refl, sym, ap, ap₂, subst, ◌∙◌, arith, inl, inr, ⊎_elim, true≢false, eqb→eq, eq-eqb, is_eq}
use Rattle.std.specs.List.{AllByRecursion as Every, range_with_len}
use Rattle.std.specs.Ordering.{eq_by_cmp}
use Rattle.std.specs.Cmp.{tied_itself}
use Rattle.std.proofs.lemmas.Bool.{cases_lt}
use Rattle.std.proofs.lemmas.List.{get_or_past}
use Rattle.std.proofs.lemmas.List.FromFn.{get_or-map-range_with_len, length-map-range_with_len}
use lib.IntN.{+ℤ_idl, +ℤ_idr}
use Rattle.lie_math.specs.Integer.{coefficients}
use Rattle.lie_math.specs.Monomial.{Monomial, monomial_cmp, exponent}
use Rattle.lie_math.specs.MonomialOrder.{monomial_cmp_total}
use Rattle.lie_math.specs.Polynomial.{terms, 0ᴾ, polynomial_of, coefficient}
use Rattle.lie_math.specs.SortedSum.{value_at}
use Rattle.lie_math.specs.FiniteSumLaws.{value-of, value-none}
use Rattle.lie_math.specs.Variables.{IsIn}
use Rattle.lie_math.specs.VectorField.{component}
use Rattle.lie_math.proofs.FiniteSum.{key}
use Rattle.lie_spans.specs.Spans.{EveryTwo}
use Rattle.lie_spans.specs.Rows.{Row, entry}
use Rattle.lie_spans.specs.Fields.{Column, column_cmp, column_before, field_entry, IsFieldIn}
use Rattle.lie_spans.specs.FieldRows.{AreColumns, row_terms, field_of_row}
use Rattle.lie_math.proofs.EveryElement.{every-weaken, every_at}
use Rattle.lie_spans.proofs.FieldBasis.{column_cmp_total}

-- ---- columns that are told apart
-- the number x of the column c, as it counts in the column k
abbrev pub counted : Column → Column → ℤ → ℤ
counted k c x = cond (eqb c.0 k.0) (cond (eq_by_cmp monomial_cmp k.1 c.1) x (pos 0)) (pos 0)

test_of : (b : Bool) → b ≡ true → T b
test_of b e = subst T (sym e) tt

same_column_of : (k c : Column) → eqb c.0 k.0 ≡ true → eq_by_cmp monomial_cmp k.1 c.1 ≡ true → c ≡ k
same_column_of k c e f =
    let s : c.0 ≡ k.0 = eqb→eq c.0 k.0 (test_of _ e) in
    let m : k.1 ≡ c.1 = key terms k.1 c.1 f in
    λ i. (s i, sym m i)

counted_here : (k : Column) (x : ℤ) → counted k k x ≡ x
counted_here k x =
    ap (λ b. cond b (cond (eq_by_cmp monomial_cmp k.1 k.1) x (pos 0)) (pos 0)) (eq-eqb k.0 k.0 refl)
    ∙ ap (λ b. cond b x (pos 0)) (ap is_eq (tied_itself monomial_cmp_total k.1))

counted_there : (k c : Column) (x : ℤ) → ¬ (c ≡ k) → counted k c x ≡ pos 0
counted_there k c x n =
    elim (eqb c.0 k.0) as (λ b. eqb c.0 k.0 ≡ b → cond b (cond (eq_by_cmp monomial_cmp k.1 c.1) x (pos 0)) (pos 0) ≡ pos 0) [
      | false ↦ λ e. refl
      | true ↦ λ e. elim (eq_by_cmp monomial_cmp k.1 c.1) as (λ b. eq_by_cmp monomial_cmp k.1 c.1 ≡ b → cond b x (pos 0) ≡ pos 0) [
        | false ↦ λ f. refl
        | true ↦ λ f. absurd (n (same_column_of k c e f))
      ] refl
    ] refl

same_or_other : (k c : Column) → (c ≡ k) ⊎ ¬ (c ≡ k)
same_or_other k c =
    elim (eqb c.0 k.0) as (λ b. eqb c.0 k.0 ≡ b → (c ≡ k) ⊎ ¬ (c ≡ k)) [
      | false ↦ λ e. inr (λ q. true≢false (sym (eq-eqb c.0 k.0 (ap (λ (d : Column). d.0) q)) ∙ e))
      | true ↦ λ e. elim (eq_by_cmp monomial_cmp k.1 c.1) as (λ b. eq_by_cmp monomial_cmp k.1 c.1 ≡ b → (c ≡ k) ⊎ ¬ (c ≡ k)) [
        | false ↦ λ f. inr (λ q. true≢false (sym (ap (eq_by_cmp monomial_cmp k.1) (ap (λ (d : Column). d.1) q) ∙ ap is_eq (tied_itself monomial_cmp_total k.1)) ∙ f))
        | true ↦ λ f. inl (same_column_of k c e f)
      ] refl
    ] refl

-- k stands at a place, or is none of the columns
pub placed : (ks : List Column) (k : Column) → ((i : ℕ) × (i < length ks) × (k ≡ get_or ks i k)) ⊎ Every (λ c. ¬ (c ≡ k)) ks
placed [] k = inr tt
placed (c ∷ ks) k = ⊎_elim
    (λ e. inl (0, omega arith, sym e))
    (λ n. ⊎_elim (λ p. inl (suc p.0, (let l = p.1 in omega arith), p.2)) (λ m. inr (n, m)) (placed ks k))
    (same_or_other k c)

-- ---- the entries
-- the number of a row in the column k
abbrev pub value_in : List Column → Row → Column → ℤ
value_in [] r k = pos 0
value_in (c ∷ ks) [] k = pos 0
value_in (c ∷ ks) (x ∷ r) k = counted k c x +ℤ value_in ks r k

value_of_terms : (s : ℕ) (m : Monomial) (ks : List Column) (r : Row) → value_at monomial_cmp coefficients m (row_terms s ks r) ≡ value_in ks r (s, m)
value_of_terms s m [] r = refl
value_of_terms s m (c ∷ ks) [] = refl
value_of_terms s m (c ∷ ks) (x ∷ r) =
    elim (eqb c.0 s) as (λ b. value_at monomial_cmp coefficients m (cond b ((c.1, x) ∷ row_terms s ks r) (row_terms s ks r)) ≡ cond b (cond (eq_by_cmp monomial_cmp m c.1) x (pos 0)) (pos 0) +ℤ value_in ks r (s, m)) [
      | true ↦ ap (λ z. cond (eq_by_cmp monomial_cmp m c.1) x (pos 0) +ℤ z) (value_of_terms s m ks r)
      | false ↦ value_of_terms s m ks r ∙ sym (+ℤ_idl (value_in ks r (s, m)))
    ]

-- in other columns a row has nothing
pub value_elsewhere : (ks : List Column) (r : Row) (k : Column) → Every (λ c. ¬ (c ≡ k)) ks → value_in ks r k ≡ pos 0
value_elsewhere [] r k h = refl
value_elsewhere (c ∷ ks) [] k h = refl
value_elsewhere (c ∷ ks) (x ∷ r) k h = ap₂ ◌+ℤ◌ (counted_there k c x h.0) (value_elsewhere ks r k h.1)

pub less_apart : (c k : Column) → column_before c k → ¬ (c ≡ k)
less_apart c k l e = true≢false (sym (ap is_eq (tied_itself column_cmp_total k)) ∙ ap is_eq (ap (λ d. column_cmp d k) (sym e) ∙ l))

-- at the place of a column it has its entry there
pub value_at_place : (ks : List Column) (r : Row) (i : ℕ) (k : Column) → EveryTwo column_before ks → length r ≡ length ks → i < length ks → k ≡ get_or ks i k → value_in ks r k ≡ entry r i
value_at_place [] r i k h l m e = absurd (omega arith)
value_at_place (c ∷ ks) [] i k h l m e = absurd (omega arith)
value_at_place (c ∷ ks) (x ∷ r) zero k h l m e =
    ap₂ ◌+ℤ◌ (ap (λ d. counted k d x) (sym e) ∙ counted_here k x)
    (value_elsewhere ks r k (every-weaken (column_before c) (λ d. ¬ (d ≡ k)) (λ d b q. less_apart c d b (sym e ∙ sym q)) ks h.0))
    ∙ +ℤ_idr x
value_at_place (c ∷ ks) (x ∷ r) (suc i) k h l m e =
    ap₂ ◌+ℤ◌ (counted_there k c x (less_apart c k (every_at (column_before c) ks i k (omega arith) e h.0)))
    (value_at_place ks r i k h.1 (omega arith) (omega arith) e)
    ∙ +ℤ_idl (entry r i)

module _ (n : ℕ) (ks : List Column) (h : AreColumns n ks) (r : Row) where
  part_of : (s : ℕ) → s < n → component (field_of_row n ks r) s ≡ polynomial_of (row_terms s ks r)
  part_of s l = get_or-map-range_with_len (λ t. polynomial_of (row_terms t ks r)) 0 n s s 0ᴾ l (omega arith)

  entry_inside : (k : Column) → k.0 < n → field_entry (field_of_row n ks r) k ≡ value_in ks r k
  entry_inside k l = ap (λ p. coefficient p k.1) (part_of k.0 l) ∙ value-of terms (row_terms k.0 ks r) k.1 ∙ value_of_terms k.0 k.1 ks r

  -- the entry in another column is 0
  pub entry_elsewhere : (k : Column) → Every (λ c. ¬ (c ≡ k)) ks → field_entry (field_of_row n ks r) k ≡ pos 0
  entry_elsewhere k m = ⊎_elim
      (λ l. entry_inside k l ∙ value_elsewhere ks r k m)
      (λ l. ap (λ p. coefficient p k.1) (get_or_past (field_of_row n ks r).parts k.0 0ᴾ (omega (arith, length-map-range_with_len (λ t. polynomial_of (row_terms t ks r)) 0 n))) ∙ value-none terms k.1)
      (cases_lt k.0 n)

  -- the entry at the place of a column is the row's
  pub entry_at_place : length r ≡ length ks → (i : ℕ) (k : Column) → i < length ks → k ≡ get_or ks i k → field_entry (field_of_row n ks r) k ≡ entry r i
  entry_at_place l i k m e = entry_inside k (every_at (λ c. c.0 < n) ks i k m e h.components) ∙ value_at_place ks r i k h.rising l m e

  -- it is a field in the variables below n
  pub field_of_is : IsFieldIn n (field_of_row n ks r)
  field_of_is = record {
    positive = omega arith;
    size = length-map-range_with_len (λ t. polynomial_of (row_terms t ks r)) 0 n;
    own = every_part (range_with_len 0 n);
  }
    where
      every_part : (ss : List ℕ) → Every (IsIn (λ v. ltb v n)) (map (λ t. polynomial_of (row_terms t ks r)) ss)
      every_part [] = tt
      every_part (s ∷ ss) = (
        (λ w out m c. ⊎_elim
            (λ p. own_at (s, m) p.0 p.1 p.2 w (outside w out))
            (λ e. absurd (c (value-of terms (row_terms s ks r) m ∙ value_of_terms s m ks r ∙ value_elsewhere ks r (s, m) e)))
            (placed ks (s, m))),
        every_part ss,
      )
        where
          own_at : (k : Column) (i : ℕ) → i < length ks → k ≡ get_or ks i k → (w : ℕ) → n ≤ w → exponent k.1 w ≡ 0
          own_at k i m e w l = every_at (λ c. (u : ℕ) → n ≤ u → exponent c.1 u ≡ 0) ks i k m e h.own w l

          outside : (w : ℕ) → ltb w n ≡ false → n ≤ w
          outside w e = grind arith
