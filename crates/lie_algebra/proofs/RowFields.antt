-- The terms of a row in a component: their sum is within the limits, and it is that of all terms of the row there.
use Rattle.std.specs.Prelude.{◌≡◌, ℕ, zero, suc, ◌+◌, ◌<◌, ◌≤◌, Bool, true, false, not, cond, eqb, List, [], ◌∷◌, ◌++◌, filter, map, drop, length, get_or, ℤ, pos, ◌+ℤ◌, unsigned_abs, Vec}
use Rattle.std.proofs.Common.{refl, sym, ap, ap₂, subst, ◌∙◌, append_assoc, append-nil, arith, ⊎_elim, true≢false, eq-eqb, Ordering, Less, Equal, Greater}
use borrow.Author.Differences.{ints}
use Rattle.std.proofs.Math.ListN.{drop_of_length-le}
use Rattle.std.proofs.lemmas.List.FromFn.{map-range_with_len_more}
use Rattle.std.specs.FinMap.Entries.{by_order}
use Rattle.std.specs.declared.alloc.Global.{Global}
use Rattle.std.specs.List.{AllByRecursion as Every, range_with_len}
use Rattle.std.specs.Ordering.{eq_by_cmp}
use Rattle.lie_math.specs.FiniteSum as finite
use Rattle.lie_math.specs.FiniteSumLaws.{of_same, value-of}
use Rattle.lie_math.specs.Integer.{coefficients, is_zero_int}
use Rattle.lie_math.specs.Limits.{FitsNumber, HasLowExponents, IsWithinLimits, absolutes}
use Rattle.lie_math.specs.Monomial.{Monomial, monomial_cmp}
use Rattle.lie_math.specs.Polynomial.{terms, polynomial_of}
use Rattle.lie_math.specs.SortedSum.{value_at, normal, put_new, add_at}
use Rattle.lie_math.specs.VectorField.{VectorField}
use Rattle.lie_math.proofs.EveryElement.{every-map, every-weaken, every-filter, every-append}
use Rattle.lie_math.proofs.FiniteSum.{key}
use Rattle.lie_math.proofs.Limits.{length-absolutes}
use Rattle.lie_math.proofs.Integer.{zero_or_not}
use Rattle.lie_math.proofs.Tests.{same_number}
use Rattle.lie_rows.proofs.RowLoops.{not_zero_test}
use Rattle.lie_system.proofs.Entries.{at_entry}
use Rattle.lie_systems.specs.Works.{greatest_column_count}
use Rattle.lie_rows.specs.Rows.{rows_of}
use Rattle.lie_rows.proofs.RowLoops.{drop_at}
use Rattle.lie_spans.specs.FieldRows.{row_terms, field_of_row}
use Rattle.lie_spans.specs.Fields.{Column, column_before}
use Rattle.lie_spans.specs.Rows.{Row, HaveLength}
use Rattle.lie_spans.specs.Spans.{EveryTwo}
use Rattle.lie_spans.proofs.FieldRows.{less_apart}
use Rattle.lie_algebra.specs.ColumnLists.{nonzero_row_terms, AreLowTerms}

abbrev Entry : Type 0
Entry = Monomial × ℤ

-- ---- term by term
abbrev one_term : ℕ → Column → ℤ → List Entry
one_term s k x = nonzero_row_terms s (k ∷ []) (x ∷ [])

split_terms : (s : ℕ) (k : Column) (x : ℤ) (ks : List Column) (r : Row)
    → nonzero_row_terms s (k ∷ ks) (x ∷ r) ≡ one_term s k x ++ nonzero_row_terms s ks r
split_terms s k x ks r = at (eqb k.0 s) (is_zero_int x)
  where
    at : (a b : Bool) → filter (λ (t : Entry). not (is_zero_int t.1)) (cond a ((k.1, x) ∷ row_terms s ks r) (row_terms s ks r))
        ≡ filter (λ (t : Entry). not (is_zero_int t.1)) (cond a ((k.1, x) ∷ []) []) ++ nonzero_row_terms s ks r
    at false b = refl
    at true b = by (not (is_zero_int x))
      where
        by : (t : Bool) → cond t ((k.1, x) ∷ nonzero_row_terms s ks r) (nonzero_row_terms s ks r) ≡ cond t ((k.1, x) ∷ []) [] ++ nonzero_row_terms s ks r
        by true = refl
        by false = refl

pub terms_more : (s : ℕ) (ks : List Column) (r : Row) (i : ℕ) (k : Column) (x : ℤ) (out new : List Entry) → i < length ks → i < length r
    → k ≡ get_or ks i k → x ≡ get_or r i x → new ≡ out ++ one_term s k x
    → out ++ nonzero_row_terms s (drop i ks) (drop i r) ≡ nonzero_row_terms s ks r
    → new ++ nonzero_row_terms s (drop (i + 1) ks) (drop (i + 1) r) ≡ nonzero_row_terms s ks r
terms_more s ks r i k x out new lk lr ek er n h =
    ap (λ es. es ++ nonzero_row_terms s (drop (i + 1) ks) (drop (i + 1) r)) n
    ∙ append_assoc out (one_term s k x) (nonzero_row_terms s (drop (i + 1) ks) (drop (i + 1) r))
    ∙ ap (λ es. out ++ es) (sym (split_terms s k x (drop (i + 1) ks) (drop (i + 1) r)))
    ∙ ap₂ (λ js q. out ++ nonzero_row_terms s js q) (sym (drop_at ks i k lk ek)) (sym (drop_at r i x lr er)) ∙ h

pub terms_end : (s : ℕ) (ks : List Column) (r : Row) (i : ℕ) (out : List Entry) → length ks ≤ i
    → out ++ nonzero_row_terms s (drop i ks) (drop i r) ≡ nonzero_row_terms s ks r → out ≡ nonzero_row_terms s ks r
terms_end s ks r i out l h =
    sym (append-nil out) ∙ ap (λ js. out ++ nonzero_row_terms s js (drop i r)) (sym (drop_of_length-le ks l)) ∙ h

-- the term of another component, or of 0, is none; else it is there
pub no_term : (s : ℕ) (k : Column) (x : ℤ) → ¬ (k.0 ≡ s) → one_term s k x ≡ []
no_term s k x n = ap (λ t. filter (λ (t : Entry). not (is_zero_int t.1)) (cond t ((k.1, x) ∷ []) [])) (test (eqb k.0 s) refl)
  where
    test : (t : Bool) → eqb k.0 s ≡ t → eqb k.0 s ≡ false
    test false e = e
    test true e = absurd (n (same_number k.0 s e))

pub zero_term : (s : ℕ) (k : Column) (x : ℤ) → x ≡ pos 0 → one_term s k x ≡ []
zero_term s k x z = ap (λ y. one_term s k y) z ∙ at (eqb k.0 s)
  where
    at : (t : Bool) → filter (λ (t : Entry). not (is_zero_int t.1)) (cond t ((k.1, pos 0) ∷ []) []) ≡ []
    at true = refl
    at false = refl

pub this_term : (s : ℕ) (k : Column) (x : ℤ) → k.0 ≡ s → ¬ (x ≡ pos 0) → one_term s k x ≡ (k.1, x) ∷ []
this_term s k x e n =
    ap (λ t. filter (λ (t : Entry). not (is_zero_int t.1)) (cond t ((k.1, x) ∷ []) [])) (eq-eqb k.0 s e)
    ∙ ap (λ t. cond (not t) ((k.1, x) ∷ []) []) (not_zero_test x n)

pub size_zero : (z : ℤ) → unsigned_abs z ≡ 0 → z ≡ pos 0
size_zero z e = omega (arith, ints)

pub low_more : (es new : List Entry) (e : Entry) → new ≡ es ++ e ∷ [] → HasLowExponents e.0 → FitsNumber e.1 → AreLowTerms es → AreLowTerms new
low_more es new e n l f h = subst AreLowTerms (sym n) (every-append (λ (e : Entry). HasLowExponents e.0 × FitsNumber e.1) es (e ∷ []) h ((l, f), tt))

-- ---- the sum of the terms that are not 0 is that of all
zero_of_test : (z : ℤ) → is_zero_int z ≡ true → z ≡ pos 0
zero_of_test z e = ⊎_elim (λ q. q) (λ n. absurd (true≢false (sym e ∙ not_zero_test z n))) (zero_or_not z)

pub same_sum : (es : List Entry) → polynomial_of (filter (λ (t : Entry). not (is_zero_int t.1)) es) ≡ polynomial_of es
same_sum es = of_same terms (filter (λ (t : Entry). not (is_zero_int t.1)) es) es (λ m. same m es)
  where
    same : (m : Monomial) (es : List Entry) → value_at monomial_cmp coefficients m (filter (λ (t : Entry). not (is_zero_int t.1)) es) ≡ value_at monomial_cmp coefficients m es
    same m [] = refl
    same m (e ∷ es) = at (is_zero_int e.1) refl (same m es)
      where
        at : (t : Bool) → is_zero_int e.1 ≡ t
            → value_at monomial_cmp coefficients m (filter (λ (t : Entry). not (is_zero_int t.1)) es) ≡ value_at monomial_cmp coefficients m es
            → value_at monomial_cmp coefficients m (cond (not (is_zero_int e.1)) (e ∷ filter (λ (t : Entry). not (is_zero_int t.1)) es) (filter (λ (t : Entry). not (is_zero_int t.1)) es)) ≡ value_at monomial_cmp coefficients m (e ∷ es)
        at false q r =
            ap (λ t. value_at monomial_cmp coefficients m (cond (not t) (e ∷ filter (λ (t : Entry). not (is_zero_int t.1)) es) (filter (λ (t : Entry). not (is_zero_int t.1)) es))) q
            ∙ ap (λ z. cond (eq_by_cmp monomial_cmp m e.0) e.1 (pos 0) +ℤ z) r
        at true q r =
            ap (λ t. value_at monomial_cmp coefficients m (cond (not t) (e ∷ filter (λ (t : Entry). not (is_zero_int t.1)) es) (filter (λ (t : Entry). not (is_zero_int t.1)) es))) q
            ∙ r ∙ sym (lib.IntN.+ℤ_idl (value_at monomial_cmp coefficients m es))
            ∙ ap (λ z. z +ℤ value_at monomial_cmp coefficients m es) (sym (nothing (eq_by_cmp monomial_cmp m e.0)))
          where
            nothing : (b : Bool) → cond b e.1 (pos 0) ≡ pos 0
            nothing true = zero_of_test e.1 q
            nothing false = refl

-- ---- the terms have different monomials
abbrev AreApart : Entry → Entry → Type 0
AreApart e f = ¬ (e.0 ≡ f.0)

row_apart : (s : ℕ) (k : Column) → k.0 ≡ s → (ks : List Column) (r : Row) → Every (column_before k) ks → Every (λ (f : Entry). ¬ (k.1 ≡ f.0)) (row_terms s ks r)
row_apart s k e [] r h = tt
row_apart s k e (c ∷ ks) [] h = tt
row_apart s k e (c ∷ ks) (x ∷ r) h = at (eqb c.0 s) refl (row_apart s k e ks r h.1)
  where
    at : (t : Bool) → eqb c.0 s ≡ t → Every (λ (f : Entry). ¬ (k.1 ≡ f.0)) (row_terms s ks r)
        → Every (λ (f : Entry). ¬ (k.1 ≡ f.0)) (cond t ((c.1, x) ∷ row_terms s ks r) (row_terms s ks r))
    at false q g = g
    at true q g = ((λ m. less_apart k c h.0 (λ i. ((e ∙ sym (same_number c.0 s q)) i, m i))), g)

rows_apart : (s : ℕ) (ks : List Column) (r : Row) → EveryTwo column_before ks → EveryTwo AreApart (row_terms s ks r)
rows_apart s [] r h = tt
rows_apart s (k ∷ ks) [] h = tt
rows_apart s (k ∷ ks) (x ∷ r) h = at (eqb k.0 s) refl (rows_apart s ks r h.1)
  where
    at : (t : Bool) → eqb k.0 s ≡ t → EveryTwo AreApart (row_terms s ks r) → EveryTwo AreApart (cond t ((k.1, x) ∷ row_terms s ks r) (row_terms s ks r))
    at false q g = g
    at true q g = (row_apart s k (same_number k.0 s q) ks r h.0, g)

two_filter : (t : Entry → Bool) (es : List Entry) → EveryTwo AreApart es → EveryTwo AreApart (filter t es)
two_filter t [] h = tt
two_filter t (e ∷ es) h = at (t e) (two_filter t es h.1)
  where
    at : (b : Bool) → EveryTwo AreApart (filter t es) → EveryTwo AreApart (cond b (e ∷ filter t es) (filter t es))
    at true g = (every-filter (AreApart e) t es h.0, g)
    at false g = g

two_absolutes : (es : List Entry) → EveryTwo AreApart es → EveryTwo AreApart (absolutes es)
two_absolutes [] h = tt
two_absolutes (e ∷ es) h = (every-map (λ (f : Entry). ¬ (e.0 ≡ f.0)) (λ (f : Entry). (f.0, pos (unsigned_abs f.1))) es h.0, two_absolutes es h.1)

-- ---- so each number of the sum is one of them
value_absent : (m : Monomial) (es : List Entry) → Every (λ (f : Entry). ¬ (m ≡ f.0)) es → value_at monomial_cmp coefficients m es ≡ pos 0
value_absent m [] h = refl
value_absent m (e ∷ es) h = at (eq_by_cmp monomial_cmp m e.0) refl (value_absent m es h.1)
  where
    at : (t : Bool) → eq_by_cmp monomial_cmp m e.0 ≡ t → value_at monomial_cmp coefficients m es ≡ pos 0
        → value_at monomial_cmp coefficients m (e ∷ es) ≡ pos 0
    at true q r = absurd (h.0 (key terms m e.0 q))
    at false q r = ap₂ (λ t z. cond t e.1 (pos 0) +ℤ z) q r

value_is_one : (Q : ℤ → Type 0) → Q (pos 0) → (m : Monomial) (es : List Entry) → EveryTwo AreApart es → Every (λ (e : Entry). Q e.1) es
    → Q (value_at monomial_cmp coefficients m es)
value_is_one Q z m [] h g = z
value_is_one Q z m (e ∷ es) h g = at (eq_by_cmp monomial_cmp m e.0) refl (value_is_one Q z m es h.1 g.1)
  where
    at : (t : Bool) → eq_by_cmp monomial_cmp m e.0 ≡ t → Q (value_at monomial_cmp coefficients m es) → Q (value_at monomial_cmp coefficients m (e ∷ es))
    at true q r =
        subst Q (sym (ap₂ (λ t y. cond t e.1 (pos 0) +ℤ y) q
        (value_absent m es (subst (λ n. Every (λ (f : Entry). ¬ (n ≡ f.0)) es) (sym (key terms m e.0 q)) h.0)) ∙ lib.IntN.+ℤ_idr e.1)) g.0
    at false q r =
        subst Q (sym (ap (λ t. cond t e.1 (pos 0) +ℤ value_at monomial_cmp coefficients m es) q ∙ lib.IntN.+ℤ_idl (value_at monomial_cmp coefficients m es))) r

-- ---- a sum has no more terms than are added
new_length : (b : Bool) (e : Entry) (es : List Entry) → length (cond b es (e ∷ es)) ≤ suc (length es)
new_length true e es = omega arith
new_length false e es = omega arith

add_length : (m : Monomial) (z : ℤ) (es : List Entry) → length (add_at monomial_cmp coefficients m z es) ≤ suc (length es)
add_length m z [] = new_length (is_zero_int z) (m, z) []
add_length m z (e ∷ es) = go (monomial_cmp m e.0) (add_length m z es)
  where
    go : (r : Ordering) → length (add_at monomial_cmp coefficients m z es) ≤ suc (length es)
        → length (by_order r (put_new monomial_cmp coefficients m z (e ∷ es)) (put_new monomial_cmp coefficients m (coefficients.adder.plus z e.1) es)
        (e ∷ add_at monomial_cmp coefficients m z es)) ≤ suc (length (e ∷ es))
    go Less h = new_length (is_zero_int z) (m, z) (e ∷ es)
    go Equal h = let k = new_length (is_zero_int (coefficients.adder.plus z e.1)) (m, coefficients.adder.plus z e.1) es in omega arith
    go Greater h = omega arith

sum_length : (es : List Entry) → length (polynomial_of es).list ≤ length es
unfolding finite.of
sum_length [] = omega arith
sum_length (e ∷ es) = let h = sum_length es in let k = add_length e.0 e.1 (normal monomial_cmp coefficients es) in omega arith

-- ---- within the limits
filter_length : (t : Entry → Bool) (es : List Entry) → length (filter t es) ≤ length es
filter_length t [] = omega arith
filter_length t (e ∷ es) = at (t e) (filter_length t es)
  where
    at : (b : Bool) → length (filter t es) ≤ length es → length (cond b (e ∷ filter t es) (filter t es)) ≤ suc (length es)
    at true h = omega arith
    at false h = omega arith

row_length : (s : ℕ) (ks : List Column) (r : Row) → length (row_terms s ks r) ≤ length ks
row_length s [] r = omega arith
row_length s (k ∷ ks) [] = omega arith
row_length s (k ∷ ks) (x ∷ r) = at (eqb k.0 s) (row_length s ks r)
  where
    at : (b : Bool) → length (row_terms s ks r) ≤ length ks → length (cond b ((k.1, x) ∷ row_terms s ks r) (row_terms s ks r)) ≤ suc (length ks)
    at true h = omega arith
    at false h = omega arith

low_absolutes : (es : List Entry) → AreLowTerms es → AreLowTerms (absolutes es)
low_absolutes [] h = tt
low_absolutes (e ∷ es) h = ((h.0.0, h.0.1), low_absolutes es h.1)

pub sum_within : (s : ℕ) (ks : List Column) (r : Row) (es : List Entry) → es ≡ nonzero_row_terms s ks r → EveryTwo column_before ks
    → length ks ≤ greatest_column_count → AreLowTerms es → IsWithinLimits (polynomial_of (absolutes es))
sum_within s ks r es e h few low = record {
  coefficients = λ m.
      subst FitsNumber (sym (value-of terms (absolutes es) m))
      (value_is_one FitsNumber (omega arith) m (absolutes es) apart (every-weaken (λ (f : Entry). HasLowExponents f.0 × FitsNumber f.1) (λ (f : Entry). FitsNumber f.1) (λ f p. p.1) (absolutes es) (low_absolutes es low)));
  exponents = λ m n.
      at_entry HasLowExponents (absolutes es) (every-weaken (λ (f : Entry). HasLowExponents f.0 × FitsNumber f.1) (λ (f : Entry). HasLowExponents f.0) (λ f p. p.0) (absolutes es) (low_absolutes es low)) m
      (λ z. n (value-of terms (absolutes es) m ∙ z));
  terms =
      let a = sum_length (absolutes es) in
      let b = length-absolutes es in
      let c = filter_length (λ (t : Entry). not (is_zero_int t.1)) (row_terms s ks r) in
      let d = row_length s ks r in
      let f = ap length e in
      omega arith;
}
  where
    apart : EveryTwo AreApart (absolutes es)
    apart = two_absolutes es (subst (EveryTwo AreApart) (sym e) (two_filter (λ (t : Entry). not (is_zero_int t.1)) (row_terms s ks r) (rows_apart s ks r h)))

-- ---- fields
-- one more is made of the next number
pub made_more : {Y : Type 0} (f : ℕ → Y) (n : ℕ) (y : Y) (out new : List Y) → y ≡ f n → new ≡ out ++ y ∷ [] → out ≡ map f (range_with_len 0 n)
    → new ≡ map f (range_with_len 0 (n + 1))
made_more f n y out new e m h = m ∙ ap₂ (λ xs z. xs ++ z ∷ []) h e ∙ sym (map-range_with_len_more f 0 n n (omega arith))

pub field_made : (V : VectorField) (n m : ℕ) (ks : List Column) (r : Row) → V.denominator ≡ 1 → m ≡ n
    → V.parts ≡ map (λ s. polynomial_of (row_terms s ks r)) (range_with_len 0 m) → V ≡ field_of_row n ks r
field_made V n m ks r d e p = λ i. record { denominator = d i; parts = (p ∙ ap (λ k. map (λ s. polynomial_of (row_terms s ks r)) (range_with_len 0 k)) e) i }

pub length_at : (n : ℕ) (rs : List (Vec ℤ Global)) (i : ℕ) (r : Vec ℤ Global) → i < length rs → r ≡ get_or rs i r → HaveLength n (rows_of rs) → length r.items ≡ n
length_at n [] i r l e h = absurd (omega arith)
length_at n (x ∷ rs) zero r l e h = ap (λ (v : Vec ℤ Global). length v.items) e ∙ h.0
length_at n (x ∷ rs) (suc i) r l e h = length_at n rs i r (omega arith) e h.1

pub fields_more : (n : ℕ) (ks : List Column) (rs : List (Vec ℤ Global)) (i : ℕ) (r : Vec ℤ Global) (V : VectorField) (out new : List VectorField) → i < length rs → r ≡ get_or rs i r
    → V ≡ field_of_row n ks r.items → new ≡ out ++ V ∷ [] → out ++ map (field_of_row n ks) (rows_of (drop i rs)) ≡ map (field_of_row n ks) (rows_of rs)
    → new ++ map (field_of_row n ks) (rows_of (drop (i + 1) rs)) ≡ map (field_of_row n ks) (rows_of rs)
fields_more n ks rs i r V out new l e v m h =
    ap (λ xs. xs ++ map (field_of_row n ks) (rows_of (drop (i + 1) rs))) m ∙ append_assoc out (V ∷ []) (map (field_of_row n ks) (rows_of (drop (i + 1) rs)))
    ∙ ap (λ y. out ++ y ∷ map (field_of_row n ks) (rows_of (drop (i + 1) rs))) v
    ∙ ap (λ xs. out ++ map (field_of_row n ks) (rows_of xs)) (sym (drop_at rs i r l e)) ∙ h

pub fields_end : (n : ℕ) (ks : List Column) (rs : List (Vec ℤ Global)) (i : ℕ) (out : List VectorField) → length rs ≤ i
    → out ++ map (field_of_row n ks) (rows_of (drop i rs)) ≡ map (field_of_row n ks) (rows_of rs) → out ≡ map (field_of_row n ks) (rows_of rs)
fields_end n ks rs i out l h = sym (append-nil out) ∙ ap (λ xs. out ++ map (field_of_row n ks) (rows_of xs)) (sym (drop_of_length-le rs l)) ∙ h
