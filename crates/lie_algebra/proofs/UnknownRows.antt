-- The rows of the unknowns of a system, entry by entry.
use Rattle.std.specs.Prelude.{◌≡◌, ℕ, zero, suc, ◌+◌, ◌<◌, ◌≤◌, Bool, true, false, cond, T, List, [], ◌∷◌, ◌++◌, map, drop, length, get_or, ℤ, pos, ◌+ℤ◌, Vec, Result, MatchResult}
use Rattle.std.proofs.Common.{refl, sym, ap, ap₂, subst, ◌∙◌, append_assoc, append-nil, arith, ⊎_elim, true≢false, Ordering, Less, Equal, Greater, is_eq}
use Rattle.std.proofs.Math.ListN.{drop_of_length-le}
use Rattle.std.proofs.lemmas.Bool.{cases_lt}
use Rattle.std.proofs.lemmas.List.{length-map}
use Rattle.std.specs.Cmp.{tied_itself}
use Rattle.std.specs.declared.alloc.Global.{Global}
use Rattle.std.specs.List.{AllByRecursion as Every}
use Rattle.std.specs.List.Sorted.{IsStrictlySortedBy, IsSearchInRange, IsBinarySearchResult}
use Rattle.std.specs.Ordering.{eq_by_cmp}
use Rattle.lie_math.specs.Canonical.{value_at-head, first, second}
use Rattle.lie_math.specs.Counts.{Derivative, derivative_cmp}
use Rattle.lie_math.specs.DerivativeOrder.{derivative_cmp_total, derivative_same}
use Rattle.lie_math.specs.FiniteSum as finite
use Rattle.lie_math.specs.FiniteSum.{IsCanonical}
use Rattle.lie_math.specs.FiniteSumLaws.{of_list, value-of, value-none}
use Rattle.lie_math.specs.Integer.{coefficients}
use Rattle.lie_math.specs.LinearForm.{LinearForm, forms, no_form}
use Rattle.lie_math.specs.LinearSystem.{LinearSystem, Unknown}
use Rattle.lie_math.specs.Monomial.{Monomial, monomial_cmp}
use Rattle.lie_math.specs.MonomialOrder.{monomial_cmp_total, monomial_cmp-IsAntisymmetric}
use Rattle.lie_math.specs.Polynomial.{WholePolynomial, terms, 0ᴾ, coefficient, polynomial_of}
use Rattle.lie_math.specs.SortedSum.{value_at, below_all}
use Rattle.lie_math.proofs.CanonicalLists.{canonical_below, canonical_tail}
use Rattle.lie_math.proofs.FiniteSum.{key}
use Rattle.lie_math.proofs.Rising.{is_less}
use Rattle.lie_math.proofs.SortedLists.{less_equal}
use Rattle.lie_jet.specs.Derivatives.{derivative_of}
use Rattle.lie_jet.specs.declared.derivative.Der.{Der}
use Rattle.lie_lin.specs.declared.system.Unknown as kept
use Rattle.lie_lin.specs.EquationLists.{IsInsertionPoint}
use Rattle.lie_lin.specs.Forms.{coefficients_of, AreCoefficients}
use Rattle.lie_lin.specs.Systems.{unknown_of}
use Rattle.lie_rows.specs.Rows.{rows_of}
use Rattle.lie_rows.proofs.RowLists.{rows_of_append}
use Rattle.lie_rows.proofs.RowLoops.{drop_at}
use Rattle.lie_spans.specs.ConstantSystems.{unknown_field}
use Rattle.lie_spans.specs.FieldRows.{row_of_field}
use Rattle.lie_spans.specs.Fields.{Column, field_entry}
use Rattle.lie_spans.specs.Rows.{Row}
use Rattle.lie_algebra.specs.ColumnLists.{unknown_entry}
use Rattle.lie_algebra.specs.GeneralColumns.{unknown_rows}
use Rattle.lie_algebra.proofs.FiniteLists.{same_read}
use Rattle.lie_algebra.proofs.Halving.{searched}

-- ---- the coefficient of a derivative in listed terms
-- what is left of the terms has the coefficient
abbrev pub HasValue : Derivative → List (Der × WholePolynomial) → WholePolynomial → Type 0
HasValue d es p = value_at derivative_cmp forms.values d (coefficients_of es) ≡ p

pub value_passed : (d : Derivative) (es : List (Der × WholePolynomial)) (i : ℕ) (x : Der × WholePolynomial) (p : WholePolynomial) → i < length es
    → x ≡ get_or es i x → is_eq (derivative_cmp d (derivative_of x.0)) ≡ false → HasValue d (drop i es) p → HasValue d (drop (i + 1) es) p
value_passed d es i x p l e n h =
    sym (forms.values.adder.idl _)
    ∙ ap (λ t. forms.values.adder.plus (cond t x.1 0ᴾ) (value_at derivative_cmp forms.values d (coefficients_of (drop (i + 1) es)))) (sym n)
    ∙ ap (λ xs. value_at derivative_cmp forms.values d (coefficients_of xs)) (sym (drop_at es i x l e)) ∙ h

canonical_rest : (es : List (Der × WholePolynomial)) (i : ℕ) → AreCoefficients es → AreCoefficients (drop i es)
canonical_rest es zero h = h
canonical_rest [] (suc i) h = h
canonical_rest (e ∷ es) (suc i) h = canonical_rest es i (canonical_tail forms (derivative_of e.0, e.1) (coefficients_of es) h)

pub value_found : (d : Derivative) (es : List (Der × WholePolynomial)) (i : ℕ) (x : Der × WholePolynomial) (p : WholePolynomial) → AreCoefficients es
    → i < length es → x ≡ get_or es i x → is_eq (derivative_cmp d (derivative_of x.0)) ≡ true → HasValue d (drop i es) p → x.1 ≡ p
value_found d es i x p c l e n h =
    let s : drop i es ≡ x ∷ drop (i + 1) es = drop_at es i x l e in
    let k : AreCoefficients (x ∷ drop (i + 1) es) = subst AreCoefficients s (canonical_rest es i c) in
    sym (value_at-head derivative_cmp forms.values derivative_cmp_total derivative_same (derivative_of x.0, x.1) (coefficients_of (drop (i + 1) es))
    (canonical_below forms (derivative_of x.0, x.1) (coefficients_of (drop (i + 1) es)) k))
    ∙ ap (λ f. value_at derivative_cmp forms.values f (coefficients_of (x ∷ drop (i + 1) es))) (sym (key forms d (derivative_of x.0) n))
    ∙ ap (λ xs. value_at derivative_cmp forms.values d (coefficients_of xs)) (sym s) ∙ h

pub value_past : (d : Derivative) (es : List (Der × WholePolynomial)) (i : ℕ) (p : WholePolynomial) → length es ≤ i → HasValue d (drop i es) p → 0ᴾ ≡ p
value_past d es i p l h = ap (λ xs. value_at derivative_cmp forms.values d (coefficients_of xs)) (sym (drop_of_length-le es l)) ∙ h

pub nothing_listed : 0ᴾ.list ≡ []
unfolding finite.none finite.of
nothing_listed = refl

-- ---- the number of a monomial in listed terms
pub keys_rise : (es : List (Monomial × ℤ)) → IsCanonical terms es → IsStrictlySortedBy monomial_cmp (map (λ e. e.0) es)
unfolding IsStrictlySortedBy
keys_rise [] h = tt
keys_rise (e ∷ es) h = (below es (canonical_below terms e es h), keys_rise es (canonical_tail terms e es h))
  where
    below : (fs : List (Monomial × ℤ)) → T (below_all monomial_cmp coefficients e.0 fs) → Every (λ m. monomial_cmp e.0 m ≡ Less) (map (λ e. e.0) fs)
    below [] b = tt
    below (f ∷ fs) b = (is_less (monomial_cmp e.0 f.0) (first _ (below_all monomial_cmp coefficients e.0 fs) b), below fs (second _ _ b))

pub number_found : (m : Monomial) (es : List (Monomial × ℤ)) (i : ℕ) (x : Monomial × ℤ) → IsCanonical terms es → i < length es → x ≡ get_or es i x
    → x.0 ≡ m → x.1 ≡ coefficient (polynomial_of es) m
number_found m es i x h l e k = at es i h l e ∙ sym (value-of terms es m)
  where
    at : (es : List (Monomial × ℤ)) (i : ℕ) → IsCanonical terms es → i < length es → x ≡ get_or es i x → x.1 ≡ value_at monomial_cmp coefficients m es
    at [] i h l e = absurd (omega arith)
    at (f ∷ es) zero h l e =
        ap (λ (y : Monomial × ℤ). y.1) e
        ∙ sym (value_at-head monomial_cmp coefficients monomial_cmp_total monomial_cmp-IsAntisymmetric f es (canonical_below terms f es h))
        ∙ ap (λ q. value_at monomial_cmp coefficients q (f ∷ es)) (sym (ap (λ (y : Monomial × ℤ). y.0) e) ∙ k)
    at (f ∷ es) (suc i) h l e =
        at es i (canonical_tail terms f es h) (omega arith) e
        ∙ sym (lib.IntN.+ℤ_idl (value_at monomial_cmp coefficients m es))
        ∙ ap (λ t. cond t f.1 (pos 0) +ℤ value_at monomial_cmp coefficients m es) (sym (later (eq_by_cmp monomial_cmp m f.0) refl))
      where
        later : (t : Bool) → eq_by_cmp monomial_cmp m f.0 ≡ t → eq_by_cmp monomial_cmp m f.0 ≡ false
        later false q = q
        later true q = absurd (less_equal (behind es i (canonical_below terms f es h) (omega arith) e) (ap (monomial_cmp f.0) (k ∙ key terms m f.0 q) ∙ tied_itself monomial_cmp_total f.0))
          where
            behind : (gs : List (Monomial × ℤ)) (j : ℕ) → T (below_all monomial_cmp coefficients f.0 gs) → j < length gs → x ≡ get_or gs j x → monomial_cmp f.0 x.0 ≡ Less
            behind [] j b lt q = absurd (omega arith)
            behind (g ∷ gs) zero b lt q =
                ap (λ (y : Monomial × ℤ). monomial_cmp f.0 y.0) q ∙ is_less (monomial_cmp f.0 g.0) (first _ (below_all monomial_cmp coefficients f.0 gs) b)
            behind (g ∷ gs) (suc j) b lt q = behind gs j (second _ _ b) (omega arith) q

pub number_read : (m : Monomial) (es : List (Monomial × ℤ)) (i : ℕ) (d : Monomial × ℤ) → IsCanonical terms es → i < length es
    → ((d : Monomial × ℤ) → (get_or es i d).0 ≡ m) → (get_or es i d).1 ≡ coefficient (polynomial_of es) m
number_read m es i d h l k = number_found m es i (get_or es i d) h l (same_read es i d (get_or es i d) l) (k d)

pub term_searched : (m : Monomial) (es : List (Monomial × ℤ)) (r : Result ℕ ℕ) → IsCanonical terms es → IsSearchInRange r (length es)
    → IsBinarySearchResult (λ (e : Monomial × ℤ). monomial_cmp e.0 m) es r
    → MatchResult r (λ i. (i < length es) × ((d : Monomial × ℤ) → (get_or es i d).0 ≡ m)) (IsInsertionPoint monomial_cmp m (map (λ e. e.0) es))
term_searched m es r h b p = searched monomial_cmp monomial_cmp_total monomial_cmp-IsAntisymmetric (λ (e : Monomial × ℤ). e.0) m es r (keys_rise es h) b p

-- the terms of a polynomial tell its numbers
pub number_of_terms : (es : List (Monomial × ℤ)) (p : WholePolynomial) (m n : Monomial) → es ≡ p.list → m ≡ n → coefficient (polynomial_of es) m ≡ coefficient p n
number_of_terms es p m n e q = ap₂ (λ xs l. coefficient (polynomial_of xs) l) e q ∙ ap (λ r. coefficient r n) (of_list terms p)

pub number_missing : (m : Monomial) (es : List (Monomial × ℤ)) (i : ℕ) → IsInsertionPoint monomial_cmp m (map (λ e. e.0) es) i
    → pos 0 ≡ coefficient (polynomial_of es) m
number_missing m es i p = sym (value-of terms es m ∙ absent es (λ k d l. apart k d (omega (arith, l, length-map es (λ (e : Monomial × ℤ). e.0)))))
  where
    equal_greater : {r : Ordering} → r ≡ Equal → r ≡ Greater → ⊥
    equal_greater f g = true≢false (sym (ap is_eq f) ∙ ap is_eq g)

    apart : (k : ℕ) (d : Monomial) → k < length (map (λ (e : Monomial × ℤ). e.0) es) → ¬ (m ≡ get_or (map (λ (e : Monomial × ℤ). e.0) es) k d)
    apart k d l e = ⊎_elim
        (λ b. equal_greater (ap (monomial_cmp m) (sym e) ∙ tied_itself monomial_cmp_total m) (p.above k d b))
        (λ b. less_equal (p.below k d b l) (ap (monomial_cmp m) (sym e) ∙ tied_itself monomial_cmp_total m))
        (cases_lt k i)

    absent : (es : List (Monomial × ℤ)) → ((k : ℕ) (d : Monomial) → k < length es → ¬ (m ≡ get_or (map (λ (e : Monomial × ℤ). e.0) es) k d))
        → value_at monomial_cmp coefficients m es ≡ pos 0
    absent [] h = refl
    absent (e ∷ es) h = at (eq_by_cmp monomial_cmp m e.0) refl (absent es (λ k d l. h (suc k) d (omega arith)))
      where
        at : (t : Bool) → eq_by_cmp monomial_cmp m e.0 ≡ t → value_at monomial_cmp coefficients m es ≡ pos 0 → value_at monomial_cmp coefficients m (e ∷ es) ≡ pos 0
        at true q r = absurd (h 0 m (omega arith) (key terms m e.0 q))
        at false q r = ap₂ (λ t z. cond t e.1 (pos 0) +ℤ z) q r

-- ---- the row of one unknown
pub row_more : (f : Column → ℤ) (ks : List Column) (i : ℕ) (k : Column) (z : ℤ) (out new : Row) → i < length ks → k ≡ get_or ks i k → z ≡ f k
    → new ≡ out ++ z ∷ [] → out ++ map f (drop i ks) ≡ map f ks → new ++ map f (drop (i + 1) ks) ≡ map f ks
row_more f ks i k z out new l e v n h =
    ap (λ xs. xs ++ map f (drop (i + 1) ks)) n ∙ append_assoc out (z ∷ []) (map f (drop (i + 1) ks))
    ∙ ap (λ y. out ++ y ∷ map f (drop (i + 1) ks)) v ∙ ap (λ xs. out ++ map f xs) (sym (drop_at ks i k l e)) ∙ h

pub row_end : (f : Column → ℤ) (ks : List Column) (i : ℕ) (out : Row) → length ks ≤ i → out ++ map f (drop i ks) ≡ map f ks → out ≡ map f ks
row_end f ks i out l h = sym (append-nil out) ∙ ap (λ xs. out ++ map f xs) (sym (drop_of_length-le ks l)) ∙ h

-- the field that the system gives has these entries
component_is : (Es : List LinearForm) (d : Derivative) (s : ℕ) → get_or (map (λ E. finite.value forms E d) Es) s 0ᴾ ≡ finite.value forms (get_or Es s no_form) d
component_is [] d s = sym (value-none forms d)
component_is (E ∷ Es) d zero = refl
component_is (E ∷ Es) d (suc s) = component_is Es d s

pub entry_is : (S : LinearSystem) (f : Unknown) (k : Column) → field_entry (unknown_field S f) k ≡ unknown_entry S.general f.number k
entry_is S f k = ap (λ p. coefficient p k.1) (component_is S.general (record { unknown = f.number; counts = [] }) k.0)

same_map : {X Y : Type 0} (f g : X → Y) (xs : List X) → ((x : X) → f x ≡ g x) → map f xs ≡ map g xs
same_map f g [] h = refl
same_map f g (x ∷ xs) h = ap₂ ◌∷◌ (h x) (same_map f g xs h)

-- the form at a place
pub form_read : (Es : List LinearForm) (i s : ℕ) (E : LinearForm) → E ≡ get_or Es i E → i < length Es → i ≡ s → E ≡ get_or Es s no_form
form_read Es i s E e l q = e ∙ same_read Es i E no_form l ∙ ap (λ k. get_or Es k no_form) q

-- ---- the rows of all unknowns
abbrev pub rows_from : List Column → List LinearForm → List kept.Unknown → List Row
rows_from ks Es [] = []
rows_from ks Es (u ∷ us) = map (unknown_entry Es u.number) ks ∷ rows_from ks Es us

pub rows_more : (ks : List Column) (Es : List LinearForm) (us : List kept.Unknown) (i : ℕ) (d : kept.Unknown) (row : Vec ℤ Global) (out new : List (Vec ℤ Global))
    → i < length us → row.items ≡ map (unknown_entry Es (get_or us i d).number) ks → new ≡ out ++ row ∷ []
    → rows_of out ++ rows_from ks Es (drop i us) ≡ rows_from ks Es us → rows_of new ++ rows_from ks Es (drop (i + 1) us) ≡ rows_from ks Es us
rows_more ks Es us i d row out new l v n h =
    ap (λ xs. rows_of xs ++ rows_from ks Es (drop (i + 1) us)) n ∙ ap (λ xs. xs ++ rows_from ks Es (drop (i + 1) us)) (rows_of_append out (row ∷ []))
    ∙ append_assoc (rows_of out) (row.items ∷ []) (rows_from ks Es (drop (i + 1) us))
    ∙ ap (λ y. rows_of out ++ y ∷ rows_from ks Es (drop (i + 1) us)) v
    ∙ ap (λ xs. rows_of out ++ rows_from ks Es xs) (sym (drop_at us i (get_or us i d) l (same_read us i d (get_or us i d) l))) ∙ h

pub rows_end : (ks : List Column) (S : LinearSystem) (us : List kept.Unknown) (i : ℕ) (out : List (Vec ℤ Global)) → map unknown_of us ≡ S.unknowns → length us ≤ i
    → rows_of out ++ rows_from ks S.general (drop i us) ≡ rows_from ks S.general us → rows_of out ≡ unknown_rows ks S
rows_end ks S us i out e l h =
    sym (append-nil (rows_of out)) ∙ ap (λ xs. rows_of out ++ rows_from ks S.general xs) (sym (drop_of_length-le us l)) ∙ h
    ∙ rows_are us ∙ ap (λ fs. map (row_of_field ks) (map (unknown_field S) fs)) e
  where
    rows_are : (us : List kept.Unknown) → rows_from ks S.general us ≡ map (row_of_field ks) (map (unknown_field S) (map unknown_of us))
    rows_are [] = refl
    rows_are (u ∷ us) = ap₂ ◌∷◌ (same_map (unknown_entry S.general u.number) (field_entry (unknown_field S (unknown_of u))) ks (λ k. sym (entry_is S (unknown_of u) k))) (rows_are us)
