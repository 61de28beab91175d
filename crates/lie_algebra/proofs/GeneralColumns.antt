-- The columns of a general form: there is one list of them.
use Rattle.std.specs.Prelude.{◌≡◌, ℕ, zero, suc, ◌+◌, ◌↔◌, List, [], ◌∷◌, get_or}
use Rattle.std.proofs.Common.{sym, ap, subst, arith, ⊎_elim}
use Rattle.std.proofs.lemmas.List.Elements.{Contains-append_left, Contains-append_right, Contains-append_cases}
use Rattle.std.specs.List.{Any, Contains}
use Rattle.lie_math.specs.FiniteSum as finite
use Rattle.lie_math.specs.LinearForm.{LinearForm, no_form}
use Rattle.lie_math.specs.LinearSystem.{LinearSystem}
use Rattle.lie_math.specs.Monomial.{Monomial}
use Rattle.lie_math.proofs.ContainedElements.{contained_map, contains-map, contains_nothing}
use Rattle.lie_math.proofs.SortedLists.{sorted_unique}
use Rattle.lie_systems.specs.Triples.{Triple, triples}
use Rattle.lie_spans.specs.Fields.{Column, column_cmp}
use Rattle.lie_spans.proofs.FieldBasis.{column_cmp_total, column_same}
use Rattle.lie_algebra.specs.GeneralColumns.{OccursInGeneral, AreGeneralColumns}
use Rattle.lie_algebra.specs.ColumnLists.{form_columns, listed_columns}
use Rattle.lie_algebra.proofs.ColumnLists.{ordered, rising_of_sorted, sorted_of_rising}

-- a triple of the form has the monomial
abbrev pub HasMonomial : Monomial → LinearForm → Type 0
HasMonomial m E = Any (λ (t : Triple). t.1 ≡ m) (triples E)

in_form : (s : ℕ) (E : LinearForm) (k : Column) → k.0 ≡ s → HasMonomial k.1 E → Contains (form_columns s E) k
in_form s E k e (i, t, l, is, m) =
    subst (Contains (form_columns s E)) (λ j. (sym e j, m j)) (contains-map (λ (t : Triple). (s, t.1)) (triples E) t (i, l, is))

of_form : (s : ℕ) (E : LinearForm) (k : Column) → Contains (form_columns s E) k → (k.0 ≡ s) × HasMonomial k.1 E
of_form s E k c =
    let r = contained_map (λ (t : Triple). (s, t.1)) (triples E) k c in
    (sym (ap (λ (x : Column). x.0) r.2), ((r.1).0, r.0, (r.1).1, (r.1).2, ap (λ (x : Column). x.1) r.2))

pub no_monomial : (m : Monomial) → ¬ (HasMonomial m no_form)
unfolding finite.none finite.of
no_monomial m a = absurd (omega (arith, a.2))

in_forms : (s i : ℕ) (Es : List LinearForm) (k : Column) → k.0 ≡ s + i → HasMonomial k.1 (get_or Es i no_form) → Contains (listed_columns s Es) k
in_forms s i [] k e a = absurd (no_monomial k.1 a)
in_forms s zero (E ∷ Es) k e a = Contains-append_left (form_columns s E) (listed_columns (suc s) Es) k (in_form s E k (omega (arith, e)) a)
in_forms s (suc i) (E ∷ Es) k e a =
    Contains-append_right (form_columns s E) (listed_columns (suc s) Es) k (in_forms (suc s) i Es k (omega (arith, e)) a)

of_forms : (s : ℕ) (Es : List LinearForm) (k : Column) → Contains (listed_columns s Es) k
    → (i : ℕ) × (k.0 ≡ s + i) × HasMonomial k.1 (get_or Es i no_form)
of_forms s [] k c = absurd (contains_nothing k c)
of_forms s (E ∷ Es) k c = ⊎_elim
    (λ f. let r = of_form s E k f in (0, omega (arith, r.0), r.1))
    (λ f. let r = of_forms (suc s) Es k f in (suc r.0, omega (arith, r.1), r.2))
    (Contains-append_cases (form_columns s E) (listed_columns (suc s) Es) k c)

-- the listed columns are those that occur
pub listed_occurs : (S : LinearSystem) (k : Column) → Contains (listed_columns 0 S.general) k ↔ OccursInGeneral S k
listed_occurs S k = (
  λ c.
      let r = of_forms 0 S.general k c in
      subst (λ i. HasMonomial k.1 (get_or S.general i no_form)) (let e : r.0 ≡ k.0 = omega (arith, r.1) in e) r.2,
  λ a. in_forms 0 k.0 S.general k (let e : k.0 ≡ 0 + k.0 = omega arith in e) a,
)

pub general_columns : (S : LinearSystem) → (ks : List Column) × AreGeneralColumns S ks
general_columns S =
    let r = ordered column_cmp column_cmp_total column_same (listed_columns 0 S.general) in (
      r.0,
      record {
        rising = rising_of_sorted r.0 (r.1);
        elements = λ k. (λ c. (listed_occurs S k).0 ((r.2 k).0 c), λ a. (r.2 k).1 ((listed_occurs S k).1 a));
      },
    )

pub same_columns : (S : LinearSystem) (js ks : List Column) → AreGeneralColumns S js → AreGeneralColumns S ks → js ≡ ks
same_columns S js ks h g =
    sorted_unique column_cmp column_cmp_total column_same js ks (sorted_of_rising js h.rising) (sorted_of_rising ks g.rising)
    (λ k. (λ c. (g.elements k).1 ((h.elements k).0 c), λ c. (h.elements k).1 ((g.elements k).0 c)))
