-- Well-formedness of finite sums: they are told by their values, and are themselves values that can be added and stored.
use Rattle.std.specs.Prelude.{◌≡◌, true, T, List, [], ◌∷◌, ◌++◌}
use Rattle.std.proofs.Common.{refl, sym, ap, ap₂, true≢false, ◌∙◌}
use mathlib.Core.Path.{fun_ext}
use mathlib.Core.HLevel.{Σ_prop_path}
use lib.Dec.{T_prop}
use Rattle.std.specs.Coded.{Coded, coded×, coded_list}
use base.Stored.{coded_via}
use Rattle.lie_math.specs.FiniteSum.{FiniteSum, Shape, is_none, list_is_empty, none, of, plus, sum_over, term, value}
use Rattle.lie_math.specs.Monoid.{Adder, Values}
use Rattle.lie_math.specs.Canonical.{
  Additive,
  canonical_unique,
  delta_additive,
  idr,
  normal-canonical,
  normal_unique,
  sum_of_entries-append,
  sum_of_entries-map,
  sum_of_entries-normal,
}
use Rattle.lie_math.specs.SortedSum.{delta, is_canonical, sum_of_entries, value_at}

no_entries : {X : Type 0} (xs : List X) → list_is_empty xs ≡ true → xs ≡ []
no_entries [] e = refl
no_entries (x ∷ xs) e = absurd (true≢false (sym e))

module _ {K A : Type 0} (S : Shape K A) where
  pub same_list : (p q : FiniteSum S) → p.list ≡ q.list → p ≡ q
  same_list p q e =
      let pairs : ◌≡◌ {A = (es : List (K × A)) × T (is_canonical S.order S.values es)} (p.list, p.canonical) (
        q.list,
        q.canonical,
      ) = Σ_prop_path (λ es. T_prop _) e in
      λ i. record { list = (pairs i).0; canonical = (pairs i).1 }

  abbrev pub code : Coded K → Coded A → Coded (FiniteSum S)
  code k a = coded_via (coded_list (coded× k a)) (λ p. p.list) same_list

  pub ext : (p q : FiniteSum S) → ((k : K) → value S p k ≡ value S q k) → p ≡ q
  ext p q is = same_list p q (canonical_unique S.order S.values S.total S.same p.list q.list p.canonical q.canonical is)

  pub of_same : (es fs : List (K × A)) → ((k : K) → value_at S.order S.values k es ≡ value_at S.order S.values k fs) → of S es ≡ of S fs
  unfolding of
  of_same es fs is = same_list (of S es) (of S fs) (normal_unique S.order S.values S.total S.same es fs is)

  pub of_list : (p : FiniteSum S) → of S p.list ≡ p
  unfolding of
  of_list p = same_list (of S p.list) p (normal-canonical S.order S.values S.total S.same p.list p.canonical)

  pub list-of : (es : List (K × A)) → T (is_canonical S.order S.values es) → (of S es).list ≡ es
  unfolding of
  list-of es h = normal-canonical S.order S.values S.total S.same es h

  module _ {B : Type 0} (N : Adder B) (φ : K → A → B) (add : Additive S.values.adder N φ) where
    pub sum-of : (es : List (K × A)) → sum_over S N φ (of S es) ≡ sum_of_entries N φ es
    unfolding of
    sum-of es = sum_of_entries-normal S.order S.values S.total S.same N φ add es

    pub sum-none : sum_over S N φ (none S) ≡ N.nil
    unfolding none
    sum-none = sum-of []

    pub sum-term : (k : K) (a : A) → sum_over S N φ (term S k a) ≡ φ k a
    unfolding term
    sum-term k a = sum-of ((k, a) ∷ []) ∙ idr N (φ k a)

    pub sum-plus : (p q : FiniteSum S) → sum_over S N φ (plus S p q) ≡ N.plus (sum_over S N φ p) (sum_over S N φ q)
    unfolding plus
    sum-plus p q = sum-of (p.list ++ q.list) ∙ sum_of_entries-append N φ p.list q.list

  pub value-of : (es : List (K × A)) (k : K) → value S (of S es) k ≡ value_at S.order S.values k es
  value-of es k = sum-of S.values.adder (delta S.order S.values k) (delta_additive S.order S.values S.total S.same k) es

  pub value-plus : (p q : FiniteSum S) (k : K) → value S (plus S p q) k ≡ S.values.adder.plus (value S p k) (value S q k)
  value-plus p q k = sum-plus S.values.adder (delta S.order S.values k) (delta_additive S.order S.values S.total S.same k) p q

  pub value-none : (k : K) → value S (none S) k ≡ S.values.adder.nil
  value-none k = sum-none S.values.adder (delta S.order S.values k) (delta_additive S.order S.values S.total S.same k)

  pub value-term : (j : K) (a : A) (k : K) → value S (term S j a) k ≡ delta S.order S.values k j a
  value-term j a k = sum-term S.values.adder (delta S.order S.values k) (delta_additive S.order S.values S.total S.same k) j a

  pub plus_idl : (p : FiniteSum S) → plus S (none S) p ≡ p
  plus_idl p = ext (plus S (none S) p) p (λ k. value-plus (none S) p k ∙ ap (λ x. S.values.adder.plus x (value S p k)) (value-none k)
      ∙ S.values.adder.idl _)

  pub plus_assoc : (p q r : FiniteSum S) → plus S (plus S p q) r ≡ plus S p (plus S q r)
  plus_assoc p q r = ext (plus S (plus S p q) r) (plus S p (plus S q r)) (λ k.
      value-plus (plus S p q) r k ∙ ap (λ x. S.values.adder.plus x (value S r k)) (value-plus p q k) ∙ S.values.adder.assoc _ _ _
      ∙ ap (S.values.adder.plus (value S p k)) (sym (value-plus q r k)) ∙ sym (value-plus p (plus S q r) k))

  pub plus_comm : (p q : FiniteSum S) → plus S p q ≡ plus S q p
  plus_comm p q = ext (plus S p q) (plus S q p) (λ k. value-plus p q k ∙ S.values.adder.comm _ _ ∙ sym (value-plus q p k))

  abbrev pub adder : Adder (FiniteSum S)
  adder = record { nil = (none S); plus = plus S; idl = plus_idl; assoc = plus_assoc; comm = plus_comm }

  pub none_of_is : (p : FiniteSum S) → is_none S p ≡ true → p ≡ (none S)
  unfolding none of
  none_of_is p e = same_list p (none S) (no_entries p.list e)

  pub is_none_none : is_none S (none S) ≡ true
  unfolding none of
  is_none_none = refl

  abbrev pub values : Values (FiniteSum S)
  values = record { adder = adder; is_nil = is_none S; is_nil_nil = is_none_none; nil_of_is = none_of_is }

  pub term_additive : Additive S.values.adder adder (term S)
  term_additive = record {
    on_nil = λ k. ext (term S k S.values.adder.nil) (none S) (λ q. value-term k S.values.adder.nil q
        ∙ (delta_additive S.order S.values S.total S.same q).on_nil k ∙ sym (value-none q));
    on_plus = λ k a b. ext (term S k (S.values.adder.plus a b)) (plus S (term S k a) (term S k b)) (λ q.
        value-term k (S.values.adder.plus a b) q ∙ (delta_additive S.order S.values S.total S.same q).on_plus k a b
        ∙ ap₂ S.values.adder.plus (sym (value-term k a q)) (sym (value-term k b q)) ∙ sym (value-plus (term S k a) (term S k b) q));
  }

  -- a finite sum is the sum of its terms
  pub sum_of_terms : (p : FiniteSum S) → sum_over S adder (term S) p ≡ p
  sum_of_terms p = ext (sum_over S adder (term S) p) p (λ q.
      sum_of_entries-map adder S.values.adder (λ r. value S r q) (value-none q) (λ x y. value-plus x y q) (term S) p.list
      ∙ ap (λ φ. sum_of_entries S.values.adder φ p.list) (fun_ext (λ k. fun_ext (λ a. value-term k a q))))
