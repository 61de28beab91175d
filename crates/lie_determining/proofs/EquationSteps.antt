-- Equations that are added part by part, and the number of their triples.
use Rattle.std.specs.Prelude.{◌≡◌, ℕ, zero, suc, ◌+◌, ◌<◌, ◌≤◌, ◌⊎◌, Bool, true, false, cond, List, [], ◌∷◌, ◌++◌, length, take, get_or, slice_index_or}
use Rattle.std.proofs.Common.{Less, refl, sym, ap, subst, ◌∙◌, arith, inl, inr, true≢false, is_eq}
use Rattle.std.proofs.lemmas.List.{get_or-map, length-map}
use Rattle.std.specs.List.{AllByRecursion as Every, Any, Contains}
use Rattle.std.specs.List.Sorted.{IsStrictlySortedBy}
use Rattle.std.specs.Ordering.{eq_by_cmp}
use Rattle.std.specs.Cmp.{tied_itself}
use Rattle.lie_math.proofs.EveryElement.{every_of_contained, every_picked}
use Rattle.lie_math.proofs.SomeElement.{any_tail}
use Rattle.lie_math.specs.FiniteSum as finite
use Rattle.lie_math.specs.FiniteSumLaws.{none_of_is, is_none_none}
use Rattle.lie_math.specs.LinearForm.{forms, LinearForm, no_form}
use Rattle.lie_math.specs.Monomial.{Monomial, monomial_cmp}
use Rattle.lie_math.specs.MonomialOrder.{monomial_cmp_total}
use Rattle.lie_geometry.specs.Coordinates.{Space}
use Rattle.lie_geometry.specs.Prolongation.{is_in_z}
use Rattle.lie_systems.specs.Bulk.{bulk, IsFormWithinLimits}
use Rattle.lie_systems.specs.Normalised.{primitive}
use Rattle.lie_systems.specs.Triples.{triples, sum_of_triples}
use Rattle.lie_lin.specs.Forms.{triples_of}
use Rattle.lie_parts.specs.declared.buckets.Bucket.{Bucket}
use Rattle.lie_determining.specs.Equations.{AreEquationsOf, IsNormalisedPart, IsPartOf, part_of_form}
use Rattle.lie_systems.specs.Bulk.{triple_count_of_all}
use Rattle.lie_lin.specs.EquationLists.{Adds, IsEquationOf}
use Rattle.lie_parts.specs.Parts.{monomials_of, bucket_at, split_triples, AreBucketsOf}
use Rattle.lie_parts.proofs.BucketParts.{bucket_there, bucket_cases, sum_of_bucket}
use Rattle.lie_determining.proofs.SortedLists.{contains_nothing, every_of}
use Rattle.lie_lin.proofs.SortedPlaces.{turned_greater}
use Rattle.lie_lin.proofs.AddedEquations.{adds_same, any_place}
use Rattle.lie_ring.proofs.Fronts.{take_more}

-- ---- the parts of a form
module _ (S : Space) (E : LinearForm) (bs : List Bucket) (are : AreBucketsOf (split_triples (is_in_z S) (triples E)) bs) where
  part_of_bucket : (e : LinearForm) → Any (λ (b : Bucket). IsEquationOf (sum_of_triples (triples_of b.triples.items)) e) bs → IsPartOf S E e
  part_of_bucket e a =
      let b : Bucket = a.1 in
      let s : sum_of_triples (triples_of b.triples.items) ≡ part_of_form S E b.mono = ap sum_of_triples (sym (bucket_there bs are.ordered a.0 b a.2 a.3)) ∙ sum_of_bucket (is_in_z S) E bs are b.mono in
      (b.mono, (λ z. a.4.0 (s ∙ z)), a.4.1 ∙ ap primitive s)

  bucket_of_part : (e : LinearForm) → IsPartOf S E e → Any (λ (b : Bucket). IsEquationOf (sum_of_triples (triples_of b.triples.items)) e) bs
  bucket_of_part e p = elim (bucket_cases p.0 bs) [
    | inl z ↦ absurd (p.1 (sym (sum_of_bucket (is_in_z S) E bs are p.0) ∙ ap sum_of_triples z))
    | inr a ↦
        let s : sum_of_triples (triples_of a.1.triples.items) ≡ part_of_form S E p.0 = ap sum_of_triples a.4 ∙ sum_of_bucket (is_in_z S) E bs are p.0 in
        (a.0, a.1, a.2, a.3, ((λ z. p.1 (sym s ∙ z)), p.2 ∙ ap primitive (sym s)))
  ]

  pub adds_condition : (es fs : List LinearForm) → Adds (λ e. Any (λ (b : Bucket). IsEquationOf (sum_of_triples (triples_of b.triples.items)) e) bs) es fs → Adds (IsPartOf S E) es fs
  adds_condition es fs h = adds_same (λ e. Any (λ (b : Bucket). IsEquationOf (sum_of_triples (triples_of b.triples.items)) e) bs) (IsPartOf S E) es fs part_of_bucket bucket_of_part h

-- ---- all conditions
decide_none : (E : LinearForm) → (E ≡ no_form) ⊎ (¬ (E ≡ no_form))
decide_none E = go (finite.is_none forms E) refl
  where
    go : (b : Bool) → finite.is_none forms E ≡ b → (E ≡ no_form) ⊎ (¬ (E ≡ no_form))
    go true e = inl (none_of_is forms E e)
    go false e = inr (λ z. true≢false (sym (is_none_none forms) ∙ ap (finite.is_none forms) (sym z) ∙ e))

pub equations_are : (S : Space) (Es es : List LinearForm) → Adds (IsNormalisedPart S Es) [] es → AreEquationsOf S Es es
equations_are S Es es h = record {
  all = λ k d g μ. elim (decide_none (part_of_form S (slice_index_or Es k d) μ)) [
    | inl z ↦ inl z
    | inr n ↦ inr (h.added (primitive (part_of_form S (slice_index_or Es k d) μ)) (any_place (λ E. IsPartOf S E (primitive (part_of_form S (slice_index_or Es k d) μ))) Es k d g (μ, n, refl)))
  ];
  alone = every_of (λ e. Contains [] e ⊎ IsNormalisedPart S Es e) (IsNormalisedPart S Es) es (λ e s. elim s [ inl c ↦ absurd (contains_nothing e c) | inr p ↦ p ]) h.alone;
  ordered = h.ordered;
}

-- ---- the number of triples
triples-append : (xs ys : List LinearForm) → triple_count_of_all (xs ++ ys) ≡ triple_count_of_all xs + triple_count_of_all ys
triples-append [] ys = nothing (triple_count_of_all ys)
  where
    nothing : (n : ℕ) → n ≡ 0 + n
    nothing n = omega arith
triples-append (x ∷ xs) ys = ap (λ n. length (triples x) + n) (triples-append xs ys) ∙ regroup (length (triples x)) (triple_count_of_all xs) (triple_count_of_all ys)
  where
    regroup : (a b c : ℕ) → a + (b + c) ≡ a + b + c
    regroup a b c = omega arith

pub triples_more : (xs : List LinearForm) (i : ℕ) (x : LinearForm) → i < length xs → x ≡ get_or xs i x → triple_count_of_all (take (i + 1) xs) ≡ triple_count_of_all (take i xs) + length (triples x)
triples_more xs i x lt is = ap triple_count_of_all (sym (take_more xs i x lt is)) ∙ triples-append (take i xs) (x ∷ []) ∙ ap (λ n. triple_count_of_all (take i xs) + n) (plain (length (triples x)))
  where
    plain : (n : ℕ) → n + 0 ≡ n
    plain n = omega arith

pub triples_taken : (xs : List LinearForm) (i : ℕ) → triple_count_of_all (take i xs) ≤ triple_count_of_all xs
triples_taken [] zero = omega arith
triples_taken [] (suc i) = omega arith
triples_taken (x ∷ xs) zero = omega arith
triples_taken (x ∷ xs) (suc i) = let h = triples_taken xs i in omega arith
