-- The parts of a form by its outer variables are the sums of the buckets of its triples.
use Rattle.std.specs.Prelude.{◌≡◌, ℕ, ◌+◌, ◌<◌, ◌≤◌, ◌⊎◌, Bool, true, false, cond, not, List, [], ◌∷◌, ◌++◌, map, length, take, get_or, pos}
use Rattle.std.specs.Prelude.{ℤ, Option, Some, None}
use Rattle.std.proofs.Common.{Ordering, Less, Equal, Greater, refl, sym, ap, subst, ◌∙◌, arith, is_eq, inl, inr}
use mathlib.Core.Path.{fun_ext}
use Rattle.std.specs.List.{Any, Contains, list_any}
use Rattle.std.specs.Ordering.{eq_by_cmp, ordering_reverse}
use Rattle.std.proofs.lemmas.List.{map-append}
use Rattle.lie_math.specs.Counts.{Derivative}
use Rattle.lie_math.specs.FiniteSum as finite
use Rattle.lie_math.specs.FiniteSumLaws.{ext, term_additive}
use Rattle.lie_math.specs.LinearForm.{LinearForm, no_form, each_coefficient}
use Rattle.lie_math.specs.LinearSystem.{Unknown}
use Rattle.lie_math.specs.Monomial.{Monomial, powers, monomial_cmp}
use Rattle.lie_math.specs.MonomialOrder.{monomial_cmp_total}
use Rattle.lie_math.specs.Polynomial.{WholePolynomial, terms, term, over_terms, 0ᴾ}
use Rattle.lie_math.proofs.ContainedElements.{contained_map, contains-map}
use Rattle.lie_math.proofs.EveryElement.{every_contained}
use Rattle.lie_geometry.specs.DeterminingEquations as geometry
use Rattle.lie_geometry.specs.DeterminingEquations.{restrict}
use Rattle.lie_geometry.proofs.Parts.{exponent-restrict}
use Rattle.lie_systems.specs.Triples.{triples, triples_in, sum_of_triples}
use Rattle.lie_jet.specs.declared.derivative.Der.{Der}
use Rattle.lie_form.specs.DerivativeTerms.{derivative_terms}
use Rattle.lie_lin.specs.Forms.{coefficients_of, triples_of}
use Rattle.lie_normal.proofs.Bounds.{same_terms}
use Rattle.lie_ring.proofs.Fronts.{all_taken, take_more}
use Rattle.lie_steps.specs.Equations.{depends}
use Rattle.lie_steps.specs.Isolate.{outer, IsSinglePart}
use Rattle.lie_steps.specs.Parts.{factors_in, polynomial_part, part}
use Rattle.lie_systems.proofs.Exponents.{exponent-each}
use Rattle.lie_parts.specs.declared.buckets.Bucket.{Bucket}
use Rattle.lie_parts.specs.Parts.{bucket_at, split_triples, AreBucketsOf}
use Rattle.lie_parts.proofs.BucketParts.{bucket_there, bucket_cases, sum_of_bucket}
use Rattle.lie_cross.specs.Isolate.{IsSingle, IsEarliest, IsFirstPart, IsEarliestPart}

-- ---- two ways to write a part
not_twice : (b : Bool) → not (not b) ≡ b
not_twice true = refl
not_twice false = refl

turned : (r : Ordering) → is_eq (ordering_reverse r) ≡ is_eq r
turned Less = refl
turned Equal = refl
turned Greater = refl

restrict_factors : (A : ℕ → Bool) (m : Monomial) → restrict A m ≡ factors_in A m
restrict_factors A m = ext powers (restrict A m) (factors_in A m)
    (λ v. exponent-restrict A m v ∙ sym (exponent-each (λ w e. cond (A w) e 0) (λ w. none (A w)) m v))
  where
    none : (b : Bool) → ◌≡◌ {A = ℕ} (cond b 0 0) 0
    none true = refl
    none false = refl

module _ (A : ℕ → Bool) (μ : Monomial) where
  term_part : (m : Monomial) (a : ℤ) → term (restrict A m) (cond (eq_by_cmp monomial_cmp μ (restrict (λ v. not (A v)) m)) a (pos 0))
      ≡ cond (is_eq (monomial_cmp (factors_in (λ v. not (A v)) m) μ)) (term (factors_in (λ v. not (not (A v))) m) a) 0ᴾ
  term_part m a =
      go (eq_by_cmp monomial_cmp μ (restrict (λ v. not (A v)) m))
      ∙ ap (λ t. cond t (term (restrict A m) a) 0ᴾ)
      (ap (λ n. is_eq (monomial_cmp μ n)) (restrict_factors (λ v. not (A v)) m)
      ∙ ap is_eq (monomial_cmp_total.antisymm μ (factors_in (λ v. not (A v)) m))
      ∙ turned (monomial_cmp (factors_in (λ v. not (A v)) m) μ))
      ∙ ap (λ n. cond (is_eq (monomial_cmp (factors_in (λ v. not (A v)) m) μ)) (term n a) 0ᴾ)
      (restrict_factors A m ∙ ap (λ B. factors_in B m) (fun_ext (λ v. sym (not_twice (A v)))))
    where
      go : (t : Bool) → term (restrict A m) (cond t a (pos 0)) ≡ cond t (term (restrict A m) a) 0ᴾ
      go true = refl
      go false = (term_additive terms).on_nil (restrict A m)

  pub part_is : (E : LinearForm) → each_coefficient (geometry.part A μ) E ≡ part (λ v. not (A v)) μ E
  unfolding geometry.part polynomial_part
  part_is E = ap (λ (f : Monomial → ℤ → WholePolynomial). each_coefficient (λ p. over_terms f p) E)
      (fun_ext (λ m. fun_ext (λ a. term_part m a)))

no_derivatives : length (no_form).list ≡ 0
unfolding finite.none finite.of
no_derivatives = refl

-- ---- the parts of a form as buckets
-- the sum of a bucket
abbrev pub bucket_sum : Bucket → LinearForm
bucket_sum b = sum_of_triples (triples_of b.triples.items)

pub sums_more : (bs : List Bucket) (k : ℕ) (b : Bucket) → k < length bs → b ≡ get_or bs k b
    → map bucket_sum (take k bs) ++ bucket_sum b ∷ [] ≡ map bucket_sum (take (k + 1) bs)
sums_more bs k b lt is = sym (map-append bucket_sum (take k bs) (b ∷ [])) ∙ ap (map bucket_sum) (take_more bs k b lt is)

pub all_sums : (cs bs : List Bucket) (k : ℕ) (found : Option LinearForm) → cs ≡ bs → length cs ≤ k
    → IsEarliest (map bucket_sum (take k cs)) found
    → IsEarliest (map bucket_sum bs) found
all_sums cs bs k found e le h = subst (λ (xs : List Bucket). IsEarliest (map bucket_sum xs) found) (all_taken cs k le ∙ e) h

module _ (us : List Unknown) (D : LinearForm) where
  abbrev pub inner : ℕ → Bool
  inner v = list_any (λ (e : Derivative × WholePolynomial). depends us (e.0).unknown v) D.list

  -- the buckets of the terms as they are kept
  pub outer_buckets : (bs : List Bucket) (A : ℕ → Bool) (ts : List (Der × WholePolynomial)) → ((v : ℕ) → A v ≡ inner v)
      → coefficients_of ts ≡ D.list
      → AreBucketsOf (split_triples A (triples_in (derivative_terms ts))) bs → AreBucketsOf (split_triples inner (triples D)) bs
  outer_buckets bs A ts same is are =
      subst (λ (x : (ℕ → Bool) × List (Derivative × WholePolynomial)). AreBucketsOf (split_triples x.0 (triples_in x.1)) bs)
      (λ i. (fun_ext same i, (same_terms ts ∙ is) i)) are

  module _ (bs : List Bucket) (are : AreBucketsOf (split_triples inner (triples D)) bs) where
    sum_is_part : (b : Bucket) → Contains bs b → bucket_sum b ≡ part (outer us D) b.mono D
    sum_is_part b c = ap sum_of_triples (sym (bucket_there bs are.ordered c.0 b c.1 c.2)) ∙ sum_of_bucket inner D bs are b.mono
        ∙ part_is inner b.mono D

    part_is_sum : (Q : LinearForm) → IsSinglePart us D Q → Contains (map bucket_sum bs) Q
    part_is_sum Q s = go (bucket_cases s.monomial bs)
      where
        whole : sum_of_triples (bucket_at s.monomial bs) ≡ Q
        whole = sum_of_bucket inner D bs are s.monomial ∙ part_is inner s.monomial D ∙ sym s.is

        go : (bucket_at s.monomial bs ≡ []) ⊎ Any (λ (b : Bucket). triples_of b.triples.items ≡ bucket_at s.monomial bs) bs
            → Contains (map bucket_sum bs) Q
        go (inl e) =
            absurd (let z : length Q.list ≡ 0 = ap (λ (E : LinearForm). length E.list) (sym whole ∙ ap sum_of_triples e)
            ∙ no_derivatives in let o : length Q.list ≡ 1 = s.single in omega arith)
        go (inr a) = subst (Contains (map bucket_sum bs)) (ap sum_of_triples a.4 ∙ whole) (contains-map bucket_sum bs a.1 (a.0, a.2, a.3))

    pub earliest_part : (found : Option LinearForm) → IsEarliest (map bucket_sum bs) found → IsEarliestPart us D found
    earliest_part None h = λ Q s. every_contained (λ R. ¬ (IsSingle R)) (map bucket_sum bs) Q h (part_is_sum Q s) s.single
    earliest_part (Some P) h = go (contained_map bucket_sum bs P h.listed)
      where
        go : (b : Bucket) × Contains bs b × (bucket_sum b ≡ P) → IsFirstPart us D P
        go (b, c, e) = record {
          part = record { monomial = b.mono; is = sym e ∙ sum_is_part b c; single = h.single };
          first = λ Q s. h.first Q (part_is_sum Q s) s.single;
        }
