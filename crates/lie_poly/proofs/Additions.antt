-- The turns of the loop that merges two lists of terms: what is out tells tallies whose state is that of a merge.
use Rattle.std.specs.Prelude.{◌≡◌, ℕ, zero, suc, ◌+◌, ◌-◌, ◌<◌, ◌≤◌, ◌^◌, List, [], ◌∷◌, ◌++◌, length, take, drop, get_or, ℤ, pos, ◌+ℤ◌, unsigned_abs}
use Rattle.std.proofs.Common.{refl, sym, ap, ap₂, ◌∙◌, subst, subst₂, arith, Ordering, Less, Equal, Greater}
use Rattle.std.proofs.lemmas.List.{length_push}
use Rattle.lie_math.specs.Monomial.{Monomial, monomial_cmp}
use Rattle.lie_math.specs.Polynomial.{WholePolynomial, polynomial_of, ◌+ᴾ◌}
use Rattle.lie_math.specs.Limits.{absolutes, HasWideCoefficient, HasManyTerms}
use Rattle.lie_math.proofs.Limits.{canonical_absolutes, length-absolutes}
use Rattle.lie_ring.specs.Entries.{entries}
use Rattle.lie_ring.specs.Firsts.{first_cmp}
use Rattle.lie_poly.specs.declared.tally.Tally.{Tally}
use Rattle.lie_poly.specs.Sorted.{IsSorted}
use Rattle.lie_poly.specs.Tallies.{sums, bulks, sum_of, bulk_of, IsTallied, Tells, IsTold, firsts, with_term, without_zeros}
use Rattle.lie_poly.proofs.BulkLists.{bulk_absolutes}
use Rattle.lie_poly.proofs.DerivativeSteps.{within_absolutes}
use Rattle.lie_poly.proofs.MergeSteps.{State, state_start, state_less, full_less, state_greater, full_greater, wide_equal, state_equal, full_equal, state_end}
use Rattle.lie_poly.proofs.PackedSteps.{cut_item, none_left}
use Rattle.lie_poly.proofs.SumSteps.{tells_same}
use Rattle.lie_poly.proofs.TallyLists.{sums-append, zeros_append}
use Rattle.lie_poly.proofs.TermLists.{length-entries}

-- the first terms of two lists
abbrev pub term_order : {C : Type 0} → Monomial × C → Monomial × C → Ordering
term_order x y = monomial_cmp x.0 y.0

module _ {C : Type 0} (value : C → ℤ) where
  -- a term as a tally
  abbrev pub tally_of : Monomial × C → Tally C
  tally_of e = record { mono = e.0; sum = e.1; bulk = unsigned_abs (value e.1) }

  abbrev pub tallies_of : List (Monomial × C) → List (Tally C)
  tallies_of [] = []
  tallies_of (e ∷ es) = tally_of e ∷ tallies_of es

  sums_tallies : (es : List (Monomial × C)) → sums value (tallies_of es) ≡ entries value es
  sums_tallies [] = refl
  sums_tallies (e ∷ es) = ap (λ fs. (e.0, value e.1) ∷ fs) (sums_tallies es)

  bulks_tallies : (es : List (Monomial × C)) → bulks (tallies_of es) ≡ absolutes (entries value es)
  bulks_tallies [] = refl
  bulks_tallies (e ∷ es) = ap (λ fs. (e.0, pos (unsigned_abs (value e.1))) ∷ fs) (bulks_tallies es)

  length_tallies : (es : List (Monomial × C)) → length (tallies_of es) ≡ length es
  length_tallies [] = refl
  length_tallies (e ∷ es) = ap suc (length_tallies es)

  tallied : (es : List (Monomial × C)) → IsSorted (entries value es) → IsTallied value (tallies_of es)
  tallied es h = record {
    ordered = subst (λ fs. Rattle.lie_poly.specs.Sorted.IsInPrintOrder fs) (sym (bulks_tallies es)) (canonical_absolutes (entries value es) h.ordered);
    bulk = subst₂ Rattle.lie_poly.specs.Bulk.IsBulkOf (sym (sums_tallies es)) (sym (bulks_tallies es)) (bulk_absolutes (entries value es));
    within = subst Rattle.lie_poly.specs.Bulk.AreWithin (sym (bulks_tallies es)) (within_absolutes (entries value es) h.within);
    few = let n : length (entries value es) ≤ 1000000 = h.few in omega (arith, length_tallies es, length-entries value es);
  }

  firsts_tallies : (xs ys : List (Monomial × C)) → first_cmp term_order xs ys ≡ firsts (tallies_of xs) (tallies_of ys)
  firsts_tallies [] ys = refl
  firsts_tallies (x ∷ xs) [] = refl
  firsts_tallies (x ∷ xs) (y ∷ ys) = refl

  -- what is out once i and j terms are taken, and how many monomials that are
  pub record AddedBy (left right : List (Monomial × C)) (i j : ℕ) (out : List (Monomial × C)) (count : ℕ) (ts : List (Tally C)) : Type 0 where
    pub told : entries value out ≡ without_zeros (sums value ts)
    pub counted : count ≡ length ts
    pub state : State value ts (tallies_of (drop i left)) (tallies_of (drop j right)) (tallies_of left) (tallies_of right)

  abbrev pub AddedSoFar : List (Monomial × C) → List (Monomial × C) → ℕ → ℕ → List (Monomial × C) → ℕ → Type 0
  AddedSoFar left right i j out count = (ts : List (Tally C)) × AddedBy left right i j out count ts

  pub added_start : (left right out : List (Monomial × C)) → out ≡ [] → IsSorted (entries value left) → IsSorted (entries value right) → AddedSoFar left right 0 0 out 0
  added_start left right out e h k = ([], record { told = ap (entries value) e; counted = refl; state = state_start value (tallies_of left) (tallies_of right) (tallied left h) (tallied right k) })

  -- one term more
  more_told : (out new : List (Monomial × C)) (ts : List (Tally C)) (t : Tally C) (m : Monomial) (z : ℤ) → entries value out ≡ without_zeros (sums value ts) → m ≡ t.mono → z ≡ value t.sum
      → entries value new ≡ entries value out ++ with_term m z [] → entries value new ≡ without_zeros (sums value (ts ++ t ∷ []))
  more_told out new ts t m z h em ez e =
      e ∙ ap₂ (λ es fs. es ++ fs) h (ap₂ (λ n y. with_term n y []) em ez) ∙ sym (ap without_zeros (sums-append value ts (t ∷ [])) ∙ zeros_append (sums value ts) (sums value (t ∷ [])))

  abbrev pub sum_bulk : List (Monomial × C) → List (Monomial × C) → WholePolynomial
  sum_bulk left right = polynomial_of (absolutes (entries value left)) +ᴾ polynomial_of (absolutes (entries value right))

  bulk_is : (left right : List (Monomial × C)) → bulk_of (tallies_of left) +ᴾ bulk_of (tallies_of right) ≡ sum_bulk left right
  bulk_is left right = ap₂ (λ es fs. polynomial_of es +ᴾ polynomial_of fs) (bulks_tallies left) (bulks_tallies right)

  module _ (left right : List (Monomial × C)) (i j : ℕ) (out : List (Monomial × C)) (count : ℕ) (h : AddedSoFar left right i j out count) where
    module _ (x : Monomial × C) (lt : i < length left) (is : x ≡ get_or left i x) (e : Less ≡ first_cmp term_order (drop i left) (drop j right)) where
      less_state : State value h.0 (tally_of x ∷ tallies_of (drop (i + 1) left)) (tallies_of (drop j right)) (tallies_of left) (tallies_of right)
      less_state = subst (λ xs. State value h.0 (tallies_of xs) (tallies_of (drop j right)) (tallies_of left) (tallies_of right)) (cut_item left i x lt is) (h.1).state

      less_order : Less ≡ firsts (tally_of x ∷ tallies_of (drop (i + 1) left)) (tallies_of (drop j right))
      less_order = e ∙ firsts_tallies (drop i left) (drop j right) ∙ ap (λ xs. firsts (tallies_of xs) (tallies_of (drop j right))) (cut_item left i x lt is)

      pub added_less : (m : Monomial) (z : ℤ) (new : List (Monomial × C)) (k : ℕ) → m ≡ x.0 → z ≡ value x.1 → entries value new ≡ entries value out ++ with_term m z [] → k ≡ count + 1 → count < 1000000 → AddedSoFar left right (i + 1) j new k
      added_less m z new k em ez en ek room = (
        h.0 ++ tally_of x ∷ [],
        record {
          told = more_told out new h.0 (tally_of x) m z (h.1).told em ez en;
          counted = let c = (h.1).counted in omega (arith, length_push h.0 (tally_of x));
          state = state_less value h.0 (tallies_of (drop (i + 1) left)) (tallies_of (drop j right)) (tallies_of left) (tallies_of right) (tally_of x) less_state less_order (subst (λ n. n < 1000000) (h.1).counted room);
        },
      )

      pub many_less : 1000000 ≤ count → HasManyTerms (sum_bulk left right)
      many_less n = subst HasManyTerms (bulk_is left right) (full_less value h.0 (tallies_of (drop (i + 1) left)) (tallies_of (drop j right)) (tallies_of left) (tallies_of right) (tally_of x) less_state less_order (subst (λ k. 1000000 ≤ k) (h.1).counted n))

    module _ (y : Monomial × C) (lt : j < length right) (is : y ≡ get_or right j y) (e : Greater ≡ first_cmp term_order (drop i left) (drop j right)) where
      greater_state : State value h.0 (tallies_of (drop i left)) (tally_of y ∷ tallies_of (drop (j + 1) right)) (tallies_of left) (tallies_of right)
      greater_state = subst (λ ys. State value h.0 (tallies_of (drop i left)) (tallies_of ys) (tallies_of left) (tallies_of right)) (cut_item right j y lt is) (h.1).state

      greater_order : Greater ≡ firsts (tallies_of (drop i left)) (tally_of y ∷ tallies_of (drop (j + 1) right))
      greater_order = e ∙ firsts_tallies (drop i left) (drop j right) ∙ ap (λ ys. firsts (tallies_of (drop i left)) (tallies_of ys)) (cut_item right j y lt is)

      pub added_greater : (m : Monomial) (z : ℤ) (new : List (Monomial × C)) (k : ℕ) → m ≡ y.0 → z ≡ value y.1 → entries value new ≡ entries value out ++ with_term m z [] → k ≡ count + 1 → count < 1000000 → AddedSoFar left right i (j + 1) new k
      added_greater m z new k em ez en ek room = (
        h.0 ++ tally_of y ∷ [],
        record {
          told = more_told out new h.0 (tally_of y) m z (h.1).told em ez en;
          counted = let c = (h.1).counted in omega (arith, length_push h.0 (tally_of y));
          state = state_greater value h.0 (tallies_of (drop i left)) (tallies_of (drop (j + 1) right)) (tallies_of left) (tallies_of right) (tally_of y) greater_state greater_order (subst (λ n. n < 1000000) (h.1).counted room);
        },
      )

      pub many_greater : 1000000 ≤ count → HasManyTerms (sum_bulk left right)
      many_greater n = subst HasManyTerms (bulk_is left right) (full_greater value h.0 (tallies_of (drop i left)) (tallies_of (drop (j + 1) right)) (tallies_of left) (tallies_of right) (tally_of y) greater_state greater_order (subst (λ k. 1000000 ≤ k) (h.1).counted n))

    module _ (x y : Monomial × C) (lt : i < length left) (lt_right : j < length right) (is : x ≡ get_or left i x) (is_right : y ≡ get_or right j y) (e : Equal ≡ first_cmp term_order (drop i left) (drop j right)) where
      equal_state : State value h.0 (tally_of x ∷ tallies_of (drop (i + 1) left)) (tally_of y ∷ tallies_of (drop (j + 1) right)) (tallies_of left) (tallies_of right)
      equal_state = subst₂ (λ xs ys. State value h.0 (tallies_of xs) (tallies_of ys) (tallies_of left) (tallies_of right)) (cut_item left i x lt is) (cut_item right j y lt_right is_right) (h.1).state

      equal_order : Equal ≡ firsts (tally_of x ∷ tallies_of (drop (i + 1) left)) (tally_of y ∷ tallies_of (drop (j + 1) right))
      equal_order = e ∙ firsts_tallies (drop i left) (drop j right) ∙ ap₂ (λ xs ys. firsts (tallies_of xs) (tallies_of ys)) (cut_item left i x lt is) (cut_item right j y lt_right is_right)

      pub wide_both : 2 ^ 127 ≤ unsigned_abs (value x.1) + unsigned_abs (value y.1) → HasWideCoefficient (sum_bulk left right)
      wide_both w = subst HasWideCoefficient (bulk_is left right) (wide_equal value h.0 (tallies_of (drop (i + 1) left)) (tallies_of (drop (j + 1) right)) (tallies_of left) (tallies_of right) (tally_of x) (tally_of y) equal_state equal_order w)

      module _ (t : Monomial × C) (em : t.0 ≡ x.0) (ev : value t.1 ≡ value x.1 +ℤ value y.1) (fits : unsigned_abs (value x.1) + unsigned_abs (value y.1) < 2 ^ 127) where
        abbrev pub both_tally : Tally C
        both_tally = record { mono = t.0; sum = t.1; bulk = unsigned_abs (value x.1) + unsigned_abs (value y.1) }

        pub added_equal : (new : List (Monomial × C)) (k : ℕ) → entries value new ≡ entries value out ++ with_term t.0 (value t.1) [] → k ≡ count + 1 → count < 1000000 → AddedSoFar left right (i + 1) (j + 1) new k
        added_equal new k en ek room = (
          h.0 ++ both_tally ∷ [],
          record {
            told = more_told out new h.0 both_tally t.0 (value t.1) (h.1).told refl refl en;
            counted = let c = (h.1).counted in omega (arith, length_push h.0 both_tally);
            state = state_equal value h.0 (tallies_of (drop (i + 1) left)) (tallies_of (drop (j + 1) right)) (tallies_of left) (tallies_of right) (tally_of x) (tally_of y) equal_state equal_order both_tally em ev refl fits (subst (λ n. n < 1000000) (h.1).counted room);
          },
        )

        pub many_equal : 1000000 ≤ count → HasManyTerms (sum_bulk left right)
        many_equal n = subst HasManyTerms (bulk_is left right) (full_equal value h.0 (tallies_of (drop (i + 1) left)) (tallies_of (drop (j + 1) right)) (tallies_of left) (tallies_of right) (tally_of x) (tally_of y) equal_state equal_order both_tally em ev refl fits (subst (λ k. 1000000 ≤ k) (h.1).counted n))

    pub added_end : length left ≤ i → length right ≤ j → IsTold value out (polynomial_of (entries value left) +ᴾ polynomial_of (entries value right)) (sum_bulk left right)
    added_end le le_right = (
      h.0,
      (h.1).told,
      tells_same value h.0 _ _ _ _ (ap₂ (λ es fs. polynomial_of es +ᴾ polynomial_of fs) (sums_tallies left) (sums_tallies right)) (bulk_is left right)
          (state_end value h.0 (tallies_of left) (tallies_of right) (subst₂ (λ xs ys. State value h.0 (tallies_of xs) (tallies_of ys) (tallies_of left) (tallies_of right)) (none_left left i le) (none_left right j le_right) (h.1).state)),
    )
