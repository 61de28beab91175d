-- The steps of the merge of two lists of tallies.
use Rattle.std.proofs.Common.{◌≡◌, ℕ, suc, ◌+◌, ◌<◌, ◌≤◌, ◌^◌, List, [], ◌∷◌, ◌++◌, length, refl, sym, ap, ap₂, ◌∙◌, subst, arith, not, T, ℤ, pos, ◌+ℤ◌, Less, Equal, Greater}
use Rattle.std.specs.Prelude.{unsigned_abs}
use Rattle.std.proofs.lemmas.List.{length_push}
use borrow.Author.Differences.{ints}
use Rattle.lie_math.specs.Canonical.{left_comm, value_at-head}
use Rattle.lie_math.specs.FiniteSum as finite
use Rattle.lie_math.specs.FiniteSumLaws as finite_laws
use Rattle.lie_math.specs.Monomial.{Monomial, monomial_cmp}
use Rattle.lie_math.specs.MonomialOrder.{monomial_cmp_total, monomial_cmp-IsAntisymmetric}
use Rattle.lie_math.specs.Integer.{coefficients, is_zero_int, int_nil}
use Rattle.lie_math.specs.Polynomial.{WholePolynomial, polynomial_of, terms, 0ᴾ, ◌+ᴾ◌, coefficient}
use Rattle.lie_math.specs.Limits.{HasWideCoefficient, HasManyTerms}
use Rattle.lie_poly.specs.Bulk.{IsBulkOf, AreWithin}
use Rattle.lie_math.specs.FiniteSum.{IsCanonical}
use Rattle.lie_ring.proofs.Merging.{Merging, merging_start, merging_less, merging_greater, merging_both, merging_done, heads}
use Rattle.lie_math.proofs.CanonicalLists.{of-append, of-cons, canonical_front, canonical_value, canonical_below, canonical_tail}
use Rattle.lie_ring.specs.Firsts.{first_cmp}
use Rattle.lie_math.proofs.Limits.{covered_first, covered_second, nonneg_sum, by_test}
use Rattle.lie_ring.proofs.Limits.{wide_covered, many_covered}
use Rattle.lie_ring.specs.declared.failures.PastKind.TheVariants.{Coefficient, Exponent, Terms, Order, Unknowns, Width}
use Rattle.lie_ring.specs.declared.failures.PolyFail.{PolyFail}
use Rattle.lie_ring.specs.declared.failures.PolyFail.TheVariants.{Past, NoMemory}
use Rattle.lie_ring.specs.Causes.{IsCause}
use Rattle.lie_poly.specs.declared.tally.Tally.{Tally}
use Rattle.lie_poly.specs.Tallies.{sums, bulks, sum_of, bulk_of, IsTallied, Tells, firsts}
use Rattle.lie_poly.specs.Failures.{IsFull, IsWide, IsWideNumber}
use Rattle.lie_poly.proofs.TallyLists.{sums-append, bulks-append, length-bulks, tallied_nonneg}

bulk_append : (xs ys fs gs : List (Monomial × ℤ)) → IsBulkOf xs fs → IsBulkOf ys gs → IsBulkOf (xs ++ ys) (fs ++ gs)
bulk_append [] ys [] gs h k = k
bulk_append [] ys (f ∷ fs) gs h k = absurd h
bulk_append (x ∷ xs) ys [] gs h k = absurd h
bulk_append (x ∷ xs) ys (f ∷ fs) gs h k = (h.0, h.1, h.2, bulk_append xs ys fs gs h.3 k)

pub within_append : (xs ys : List (Monomial × ℤ)) → AreWithin xs → AreWithin ys → AreWithin (xs ++ ys)
within_append [] ys h k = k
within_append (x ∷ xs) ys h k = (h.0, h.1, within_append xs ys h.2 k)

less_sum : (o x xs r : WholePolynomial) → (o +ᴾ x) +ᴾ (xs +ᴾ r) ≡ o +ᴾ ((x +ᴾ xs) +ᴾ r)
less_sum o x xs r = simp (finite_laws.plus_assoc terms)

greater_sum : (o y l ys : WholePolynomial) → (o +ᴾ y) +ᴾ (l +ᴾ ys) ≡ o +ᴾ (l +ᴾ (y +ᴾ ys))
greater_sum o y l ys = simp (finite_laws.plus_assoc terms, left_comm (finite_laws.adder terms))

equal_sum : (o x xs y ys : WholePolynomial) → (o +ᴾ (x +ᴾ y)) +ᴾ (xs +ᴾ ys) ≡ o +ᴾ ((x +ᴾ xs) +ᴾ (y +ᴾ ys))
equal_sum o x xs y ys = simp (finite_laws.plus_assoc terms, left_comm (finite_laws.adder terms))

head_coefficient : {C : Type 0} (x : Tally C) (xs : List (Tally C)) → IsCanonical terms (bulks (x ∷ xs)) → coefficient (bulk_of (x ∷ xs)) x.mono ≡ pos x.bulk
head_coefficient x xs h =
    finite_laws.value-of terms (bulks (x ∷ xs)) x.mono
    ∙ value_at-head monomial_cmp coefficients monomial_cmp_total monomial_cmp-IsAntisymmetric (x.mono, pos x.bulk) (bulks xs) (canonical_below terms (x.mono, pos x.bulk) (bulks xs) h)

module _ {C : Type 0} (value : C → ℤ) where
  -- what is out, what is left of the two lists, and the two lists at the start
  pub record State (out l r us vs : List (Tally C)) : Type 0 where
    pub merging : Merging terms (bulks out) (bulks l) (bulks r) (bulks us) (bulks vs)
    pub sum : sum_of value out +ᴾ (sum_of value l +ᴾ sum_of value r) ≡ sum_of value us +ᴾ sum_of value vs
    pub out_bulk : IsBulkOf (sums value out) (bulks out)
    pub out_within : AreWithin (bulks out)
    pub left : IsTallied value l
    pub right : IsTallied value r
    pub few : length out ≤ 1000000

  abbrev both_bulk : List (Tally C) → List (Tally C) → WholePolynomial
  both_bulk us vs = bulk_of us +ᴾ bulk_of vs

  pub state_start : (us vs : List (Tally C)) → IsTallied value us → IsTallied value vs → State [] us vs us vs
  unfolding finite.none
  state_start us vs h k = record {
    merging = merging_start terms (bulks us) (bulks vs) h.ordered k.ordered;
    sum = finite_laws.plus_idl terms (sum_of value us +ᴾ sum_of value vs);
    out_bulk = tt;
    out_within = tt;
    left = h;
    right = k;
    few = omega arith;
  }

  tail : (x : Tally C) (xs : List (Tally C)) → IsTallied value (x ∷ xs) → IsTallied value xs
  tail x xs h = record {
    ordered = canonical_tail terms (x.mono, pos x.bulk) (bulks xs) h.ordered;
    bulk = h.bulk.3;
    within = h.within.2;
    few = let n : suc (length xs) ≤ 1000000 = h.few in omega arith;
  }

  -- the sums, with one tally more
  snoc : (out : List (Tally C)) (x : Tally C) → sum_of value (out ++ x ∷ []) ≡ sum_of value out +ᴾ sum_of value (x ∷ [])
  snoc out x = ap polynomial_of (sums-append value out (x ∷ [])) ∙ of-append terms (sums value out) (sums value (x ∷ []))

  cons : (x : Tally C) (xs : List (Tally C)) → sum_of value (x ∷ xs) ≡ sum_of value (x ∷ []) +ᴾ sum_of value xs
  cons x xs = of-cons terms (x.mono, value x.sum) (sums value xs)

  bulks_snoc : (out : List (Tally C)) (x : Tally C) → bulks (out ++ x ∷ []) ≡ bulks out ++ (x.mono, pos x.bulk) ∷ []
  bulks_snoc out x = bulks-append value out (x ∷ [])

  firsts_are : (xs ys : List (Tally C)) → firsts xs ys ≡ first_cmp (λ (a : Monomial × ℤ) (b : Monomial × ℤ). monomial_cmp a.0 b.0) (bulks xs) (bulks ys)
  firsts_are [] ys = refl
  firsts_are (x ∷ xs) [] = refl
  firsts_are (x ∷ xs) (y ∷ ys) = refl

  -- more than the limit is out already
  many : (out l r us vs : List (Tally C)) → Merging terms (bulks out) (bulks l) (bulks r) (bulks us) (bulks vs) → IsBulkOf (sums value out) (bulks out) → IsBulkOf (sums value l) (bulks l) → IsBulkOf (sums value r) (bulks r) → 1000000 < length out → HasManyTerms (both_bulk us vs)
  many out l r us vs m ob lb rb n =
      let listed : (bulk_of out).list ≡ bulks out = finite_laws.list-of terms (bulks out) (canonical_front terms (bulks out) (bulks l) m.left) in
      let here : HasManyTerms (bulk_of out) = subst (λ es. 1000000 < length es) (sym listed) (subst (λ k. 1000000 < k) (sym (length-bulks value out)) n) in
      subst HasManyTerms m.sum
      (many_covered (bulk_of out) (bulk_of out +ᴾ (bulk_of l +ᴾ bulk_of r))
      (covered_first (bulk_of out) (bulk_of l +ᴾ bulk_of r) (tallied_nonneg value out ob) (nonneg_sum (bulk_of l) (bulk_of r) (tallied_nonneg value l lb) (tallied_nonneg value r rb)))
      here)

  bulk_snoc : (out : List (Tally C)) (x : Tally C) → IsBulkOf (sums value out) (bulks out) → unsigned_abs (value x.sum) ≤ x.bulk → IsBulkOf (sums value (out ++ x ∷ [])) (bulks (out ++ x ∷ []))
  bulk_snoc out x h k =
      subst (λ es. IsBulkOf es (bulks (out ++ x ∷ []))) (sym (sums-append value out (x ∷ []))) (subst (IsBulkOf (sums value out ++ sums value (x ∷ []))) (sym (bulks_snoc out x)) (bulk_append (sums value out) (sums value (x ∷ [])) (bulks out) (bulks (x ∷ [])) h (refl, k, refl, tt)))

  within_snoc : (out : List (Tally C)) (x : Tally C) → AreWithin (bulks out) → AreWithin (bulks (x ∷ [])) → AreWithin (bulks (out ++ x ∷ []))
  within_snoc out x h k = subst AreWithin (sym (bulks_snoc out x)) (within_append (bulks out) (bulks (x ∷ [])) h k)

  module _ (out xs r us vs : List (Tally C)) (x : Tally C) (s : State out (x ∷ xs) r us vs) (e : Less ≡ firsts (x ∷ xs) r) where
    next_less : Merging terms (bulks (out ++ x ∷ [])) (bulks xs) (bulks r) (bulks us) (bulks vs)
    next_less =
        subst (λ o. Merging terms o (bulks xs) (bulks r) (bulks us) (bulks vs)) (sym (bulks_snoc out x))
        (merging_less terms (bulks out) (bulks xs) (bulks r) (bulks us) (bulks vs) (x.mono, pos x.bulk) (sym (e ∙ firsts_are (x ∷ xs) r)) s.merging)

    out_less : IsBulkOf (sums value (out ++ x ∷ [])) (bulks (out ++ x ∷ []))
    out_less = bulk_snoc out x s.out_bulk s.left.bulk.1

    pub state_less : length out < 1000000 → State (out ++ x ∷ []) xs r us vs
    state_less n = record {
      merging = next_less;
      sum = ap (λ o. o +ᴾ (sum_of value xs +ᴾ sum_of value r)) (snoc out x) ∙ less_sum (sum_of value out) (sum_of value (x ∷ [])) (sum_of value xs) (sum_of value r)
          ∙ ap (λ l. sum_of value out +ᴾ (l +ᴾ sum_of value r)) (sym (cons x xs)) ∙ s.sum;
      out_bulk = out_less;
      out_within = within_snoc out x s.out_within (s.left.within.0, s.left.within.1, tt);
      left = tail x xs s.left;
      right = s.right;
      few = omega (arith, length_push out x);
    }

    pub full_less : 1000000 ≤ length out → HasManyTerms (both_bulk us vs)
    full_less n = many (out ++ x ∷ []) xs r us vs next_less out_less s.left.bulk.3 s.right.bulk (omega (arith, length_push out x))

  module _ (out l ys us vs : List (Tally C)) (y : Tally C) (s : State out l (y ∷ ys) us vs) (e : Greater ≡ firsts l (y ∷ ys)) where
    next_greater : Merging terms (bulks (out ++ y ∷ [])) (bulks l) (bulks ys) (bulks us) (bulks vs)
    next_greater =
        subst (λ o. Merging terms o (bulks l) (bulks ys) (bulks us) (bulks vs)) (sym (bulks_snoc out y))
        (merging_greater terms (bulks out) (bulks l) (bulks ys) (bulks us) (bulks vs) (y.mono, pos y.bulk) (sym (e ∙ firsts_are l (y ∷ ys))) s.merging)

    out_greater : IsBulkOf (sums value (out ++ y ∷ [])) (bulks (out ++ y ∷ []))
    out_greater = bulk_snoc out y s.out_bulk s.right.bulk.1

    pub state_greater : length out < 1000000 → State (out ++ y ∷ []) l ys us vs
    state_greater n = record {
      merging = next_greater;
      sum = ap (λ o. o +ᴾ (sum_of value l +ᴾ sum_of value ys)) (snoc out y) ∙ greater_sum (sum_of value out) (sum_of value (y ∷ [])) (sum_of value l) (sum_of value ys)
          ∙ ap (λ r. sum_of value out +ᴾ (sum_of value l +ᴾ r)) (sym (cons y ys)) ∙ s.sum;
      out_bulk = out_greater;
      out_within = within_snoc out y s.out_within (s.right.within.0, s.right.within.1, tt);
      left = s.left;
      right = tail y ys s.right;
      few = omega (arith, length_push out y);
    }

    pub full_greater : 1000000 ≤ length out → HasManyTerms (both_bulk us vs)
    full_greater n = many (out ++ y ∷ []) l ys us vs next_greater out_greater s.left.bulk s.right.bulk.3 (omega (arith, length_push out y))

  module _ (out xs ys us vs : List (Tally C)) (x y : Tally C) (s : State out (x ∷ xs) (y ∷ ys) us vs) (e : Equal ≡ firsts (x ∷ xs) (y ∷ ys)) where
    -- the coefficient of the bulk at the monomial is at least the two bulks
    pub wide_equal : 2 ^ 127 ≤ x.bulk + y.bulk → HasWideCoefficient (both_bulk us vs)
    wide_equal h =
        subst HasWideCoefficient s.merging.sum
        (wide_covered (bulk_of (x ∷ xs) +ᴾ bulk_of (y ∷ ys)) (bulk_of out +ᴾ (bulk_of (x ∷ xs) +ᴾ bulk_of (y ∷ ys)))
        (covered_second (bulk_of out) (bulk_of (x ∷ xs) +ᴾ bulk_of (y ∷ ys)) (tallied_nonneg value out s.out_bulk) (nonneg_sum (bulk_of (x ∷ xs)) (bulk_of (y ∷ ys)) (tallied_nonneg value (x ∷ xs) s.left.bulk) (tallied_nonneg value (y ∷ ys) s.right.bulk)))
        (x.mono, subst (λ z. 2 ^ 127 ≤ unsigned_abs z) (sym at_first) h))
      where
        same : x.mono ≡ y.mono
        same = monomial_cmp-IsAntisymmetric x.mono y.mono (sym e)

        at_first : coefficient (bulk_of (x ∷ xs) +ᴾ bulk_of (y ∷ ys)) x.mono ≡ pos (x.bulk + y.bulk)
        at_first = finite_laws.value-plus terms (bulk_of (x ∷ xs)) (bulk_of (y ∷ ys)) x.mono
            ∙ ap₂ ◌+ℤ◌ (head_coefficient x xs s.left.ordered) (ap (coefficient (bulk_of (y ∷ ys))) same ∙ head_coefficient y ys s.right.ordered)

    module _ (z : Tally C) (em : z.mono ≡ x.mono) (ev : value z.sum ≡ value x.sum +ℤ value y.sum) (es : z.bulk ≡ x.bulk + y.bulk) (fits : x.bulk + y.bulk < 2 ^ 127) where
      next_equal : Merging terms (bulks (out ++ z ∷ [])) (bulks xs) (bulks ys) (bulks us) (bulks vs)
      next_equal =
          subst (λ o. Merging terms o (bulks xs) (bulks ys) (bulks us) (bulks vs)) (sym (bulks_snoc out z))
          (merging_both terms (bulks out) (bulks xs) (bulks ys) (bulks us) (bulks vs) (x.mono, pos x.bulk) (y.mono, pos y.bulk) (z.mono, pos z.bulk) (sym e) em (ap pos es) (positive (canonical_value terms (x.mono, pos x.bulk) (bulks xs) s.left.ordered)) s.merging)
        where
          positive : T (not (is_zero_int (pos x.bulk))) → T (not (is_zero_int (pos z.bulk)))
          positive t = by_test (is_zero_int (pos z.bulk)) (λ f. let n : z.bulk ≡ 0 = ap unsigned_abs (int_nil (pos z.bulk) f) in let k : x.bulk ≡ 0 = omega arith in subst (λ n. T (not (is_zero_int (pos n)))) k t)

      out_equal : IsBulkOf (sums value (out ++ z ∷ [])) (bulks (out ++ z ∷ []))
      out_equal = bulk_snoc out z s.out_bulk (covers (value x.sum) (value y.sum) (value z.sum) ev s.left.bulk.1 s.right.bulk.1)
        where
          covers : (a b c : ℤ) → c ≡ a +ℤ b → unsigned_abs a ≤ x.bulk → unsigned_abs b ≤ y.bulk → unsigned_abs c ≤ z.bulk
          covers a b c f h k = omega (arith, ints)

      joined : sum_of value (z ∷ []) ≡ sum_of value (x ∷ []) +ᴾ sum_of value (y ∷ [])
      joined =
          ap₂ (λ m v. polynomial_of ((m, v) ∷ [])) em ev ∙ sym (heads terms (x.mono, value x.sum) (y.mono, value y.sum) (monomial_cmp-IsAntisymmetric x.mono y.mono (sym e)))

      pub state_equal : length out < 1000000 → State (out ++ z ∷ []) xs ys us vs
      state_equal n = record {
        merging = next_equal;
        sum = ap (λ o. o +ᴾ (sum_of value xs +ᴾ sum_of value ys)) (snoc out z ∙ ap (λ p. sum_of value out +ᴾ p) joined) ∙ equal_sum (sum_of value out) (sum_of value (x ∷ [])) (sum_of value xs) (sum_of value (y ∷ [])) (sum_of value ys)
            ∙ ap₂ (λ l r. sum_of value out +ᴾ (l +ᴾ r)) (sym (cons x xs)) (sym (cons y ys)) ∙ s.sum;
        out_bulk = out_equal;
        out_within = within_snoc out z s.out_within ((let f : z.bulk < 2 ^ 127 = omega arith in f), subst Rattle.lie_math.specs.Limits.HasLowExponents (sym em) s.left.within.1, tt);
        left = tail x xs s.left;
        right = tail y ys s.right;
        few = omega (arith, length_push out z);
      }

      pub full_equal : 1000000 ≤ length out → HasManyTerms (both_bulk us vs)
      full_equal n = many (out ++ z ∷ []) xs ys us vs next_equal out_equal s.left.bulk.3 s.right.bulk.3 (omega (arith, length_push out z))

  pub state_end : (out us vs : List (Tally C)) → State out [] [] us vs → Tells value out (sum_of value us +ᴾ sum_of value vs) (both_bulk us vs)
  unfolding finite.none
  state_end out us vs s =
      let done = merging_done terms (bulks out) (bulks us) (bulks vs) s.merging in
      record {
        tallied = record { ordered = done.0; bulk = s.out_bulk; within = s.out_within; few = s.few };
        sum = sym (ap (λ p. sum_of value out +ᴾ p) (finite_laws.plus_idl terms 0ᴾ) ∙ Rattle.lie_math.specs.Canonical.idr (finite_laws.adder terms) (sum_of value out)) ∙ s.sum;
        bulk = done.1;
      }

pub full_cause : (fail : PolyFail) (n : ℕ) (b : WholePolynomial) → (1000000 ≤ n → HasManyTerms b) → IsFull fail n → IsCause fail b
full_cause (Past Terms) n b f h = f h
full_cause (Past Coefficient) n b f h = absurd h
full_cause (Past Exponent) n b f h = absurd h
full_cause (Past Order) n b f h = absurd h
full_cause (Past Unknowns) n b f h = absurd h
full_cause (Past Width) n b f h = absurd h
full_cause NoMemory n b f h = tt

pub wide_cause : (fail : PolyFail) (n : ℕ) (b : WholePolynomial) → (2 ^ 127 ≤ n → HasWideCoefficient b) → IsWide fail n → IsCause fail b
wide_cause (Past Coefficient) n b f h = f h
wide_cause (Past Terms) n b f h = absurd h
wide_cause (Past Exponent) n b f h = absurd h
wide_cause (Past Order) n b f h = absurd h
wide_cause (Past Unknowns) n b f h = absurd h
wide_cause (Past Width) n b f h = absurd h
wide_cause NoMemory n b f h = tt

pub wide_number_cause : (fail : PolyFail) (z : ℤ) (b : WholePolynomial) → (2 ^ 127 ≤ unsigned_abs z → HasWideCoefficient b) → IsWideNumber fail z → IsCause fail b
wide_number_cause (Past Coefficient) z b f h = f h
wide_number_cause (Past Terms) z b f h = absurd h
wide_number_cause (Past Exponent) z b f h = absurd h
wide_number_cause (Past Order) z b f h = absurd h
wide_number_cause (Past Unknowns) z b f h = absurd h
wide_number_cause (Past Width) z b f h = absurd h
wide_number_cause NoMemory z b f h = tt
