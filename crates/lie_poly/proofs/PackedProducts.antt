-- One packed term times others, and products by halves.
use Rattle.std.specs.Prelude.{◌≡◌, ℕ, zero, suc, ◌+◌, ◌-◌, ◌<◌, ◌≤◌, List, [], ◌∷◌, ◌++◌, length, take, drop, get_or, reverse, ℤ, pos, ◌*ℤ◌, unsigned_abs}
use Rattle.std.proofs.Common.{refl, sym, ap, ap₂, ◌∙◌, subst, arith}
use Rattle.std.proofs.lemmas.List.{reverse-reverse}
use Rattle.lie_math.specs.Monomial.{Monomial, ◌·◌}
use Rattle.lie_math.specs.Limits.{FitsNumber, absolutes}
use Rattle.lie_math.specs.Polynomial.{polynomial_of, term, ◌*ᴾ◌}
use Rattle.lie_ring.proofs.Fronts.{all_taken}
use Rattle.lie_ring.specs.Entries.{entries}
use Rattle.lie_poly.specs.declared.packed.Packed.{Packed}
use Rattle.lie_poly.specs.declared.tally.Tally.{Tally}
use Rattle.lie_poly.specs.Packed.{IsFrame, AreTerms, AreTallies, IsMerged, IsProduct}
use Rattle.lie_poly.specs.Tallies.{Tells}
use Rattle.lie_poly.specs.Words.{IsWord}
use Rattle.lie_poly.proofs.WordLaws.{word-·, exponent_at_most}
use Rattle.lie_poly.proofs.PackedSteps.{tallies_snoc}
use Rattle.lie_poly.proofs.SumSteps.{tells_same, joined_sum, joined_bulk}
use Rattle.lie_poly.proofs.TermLists.{entries_more}
use Rattle.lie_poly.proofs.TimesSteps.{Multiplied, multiplied_start, multiplied_more, multiplied_end, product_none, single_product, single_bulk, halves_product, halves_product_bulk}

pub one_item : {A : Type 0} (xs : List A) (x : A) → length xs ≡ 1 → x ≡ get_or xs 0 x → xs ≡ x ∷ []
one_item [] x h e = absurd (omega arith)
one_item (y ∷ []) x h e = ap (λ z. z ∷ []) (sym e)
one_item (y ∷ z ∷ zs) x h e = absurd (omega arith)

module _ {C : Type 0} (value : C → ℤ) where
  module _ (base : ℕ) (vs : List ℕ) (most : ℕ) where
    terms_length : (xs : List (ℕ × C)) (es : List (Monomial × C)) → AreTerms value base vs most xs es → length xs ≡ length es
    terms_length [] [] h = refl
    terms_length [] (e ∷ es) h = absurd h
    terms_length (x ∷ xs) [] h = absurd h
    terms_length (x ∷ xs) (e ∷ es) h = ap suc (terms_length xs es h.2)

    terms_take : (i : ℕ) (xs : List (ℕ × C)) (es : List (Monomial × C)) → AreTerms value base vs most xs es → AreTerms value base vs most (take i xs) (take i es)
    terms_take zero xs es h = tt
    terms_take (suc i) [] [] h = tt
    terms_take (suc i) [] (e ∷ es) h = absurd h
    terms_take (suc i) (x ∷ xs) [] h = absurd h
    terms_take (suc i) (x ∷ xs) (e ∷ es) h = (h.0, h.1, terms_take i xs es h.2)

    terms_drop : (i : ℕ) (xs : List (ℕ × C)) (es : List (Monomial × C)) → AreTerms value base vs most xs es → AreTerms value base vs most (drop i xs) (drop i es)
    terms_drop zero xs es h = h
    terms_drop (suc i) [] [] h = tt
    terms_drop (suc i) [] (e ∷ es) h = absurd h
    terms_drop (suc i) (x ∷ xs) [] h = absurd h
    terms_drop (suc i) (x ∷ xs) (e ∷ es) h = terms_drop i xs es h.2

    -- the term that a packed term stands for
    record Found (x : ℕ × C) (i : ℕ) (es : List (Monomial × C)) : Type 0 where
      found : Monomial × C
      inside : i < length es
      is : found ≡ get_or es i found
      word : IsWord base vs most found.0 x.0
      number : value x.1 ≡ value found.1

    find : (xs : List (ℕ × C)) (es : List (Monomial × C)) (i : ℕ) (x : ℕ × C) → i < length xs → x ≡ get_or xs i x → AreTerms value base vs most xs es → Found x i es
    find [] es i x lt is h = absurd (omega arith)
    find (y ∷ xs) [] i x lt is h = absurd h
    find (y ∷ xs) (e ∷ es) zero x lt is h = record {
      found = e;
      inside = omega arith;
      is = refl;
      word = subst (λ (z : ℕ × C). IsWord base vs most e.0 z.0) (sym is) h.0;
      number = ap (λ (z : ℕ × C). value z.1) is ∙ h.1;
    }
    find (y ∷ xs) (e ∷ es) (suc i) x lt is h =
        let r = find xs es i x (omega arith) is h.2 in
        record { found = r.found; inside = (let l : i < length es = r.inside in omega arith); is = r.is; word = r.word; number = r.number }

  -- what is out once k of the packed terms are multiplied
  abbrev pub MultipliedSoFar : ℕ × C → List (ℕ × C) → ℕ → List (Packed C) → Type 0
  MultipliedSoFar factor terms k out = (base : ℕ) (vs : List ℕ) (p q : ℕ) (e : Monomial × C) (fs : List (Monomial × C)) → IsFrame base vs (p + q) → IsWord base vs p e.0 factor.0 → value factor.1 ≡ value e.1 → AreTerms value base vs q terms fs
      → (ts : List (Tally C)) × AreTallies value base vs (p + q) out ts × Multiplied value e.0 (value e.1) (entries value (take k fs)) ts

  pub packed_start : (factor : ℕ × C) (terms : List (ℕ × C)) (out : List (Packed C)) → out ≡ [] → MultipliedSoFar factor terms 0 out
  packed_start factor terms out e base vs p q m fs f w v r = ([], subst (λ xs. AreTallies value base vs (p + q) xs []) (sym e) tt, multiplied_start value m.0 (value m.1))

  module _ (factor : ℕ × C) (terms : List (ℕ × C)) (k : ℕ) (out : List (Packed C)) (h : MultipliedSoFar factor terms k out) where
    pub packed_more : (x : ℕ × C) (r : Packed C) (new : List (Packed C)) → k < length terms → x ≡ get_or terms k x
        → r.word ≡ factor.0 + x.0 → value r.sum ≡ value factor.1 *ℤ value x.1 → r.bulk ≡ unsigned_abs (value factor.1 *ℤ value x.1) → FitsNumber (value factor.1 *ℤ value x.1) → new ≡ out ++ r ∷ [] → MultipliedSoFar factor terms (k + 1) new
    packed_more x r new lt is ew ev es fits en base vs p q e fs f w v ar =
        let prior = h base vs p q e fs f w v ar in
        let o : Found base vs q x k fs = find base vs q terms fs k x lt is ar in
        let t : Tally C = record { mono = e.0 · o.found.0; sum = r.sum; bulk = r.bulk } in
        let both : value factor.1 *ℤ value x.1 ≡ value e.1 *ℤ value o.found.1 = ap₂ ◌*ℤ◌ v o.number in
        let word : IsWord base vs (p + q) (e.0 · o.found.0) (factor.0 + x.0) = word-· base vs p q e.0 o.found.0 factor.0 x.0 w o.word in (
          prior.0 ++ t ∷ [],
          subst (λ ys. AreTallies value base vs (p + q) ys (prior.0 ++ t ∷ [])) (sym en) (tallies_snoc value base vs (p + q) out prior.0 r t prior.1 (subst (IsWord base vs (p + q) (e.0 · o.found.0)) (sym ew) word) refl refl),
          subst (λ ds. Multiplied value e.0 (value e.1) ds (prior.0 ++ t ∷ [])) (sym (entries_more value fs k o.found o.inside o.is))
              (multiplied_more value e.0 (value e.1) (entries value (take k fs)) prior.0 (prior.0 ++ t ∷ []) (o.found.0, value o.found.1) t prior.2 refl (ev ∙ both) (es ∙ ap unsigned_abs both) (subst FitsNumber both fits)
              (λ z. let a = word.low in let b = f.low in omega (arith, a, b, exponent_at_most (e.0 · o.found.0) z)) refl),
        )

    pub packed_end : length terms ≤ k → ¬ (unsigned_abs (value factor.1) ≡ 0) → IsProduct value (factor ∷ []) terms out
    packed_end le n base vs p q [] fs f a b s = absurd a
    packed_end le n base vs p q (e ∷ e′ ∷ es) fs f a b s = absurd a.2
    packed_end le n base vs p q (e ∷ []) fs f a b s =
        let prior = h base vs p q e fs f a.0 a.1 b in
        let all : Multiplied value e.0 (value e.1) (entries value fs) prior.0 = subst (λ xs. Multiplied value e.0 (value e.1) (entries value xs) prior.0) (all_taken fs k (subst (λ n. n ≤ k) (terms_length base vs q terms fs b) le)) prior.2 in (
          prior.0,
          prior.1,
          tells_same value prior.0 _ _ _ _ (single_product value (e ∷ []) e (entries value fs) refl) (single_bulk value (e ∷ []) e (entries value fs) refl)
              (subst (λ xs. Tells value xs (term e.0 (value e.1) *ᴾ polynomial_of (entries value fs)) (term e.0 (pos (unsigned_abs (value e.1))) *ᴾ polynomial_of (absolutes (entries value fs)))) (reverse-reverse prior.0) (multiplied_end value e.0 (value e.1) (entries value fs) prior.0 (reverse prior.0) all (λ z. n (ap unsigned_abs a.1 ∙ z)) s refl)),
        )

  -- ---- halves

  pub packed_none : (terms : List (ℕ × C)) → IsProduct value [] terms []
  packed_none terms base vs p q [] fs f a b s = ([], tt, product_none value (entries value fs))
  packed_none terms base vs p q (e ∷ es) fs f a b s = absurd a

  pub packed_halves : (left right : List (ℕ × C)) (i : ℕ) (first second out : List (Packed C)) → IsProduct value (take i left) right first → IsProduct value (take (length left - i) (drop i left)) right second → IsMerged value first second out → IsProduct value left right out
  packed_halves left right i first second out h k m base vs p q es fs f a b s =
      let lower = h base vs p q (take i es) fs f (terms_take base vs p i left es a) b s in
      let upper = k base vs p q (take (length es - i) (drop i es)) fs f
      (subst (λ n. AreTerms value base vs p (take (length left - i) (drop i left)) (take (n - i) (drop i es))) (terms_length base vs p left es a) (terms_take base vs p (length left - i) (drop i left) (drop i es) (terms_drop base vs p i left es a))) b s in
      let all = m base vs (p + q) lower.0 upper.0 f lower.1 upper.1 lower.2.tallied upper.2.tallied in (
        all.0,
        all.1,
        tells_same value all.0 _ _ _ _
            (joined_sum value lower.0 upper.0 _ _ _ _ _ lower.2 upper.2 (halves_product value es i (entries value fs)))
            (joined_bulk value lower.0 upper.0 _ _ _ _ _ lower.2 upper.2 (halves_product_bulk value es i (entries value fs))) all.2,
      )
