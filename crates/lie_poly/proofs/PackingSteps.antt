-- How terms are packed, and packed sums are unpacked.
use Rattle.std.specs.Prelude.{◌≡◌, ℕ, zero, suc, ◌+◌, ◌<◌, ◌≤◌, List, [], ◌∷◌, ◌++◌, length, take, get_or, ℤ, unsigned_abs}
use Rattle.std.proofs.Common.{refl, sym, ap, ap₂, ◌∙◌, subst, subst₂, arith}
use Rattle.std.specs.Cmp.{tied_itself, nat_cmp_total}
use Rattle.lie_math.specs.Monomial.{Monomial}
use Rattle.lie_math.specs.MonomialOrder.{monomial_cmp-IsAntisymmetric}
use Rattle.lie_math.proofs.Integer.{unsigned_abs_zero}
use Rattle.lie_ring.proofs.Fronts.{take_more, all_taken}
use Rattle.lie_ring.specs.Entries.{entries}
use Rattle.lie_poly.specs.declared.packed.Packed.{Packed}
use Rattle.lie_poly.specs.declared.tally.Tally.{Tally}
use Rattle.lie_poly.specs.Packed.{IsFrame, AreTerms, AreTallies, IsUnpacked, IsTermOf}
use Rattle.lie_poly.specs.Tallies.{sums, with_term, without_zeros}
use Rattle.lie_poly.specs.Words.{IsWord}
use Rattle.lie_poly.proofs.WordLaws.{word_cmp}
use Rattle.lie_poly.proofs.PackedSteps.{tallies_length}
use Rattle.lie_poly.proofs.TallyLists.{sums-append, zeros_append, with_other}

same_word : (base : ℕ) (vs : List ℕ) (most : ℕ) (m n : Monomial) (w : ℕ) → IsFrame base vs most → IsWord base vs most m w → IsWord base vs most n w → m ≡ n
same_word base vs most m n w f h k = monomial_cmp-IsAntisymmetric m n (sym (word_cmp base vs most m n w w f.past f.rise h k) ∙ tied_itself nat_cmp_total w)

nil_right : {A : Type 0} (xs : List A) → xs ++ [] ≡ xs
nil_right [] = refl
nil_right (x ∷ xs) = ap (λ ys. x ∷ ys) (nil_right xs)

zero_term : (m : Monomial) (z : ℤ) → unsigned_abs z ≡ 0 → with_term m z [] ≡ []
zero_term m z e = ap (λ (y : ℤ). with_term m y []) (unsigned_abs_zero z e)

module _ {C : Type 0} (value : C → ℤ) (base : ℕ) (vs : List ℕ) (most : ℕ) where
  terms_snoc : (xs : List (ℕ × C)) (es : List (Monomial × C)) (x : ℕ × C) (e : Monomial × C) → AreTerms value base vs most xs es → IsWord base vs most e.0 x.0 → value x.1 ≡ value e.1 → AreTerms value base vs most (xs ++ x ∷ []) (es ++ e ∷ [])
  terms_snoc [] [] x e h w v = (w, v, tt)
  terms_snoc [] (u ∷ es) x e h w v = absurd h
  terms_snoc (y ∷ xs) [] x e h w v = absurd h
  terms_snoc (y ∷ xs) (u ∷ es) x e h w v = (h.0, h.1, terms_snoc xs es x e h.2 w v)

  pub packed_one : (es : List (Monomial × C)) (i : ℕ) (e : Monomial × C) (out new : List (ℕ × C)) (x : ℕ × C) → i < length es → e ≡ get_or es i e → AreTerms value base vs most out (take i es) → IsWord base vs most e.0 x.0 → value x.1 ≡ value e.1 → new ≡ out ++ x ∷ [] → AreTerms value base vs most new (take (i + 1) es)
  packed_one es i e out new x lt is h w v p = subst₂ (AreTerms value base vs most) (sym p) (take_more es i e lt is) (terms_snoc out (take i es) x e h w v)

  -- the tally that a packed sum stands for
  record Found (x : Packed C) (i : ℕ) (ts : List (Tally C)) : Type 0 where
    found : Tally C
    inside : i < length ts
    is : found ≡ get_or ts i found
    word : IsWord base vs most found.mono x.word
    sum : value x.sum ≡ value found.sum

  find : (xs : List (Packed C)) (ts : List (Tally C)) (i : ℕ) (x : Packed C) → i < length xs → x ≡ get_or xs i x → AreTallies value base vs most xs ts → Found x i ts
  find [] ts i x lt is h = absurd (omega arith)
  find (y ∷ xs) [] i x lt is h = absurd h
  find (y ∷ xs) (t ∷ ts) zero x lt is h = record {
    found = t;
    inside = omega arith;
    is = refl;
    word = subst (λ (z : Packed C). IsWord base vs most t.mono z.word) (sym is) h.0;
    sum = ap (λ (z : Packed C). value z.sum) is ∙ h.1;
  }
  find (y ∷ xs) (t ∷ ts) (suc i) x lt is h =
      let r = find xs ts i x (omega arith) is h.3 in
      record { found = r.found; inside = (let l : i < length ts = r.inside in omega arith); is = r.is; word = r.word; sum = r.sum }

  -- what is out once i of the packed sums are unpacked
  abbrev pub UnpackedSoFar : List (Packed C) → ℕ → List (Monomial × C) → Type 0
  UnpackedSoFar xs i es = (ts : List (Tally C)) → IsFrame base vs most → AreTallies value base vs most xs ts → entries value es ≡ without_zeros (sums value (take i ts))

  pub unpacked_start : (xs : List (Packed C)) (es : List (Monomial × C)) → es ≡ [] → UnpackedSoFar xs 0 es
  unpacked_start xs es e ts f a = ap (entries value) e

  pub unpacked_more : (xs : List (Packed C)) (i : ℕ) (x : Packed C) (es fs : List (Monomial × C)) → i < length xs → x ≡ get_or xs i x → UnpackedSoFar xs i es → IsTermOf value base vs most x es fs → UnpackedSoFar xs (i + 1) fs
  unpacked_more xs i x es fs lt is h k ts f a =
      let o : Found x i ts = find xs ts i x lt is a in
      k o.found f o.word o.sum ∙ ap (λ gs. gs ++ with_term o.found.mono (value o.found.sum) []) (h ts f a)
      ∙ sym (zeros_append (sums value (take i ts)) ((o.found.mono, value o.found.sum) ∷ []))
      ∙ ap without_zeros (sym (sums-append value (take i ts) (o.found ∷ [])))
      ∙ ap (λ us. without_zeros (sums value us)) (take_more ts i o.found o.inside o.is)

  pub unpacked_all : (xs : List (Packed C)) (i : ℕ) (es : List (Monomial × C)) → length xs ≤ i → UnpackedSoFar xs i es → IsUnpacked value base vs most xs es
  unpacked_all xs i es le h ts f a = h ts f a ∙ ap (λ us. without_zeros (sums value us)) (all_taken ts i (subst (λ n. n ≤ i) (tallies_length value base vs most xs ts a) le))

  pub term_is_zero : (x : Packed C) (es : List (Monomial × C)) → unsigned_abs (value x.sum) ≡ 0 → IsTermOf value base vs most x es es
  term_is_zero x es z t f w v = sym (ap (λ gs. entries value es ++ gs) (zero_term t.mono (value t.sum) (ap unsigned_abs (sym v) ∙ z)) ∙ nil_right (entries value es))

  pub term_is_other : (x : Packed C) (m : Monomial) (c : C) (es fs : List (Monomial × C)) → ¬ (unsigned_abs (value x.sum) ≡ 0) → IsWord base vs most m x.word → value c ≡ value x.sum → entries value fs ≡ entries value es ++ (m, value c) ∷ [] → IsTermOf value base vs most x es fs
  term_is_other x m c es fs n k e p t f w v =
      p ∙ ap₂ (λ k z. entries value es ++ (k, z) ∷ []) (same_word base vs most m t.mono x.word f k w) (e ∙ v)
      ∙ ap (λ gs. entries value es ++ gs) (sym (with_other t.mono (value t.sum) [] (λ z. n (ap unsigned_abs v ∙ z))))
