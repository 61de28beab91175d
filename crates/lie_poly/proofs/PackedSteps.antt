-- The steps of merging packed sums, and of one packed term times others.
use Rattle.std.specs.Prelude.{◌≡◌, ℕ, zero, suc, ◌+◌, ◌-◌, ◌<◌, ◌≤◌, ◌^◌, List, [], ◌∷◌, ◌++◌, length, take, drop, get_or, ℤ, ◌+ℤ◌}
use Rattle.std.proofs.Common.{refl, sym, ap, ap₂, ◌∙◌, subst, subst₂, arith, true≢false, is_eq, is_lt, is_gt, add-one, Ordering, Less, Equal, Greater}
use Rattle.std.proofs.Math.Seq.{drop-cons}
use Rattle.std.proofs.lemmas.List.{drop-drop, length-drop, take_rest, nil_from_length}
use Rattle.std.specs.Ordering.{nat_cmp}
use Rattle.lie_ring.specs.Firsts.{first_cmp}
use Rattle.lie_poly.specs.declared.packed.Packed.{Packed}
use Rattle.lie_poly.specs.declared.tally.Tally.{Tally}
use Rattle.lie_poly.specs.Packed.{IsFrame, AreTallies, IsMerged}
use Rattle.lie_poly.specs.Tallies.{IsTallied, firsts}
use Rattle.lie_poly.specs.Words.{IsWord}
use Rattle.lie_poly.proofs.WordLaws.{word_cmp}
use Rattle.lie_poly.proofs.MergeSteps.{State, state_start, state_less, state_greater, state_equal, state_end}

-- the greater word first
abbrev pub word_order : {C : Type 0} → Packed C → Packed C → Ordering
word_order x y = nat_cmp y.word x.word

-- ---- which list has the first element

in_less : {A : Type 0} (R : A → A → Ordering) (xs ys : List A) → Less ≡ first_cmp R xs ys → 0 < length xs
in_less R [] ys e = absurd (true≢false (ap is_lt e))
in_less R (x ∷ xs) ys e = omega arith

in_greater : {A : Type 0} (R : A → A → Ordering) (xs ys : List A) → Greater ≡ first_cmp R xs ys → 0 < length xs + length ys → 0 < length ys
in_greater R [] ys e h = omega arith
in_greater R (x ∷ xs) [] e h = absurd (true≢false (ap is_gt e))
in_greater R (x ∷ xs) (y ∷ ys) e h = omega arith

in_equal : {A : Type 0} (R : A → A → Ordering) (xs ys : List A) → Equal ≡ first_cmp R xs ys → (0 < length xs) × (0 < length ys)
in_equal R [] ys e = absurd (true≢false (ap is_eq e))
in_equal R (x ∷ xs) [] e = absurd (true≢false (ap is_eq e))
in_equal R (x ∷ xs) (y ∷ ys) e = (omega arith, omega arith)

module _ {A : Type 0} (R : A → A → Ordering) (xs ys : List A) (i j : ℕ) where
  pub left_in_less : Less ≡ first_cmp R (drop i xs) (drop j ys) → i < length xs
  left_in_less e = omega (arith, in_less R (drop i xs) (drop j ys) e, length-drop i xs)

  pub right_in_greater : Greater ≡ first_cmp R (drop i xs) (drop j ys) → 0 < (length xs - i) + (length ys - j) → j < length ys
  right_in_greater e h =
      let some : 0 < length (drop i xs) + length (drop j ys) = omega (arith, h, length-drop i xs, length-drop j ys) in
      omega (arith, in_greater R (drop i xs) (drop j ys) e some, length-drop j ys)

  pub left_in_equal : Equal ≡ first_cmp R (drop i xs) (drop j ys) → i < length xs
  left_in_equal e = let h : 0 < length (drop i xs) = (in_equal R (drop i xs) (drop j ys) e).0 in omega (arith, length-drop i xs)

  pub right_in_equal : Equal ≡ first_cmp R (drop i xs) (drop j ys) → j < length ys
  right_in_equal e = let h : 0 < length (drop j ys) = (in_equal R (drop i xs) (drop j ys) e).1 in omega (arith, length-drop j ys)

  -- the rests as slices give them
  pub rests : (o : Ordering) → o ≡ first_cmp R (take (length xs - i) (drop i xs)) (take (length ys - j) (drop j ys)) → o ≡ first_cmp R (drop i xs) (drop j ys)
  rests o e = e ∙ ap₂ (first_cmp R) (take_rest xs i) (take_rest ys j)

pub cut_item : {A : Type 0} (xs : List A) (i : ℕ) (x : A) → i < length xs → x ≡ get_or xs i x → drop i xs ≡ x ∷ drop (i + 1) xs
cut_item xs i x lt e = drop-cons xs i x lt ∙ ap₂ (λ y k. y ∷ drop k xs) (sym e) (sym (add-one i))

next_is : {A : Type 0} (xs : List A) (i : ℕ) (t : A) (rest : List A) → drop i xs ≡ t ∷ rest → rest ≡ drop (i + 1) xs
next_is xs i t rest e = sym (ap (drop 1) e) ∙ drop-drop 1 i xs

pub none_left : {A : Type 0} (xs : List A) (i : ℕ) → length xs ≤ i → drop i xs ≡ []
none_left xs i le = nil_from_length (drop i xs) (omega (arith, length-drop i xs))

module _ {C : Type 0} (value : C → ℤ) where
  module _ (base : ℕ) (vs : List ℕ) (most : ℕ) where
    pub tallies_length : (xs : List (Packed C)) (ts : List (Tally C)) → AreTallies value base vs most xs ts → length xs ≡ length ts
    tallies_length [] [] h = refl
    tallies_length [] (t ∷ ts) h = absurd h
    tallies_length (x ∷ xs) [] h = absurd h
    tallies_length (x ∷ xs) (t ∷ ts) h = ap suc (tallies_length xs ts h.3)

    tallies_drop : (i : ℕ) (xs : List (Packed C)) (ts : List (Tally C)) → AreTallies value base vs most xs ts → AreTallies value base vs most (drop i xs) (drop i ts)
    tallies_drop zero xs ts h = h
    tallies_drop (suc i) [] [] h = tt
    tallies_drop (suc i) [] (t ∷ ts) h = absurd h
    tallies_drop (suc i) (x ∷ xs) [] h = absurd h
    tallies_drop (suc i) (x ∷ xs) (t ∷ ts) h = tallies_drop i xs ts h.3

    pub tallies_snoc : (xs : List (Packed C)) (ts : List (Tally C)) (x : Packed C) (t : Tally C) → AreTallies value base vs most xs ts → IsWord base vs most t.mono x.word → value x.sum ≡ value t.sum → x.bulk ≡ t.bulk → AreTallies value base vs most (xs ++ x ∷ []) (ts ++ t ∷ [])
    tallies_snoc [] [] x t h w v s = (w, v, s, tt)
    tallies_snoc [] (u ∷ ts) x t h w v s = absurd h
    tallies_snoc (y ∷ xs) [] x t h w v s = absurd h
    tallies_snoc (y ∷ xs) (u ∷ ts) x t h w v s = (h.0, h.1, h.2, tallies_snoc xs ts x t h.3 w v s)

    same_order : IsFrame base vs most → (xs ys : List (Packed C)) (ls rs : List (Tally C)) → AreTallies value base vs most xs ls → AreTallies value base vs most ys rs → first_cmp word_order xs ys ≡ firsts ls rs
    same_order f [] ys [] rs l r = refl
    same_order f [] ys (t ∷ ls) rs l r = absurd l
    same_order f (x ∷ xs) ys [] rs l r = absurd l
    same_order f (x ∷ xs) [] (t ∷ ls) [] l r = refl
    same_order f (x ∷ xs) [] (t ∷ ls) (u ∷ rs) l r = absurd r
    same_order f (x ∷ xs) (y ∷ ys) (t ∷ ls) [] l r = absurd r
    same_order f (x ∷ xs) (y ∷ ys) (t ∷ ls) (u ∷ rs) l r = word_cmp base vs most t.mono u.mono x.word y.word f.past f.rise l.0 r.0

    -- the tally of the first packed sum, and the others
    record Opened (x : Packed C) (ls : List (Tally C)) : Type 0 where
      tally : Tally C
      rest : List (Tally C)
      is : ls ≡ tally ∷ rest
      word : IsWord base vs most tally.mono x.word
      sum : value x.sum ≡ value tally.sum
      bulk : x.bulk ≡ tally.bulk

    opened : (x : Packed C) (xs : List (Packed C)) (ls : List (Tally C)) → AreTallies value base vs most (x ∷ xs) ls → Opened x ls
    opened x xs [] h = absurd h
    opened x xs (t ∷ ls) h = record { tally = t; rest = ls; is = refl; word = h.0; sum = h.1; bulk = h.2 }

    at_item : (left : List (Packed C)) (i : ℕ) (x : Packed C) (ls : List (Tally C)) → i < length left → x ≡ get_or left i x → AreTallies value base vs most left ls → Opened x (drop i ls)
    at_item left i x ls lt e h = opened x (drop (i + 1) left) (drop i ls) (subst (λ xs. AreTallies value base vs most xs (drop i ls)) (cut_item left i x lt e) (tallies_drop i left ls h))

  -- what is out once i and j packed sums are taken
  abbrev pub MergedSoFar : List (Packed C) → List (Packed C) → ℕ → ℕ → List (Packed C) → Type 0
  MergedSoFar left right i j out = (base : ℕ) (vs : List ℕ) (most : ℕ) (ls rs : List (Tally C)) → IsFrame base vs most → AreTallies value base vs most left ls → AreTallies value base vs most right rs → IsTallied value ls → IsTallied value rs
      → (ts : List (Tally C)) × AreTallies value base vs most out ts × State value ts (drop i ls) (drop j rs) ls rs

  pub merged_start : (left right out : List (Packed C)) → out ≡ [] → MergedSoFar left right 0 0 out
  merged_start left right out e base vs most ls rs f l r lt rt = ([], subst (λ xs. AreTallies value base vs most xs []) (sym e) tt, state_start value ls rs lt rt)

  module _ (left right : List (Packed C)) (i j : ℕ) (out : List (Packed C)) (h : MergedSoFar left right i j out) where
    pub merged_less : (x p : Packed C) (new : List (Packed C)) → i < length left → x ≡ get_or left i x → Less ≡ first_cmp word_order (drop i left) (drop j right)
        → p.word ≡ x.word → value p.sum ≡ value x.sum → p.bulk ≡ x.bulk → new ≡ out ++ p ∷ [] → length out < 1000000 → MergedSoFar left right (i + 1) j new
    merged_less x p new lt is e ew ev es en room base vs most ls rs f l r ltal rtal =
        let prior = h base vs most ls rs f l r ltal rtal in
        let ts : List (Tally C) = prior.0 in
        let o : Opened base vs most x (drop i ls) = at_item base vs most left i x ls lt is l in
        let order : Less ≡ firsts (drop i ls) (drop j rs) = e ∙ same_order base vs most f (drop i left) (drop j right) (drop i ls) (drop j rs) (tallies_drop base vs most i left ls l) (tallies_drop base vs most j right rs r) in (
          ts ++ o.tally ∷ [],
          subst (λ ys. AreTallies value base vs most ys (ts ++ o.tally ∷ [])) (sym en) (tallies_snoc base vs most out ts p o.tally prior.1 (subst (IsWord base vs most o.tally.mono) (sym ew) o.word) (ev ∙ o.sum) (es ∙ o.bulk)),
          subst (λ k. State value (ts ++ o.tally ∷ []) k (drop j rs) ls rs) (next_is ls i o.tally o.rest o.is)
              (state_less value ts o.rest (drop j rs) ls rs o.tally (subst (λ k. State value ts k (drop j rs) ls rs) o.is prior.2) (subst (λ k. Less ≡ firsts k (drop j rs)) o.is order)
              (subst (λ n. n < 1000000) (tallies_length base vs most out ts prior.1) room)),
        )

    pub merged_greater : (y p : Packed C) (new : List (Packed C)) → j < length right → y ≡ get_or right j y → Greater ≡ first_cmp word_order (drop i left) (drop j right)
        → p.word ≡ y.word → value p.sum ≡ value y.sum → p.bulk ≡ y.bulk → new ≡ out ++ p ∷ [] → length out < 1000000 → MergedSoFar left right i (j + 1) new
    merged_greater y p new lt is e ew ev es en room base vs most ls rs f l r ltal rtal =
        let prior = h base vs most ls rs f l r ltal rtal in
        let ts : List (Tally C) = prior.0 in
        let o : Opened base vs most y (drop j rs) = at_item base vs most right j y rs lt is r in
        let order : Greater ≡ firsts (drop i ls) (drop j rs) = e ∙ same_order base vs most f (drop i left) (drop j right) (drop i ls) (drop j rs) (tallies_drop base vs most i left ls l) (tallies_drop base vs most j right rs r) in (
          ts ++ o.tally ∷ [],
          subst (λ ys. AreTallies value base vs most ys (ts ++ o.tally ∷ [])) (sym en) (tallies_snoc base vs most out ts p o.tally prior.1 (subst (IsWord base vs most o.tally.mono) (sym ew) o.word) (ev ∙ o.sum) (es ∙ o.bulk)),
          subst (λ k. State value (ts ++ o.tally ∷ []) (drop i ls) k ls rs) (next_is rs j o.tally o.rest o.is)
              (state_greater value ts (drop i ls) o.rest ls rs o.tally (subst (λ k. State value ts (drop i ls) k ls rs) o.is prior.2) (subst (λ k. Greater ≡ firsts (drop i ls) k) o.is order)
              (subst (λ n. n < 1000000) (tallies_length base vs most out ts prior.1) room)),
        )

    pub merged_equal : (x y p : Packed C) (new : List (Packed C)) → i < length left → j < length right → x ≡ get_or left i x → y ≡ get_or right j y → Equal ≡ first_cmp word_order (drop i left) (drop j right)
        → p.word ≡ x.word → value p.sum ≡ value x.sum +ℤ value y.sum → p.bulk ≡ x.bulk + y.bulk → p.bulk < 2 ^ 127 → new ≡ out ++ p ∷ [] → length out < 1000000 → MergedSoFar left right (i + 1) (j + 1) new
    merged_equal x y p new lt lt_right is is_right e ew ev es fits en room base vs most ls rs f l r ltal rtal =
        let prior = h base vs most ls rs f l r ltal rtal in
        let ts : List (Tally C) = prior.0 in
        let o : Opened base vs most x (drop i ls) = at_item base vs most left i x ls lt is l in
        let w : Opened base vs most y (drop j rs) = at_item base vs most right j y rs lt_right is_right r in
        let order : Equal ≡ firsts (drop i ls) (drop j rs) = e ∙ same_order base vs most f (drop i left) (drop j right) (drop i ls) (drop j rs) (tallies_drop base vs most i left ls l) (tallies_drop base vs most j right rs r) in
        let z : Tally C = record { mono = o.tally.mono; sum = p.sum; bulk = p.bulk } in
        let bulk_is : p.bulk ≡ o.tally.bulk + w.tally.bulk = es ∙ ap₂ ◌+◌ o.bulk w.bulk in (
          ts ++ z ∷ [],
          subst (λ ys. AreTallies value base vs most ys (ts ++ z ∷ [])) (sym en) (tallies_snoc base vs most out ts p z prior.1 (subst (IsWord base vs most o.tally.mono) (sym ew) o.word) refl refl),
          subst₂ (λ k q. State value (ts ++ z ∷ []) k q ls rs) (next_is ls i o.tally o.rest o.is) (next_is rs j w.tally w.rest w.is)
              (state_equal value ts o.rest w.rest ls rs o.tally w.tally (subst₂ (λ k q. State value ts k q ls rs) o.is w.is prior.2) (subst₂ (λ k q. Equal ≡ firsts k q) o.is w.is order)
              z refl (ev ∙ ap₂ ◌+ℤ◌ o.sum w.sum) bulk_is (subst (λ n. n < 2 ^ 127) bulk_is fits)
              (subst (λ n. n < 1000000) (tallies_length base vs most out ts prior.1) room)),
        )

    pub merged_end : length left ≤ i → length right ≤ j → IsMerged value left right out
    merged_end le le_right base vs most ls rs f l r ltal rtal =
        let prior = h base vs most ls rs f l r ltal rtal in (
          prior.0,
          prior.1,
          state_end value prior.0 ls rs
              (subst₂ (λ k q. State value prior.0 k q ls rs) (none_left ls i (subst (λ n. n ≤ i) (tallies_length base vs most left ls l) le)) (none_left rs j (subst (λ n. n ≤ j) (tallies_length base vs most right rs r) le_right)) prior.2),
        )
