-- The jet with a number: what the code makes of a number is a jet with it, and jets are told by their numbers.
use Rattle.std.specs.Prelude.{◌≡◌, ℕ, zero, suc, ◌+◌, ◌*◌, ◌<◌, ◌≤◌, ◌-◌, ◌/◌, ◌%◌, List, [], ◌∷◌, ◌++◌, length, take, drop, replicate}
use Rattle.std.proofs.Common.{refl, sym, ap, ap₂, subst, ◌∙◌, arith}
use Rattle.std.proofs.Math.Nat.{div-add-mod', div-lt_iff_lt-mul, mul-pos}
use Rattle.std.proofs.Math.Seq.{take-append_seam, drop-append_seam}
use Rattle.std.proofs.lemmas.List.{take-append-drop, length-append, length-replicate}
use Rattle.lie_math.specs.Counts.{order}
use Rattle.lie_geometry.specs.Coordinates.{Space, Coordinate, IsCoordinate, independent, jet, number, coordinate, sum_below, ways, rank}
use Rattle.lie_geometry.proofs.Numbers.{coordinate-number, ways_some}
use Rattle.lie_jet.specs.Jets.{coordinate_of, IsJet, IsSmall}
use Rattle.lie_jet.specs.declared.jet.Jet.{Jet}
use Rattle.lie_jet.proofs.JetNumbers.{length_cut, one_more}

pub rest_zeros : (p : ℕ) → p ≤ 4 → drop {A = ℕ} p (0 ∷ 0 ∷ 0 ∷ 0 ∷ []) ≡ replicate (4 - p) 0
rest_zeros zero h = refl
rest_zeros (suc zero) h = refl
rest_zeros (suc (suc zero)) h = refl
rest_zeros (suc (suc (suc zero))) h = refl
rest_zeros (suc (suc (suc (suc zero)))) h = refl
rest_zeros (suc (suc (suc (suc (suc p))))) h = absurd (omega arith)

abbrev dependent_of : Coordinate → ℕ
dependent_of (independent i) = 0
dependent_of (jet a J) = a

abbrev counts_in : Coordinate → List ℕ
counts_in (independent i) = []
counts_in (jet a J) = J

-- no jet has the number of an independent variable
pub jet_after : (S : Space) (a : ℕ) (J : List ℕ) → S.p ≤ number S (jet a J)
unfolding number
jet_after S a J = omega arith

module _ (S : Space) (small : IsSmall S) where
  pub is_coordinate : (n : ℕ) (j : Jet) → IsJet S n j → IsCoordinate S (coordinate_of S j)
  is_coordinate n j is = (is.dependent, length_cut S.p j.counts is.four small.few_p)

  -- jets are told by their numbers
  pub jet_told : (m n : ℕ) (i j : Jet) → IsJet S m i → IsJet S n j → number S (coordinate_of S i) ≡ number S (coordinate_of S j) → i ≡ j
  jet_told m n i j is ks e =
      let c : coordinate_of S i ≡ coordinate_of S j = sym (coordinate-number S small.some_p small.some_q _ (is_coordinate m i is)) ∙ ap (coordinate S) e ∙ coordinate-number S small.some_p small.some_q _ (is_coordinate n j ks) in
      let front : take S.p i.counts ≡ take S.p j.counts = ap counts_in c in
      let back : drop S.p i.counts ≡ drop S.p j.counts = is.rest ∙ sym ks.rest in
      let d : i.dep ≡ j.dep = ap dependent_of c in
      let l : i.counts ≡ j.counts = sym (take-append-drop S.p i.counts) ∙ ap₂ (λ a b. a ++ b) front back ∙ take-append-drop S.p j.counts in
      λ t. record { dep = d t; counts = l t }

  pub jet_made : (w b s : ℕ) (K : List ℕ) → S.p ≤ w → order K ≤ 12 → length K ≡ S.p → b ≡ S.q * sum_below (ways S.p) (order K) → b ≤ w - S.p → w - S.p < S.q * sum_below (ways S.p) (suc (order K)) → s ≡ ways S.p (order K) → rank K ≡ (w - S.p - b) % s →
      IsJet S 12 (record { dep = (w - S.p - b) / s; counts = K ++ drop {A = ℕ} S.p (0 ∷ 0 ∷ 0 ∷ 0 ∷ []) }) × (number S (coordinate_of S (record { dep = (w - S.p - b) / s; counts = K ++ drop {A = ℕ} S.p (0 ∷ 0 ∷ 0 ∷ 0 ∷ []) })) ≡ w)
  unfolding number
  jet_made w b s K h low l hb at next hs r =
      let d = (w - S.p - b) / s in
      let counts = K ++ drop {A = ℕ} S.p (0 ∷ 0 ∷ 0 ∷ 0 ∷ []) in
      let front : take S.p counts ≡ K = ap (λ n. take n counts) (sym l) ∙ take-append_seam K _ in
      let back : drop S.p counts ≡ replicate (4 - S.p) 0 = ap (λ n. drop n counts) (sym l) ∙ drop-append_seam K _ ∙ rest_zeros S.p small.few_p in
      let pos_s : 0 < s = subst (λ x. 0 < x) (sym hs) (ways_some S.p (order K) small.some_p) in
      let place : w - S.p - b < S.q * s = left (w - S.p) b (S.q * sum_below (ways S.p) (order K)) s (ways S.p (order K)) hb hs (omega arith) (more S.q s small.some_q pos_s) in
      let dep : d < S.q = (div-lt_iff_lt-mul pos_s).1 place in
      let whole : d * s + rank K ≡ w - S.p - b = ap (λ x. d * s + x) r ∙ div-add-mod' (w - S.p - b) s in
      let four : length counts ≡ 4 = all _ (rest_zeros S.p small.few_p) in (
        record { space = small; dependent = dep; four = four; rest = back; low = subst (λ J. order J ≤ 12) (sym front) low },
        ap (λ J. number S (jet d J)) front ∙ ap (λ x. S.p + (S.q * sum_below (ways S.p) (order K) + (d * x + rank K))) (sym hs) ∙ group _ whole,
      )
    where
      more : (q s : ℕ) → 0 < q → 0 < s → 0 < q * s
      more q s h k = mul-pos h k

      left : (a b c s m : ℕ) → b ≡ c → s ≡ m → a < c + S.q * m → 0 < S.q * s → a - b < S.q * s
      left a b c s m e f h k = let g : S.q * s ≡ S.q * m = ap (λ x. S.q * x) f in omega arith

      group : (y : ℕ) → y + rank K ≡ w - S.p - b → S.p + (S.q * sum_below (ways S.p) (order K) + (y + rank K)) ≡ w
      group y e = omega arith

      all : (rest : List ℕ) → rest ≡ replicate (4 - S.p) 0 → length (K ++ rest) ≡ 4
      all rest e = omega (arith, length-append K rest, ap length e, length-replicate {A = ℕ} (4 - S.p) 0)

  -- the same by equal numbers
  pub jet_made_from : (w p p' q b c : ℕ) (K : List ℕ) → p ≡ S.p → p' ≡ S.p → q ≡ S.q → p' ≤ w → order K ≤ 12 → length K ≡ p → b ≡ sum_below (ways p) (order K) → c ≡ sum_below (ways p) (order K + 1) → q * b ≤ w - p' → w - p' < q * sum_below (ways p) (suc (order K)) → rank K ≡ (w - p' - q * b) % (c - b) →
      IsJet S 12 (record { dep = (w - p' - q * b) / (c - b); counts = K ++ drop {A = ℕ} p (0 ∷ 0 ∷ 0 ∷ 0 ∷ []) }) × (number S (coordinate_of S (record { dep = (w - p' - q * b) / (c - b); counts = K ++ drop {A = ℕ} p (0 ∷ 0 ∷ 0 ∷ 0 ∷ []) })) ≡ w)
  jet_made_from w p p' q b c K hp hp' hq h low l hb hc at next r =
      let s : c - b ≡ ways S.p (order K) = ap₂ (λ x y. y - x) hb hc ∙ one_more (ways p) (order K) ∙ ap (λ n. ways n (order K)) hp in
      let e : q * b ≡ S.q * sum_below (ways S.p) (order K) = ap₂ (λ x y. x * y) hq (hb ∙ ap (λ n. sum_below (ways n) (order K)) hp) in
      let next' : w - S.p < S.q * sum_below (ways S.p) (suc (order K)) = subst (λ m. w - m < S.q * sum_below (ways S.p) (suc (order K))) hp' (subst (λ m. w - p' < m * sum_below (ways S.p) (suc (order K))) hq (subst (λ m. w - p' < q * sum_below (ways m) (suc (order K))) hp next)) in
      let made = jet_made w (q * b) (c - b) K (omega arith) low (l ∙ hp) e (omega arith) next' s (r ∙ ap (λ m. (w - m - q * b) % (c - b)) hp') in
      subst (λ m. IsJet S 12 (record { dep = (w - m - q * b) / (c - b); counts = K ++ drop {A = ℕ} p (0 ∷ 0 ∷ 0 ∷ 0 ∷ []) }) × (number S (coordinate_of S (record { dep = (w - m - q * b) / (c - b); counts = K ++ drop {A = ℕ} p (0 ∷ 0 ∷ 0 ∷ 0 ∷ []) })) ≡ w)) (sym hp')
      (subst (λ m. IsJet S 12 (record { dep = (w - S.p - q * b) / (c - b); counts = K ++ drop {A = ℕ} m (0 ∷ 0 ∷ 0 ∷ 0 ∷ []) }) × (number S (coordinate_of S (record { dep = (w - S.p - q * b) / (c - b); counts = K ++ drop {A = ℕ} m (0 ∷ 0 ∷ 0 ∷ 0 ∷ []) })) ≡ w)) (sym hp) made)

  pub jet_is : (w : ℕ) (j : Jet) → IsJet S 12 j × (number S (coordinate_of S j) ≡ w) → IsJet S 12 j × (coordinate S w ≡ coordinate_of S j)
  jet_is w j h = (h.0, ap (coordinate S) (sym h.1) ∙ coordinate-number S small.some_p small.some_q _ (is_coordinate 12 j h.0))

  pub jet_alone : (w : ℕ) (j k : Jet) → IsJet S 12 j × (number S (coordinate_of S j) ≡ w) → IsJet S 12 k → number S (coordinate_of S k) ≡ w → j ≡ k
  jet_alone w j k h ks e = jet_told 12 12 j k h.0 ks (h.1 ∙ sym e)
