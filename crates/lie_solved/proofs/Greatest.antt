-- The greatest derivative among coordinates, one coordinate after the other.
use Rattle.std.specs.Prelude.{◌≡◌, ℕ, ◌+◌, ◌≤◌, ◌&&◌, Bool, true, false, eqb, leb, ltb, List, [], ◌∷◌, ◌++◌, Some, None, if◌then◌else◌}
use Rattle.std.proofs.Common.{refl, sym, ap, subst, ◌∙◌, arith, true≢false, Ordering, Less, Equal, Greater}
use Rattle.std.specs.List.{AllByRecursion as Every, list_any}
use Rattle.std.specs.Ordering.{is_gt, ordering_reverse}
use Rattle.std.proofs.lemmas.Bool.{eq-eqb, or_left, or_right, and_right}
use Rattle.std.proofs.lemmas.Bool.Decides.{leb_tells}
use Rattle.std.proofs.lemmas.Cmp.{upto, tied_itself}
use Rattle.std.proofs.lemmas.List.Folds.{list_any-append}
use Rattle.lie_geometry.specs.Coordinates.{Space, number, coordinate}
use Rattle.lie_geometry.proofs.Numbers.{coordinate_is}
use Rattle.lie_ring.specs.Rankings.{Ranked, IsRanking, degree_rank}
use Rattle.lie_ring.specs.DegreeRanking.{degree_rank_is_ranking}
use Rattle.lie_jet.specs.Jets.{coordinate_of, IsJet, IsSmall}
use Rattle.lie_jet.specs.declared.jet.Jet.{Jet}
use Rattle.lie_solved.specs.Leads.{JetOrder, ranked}
use Rattle.lie_solved.specs.Equations.{is_greater, IsGreatestOf, IsBest}
use Rattle.lie_math.proofs.EveryElement.{every-append}

-- ---- tests
ltb_leb : (a b : ℕ) → ltb a b ≡ true → leb b a ≡ false
ltb_leb a b e = grind (arith, leb_tells)

reversed : (o : Ordering) → is_gt o ≡ true → is_gt (ordering_reverse o) ≡ false
reversed Less e = absurd (true≢false (sym e))
reversed Equal e = absurd (true≢false (sym e))
reversed Greater e = refl

-- ---- the order of derivatives
module _ (rank : JetOrder) (ranking : IsRanking rank) where
  pub rank_itself : (d : Ranked) → is_gt (rank d d) ≡ false
  rank_itself d = ap is_gt (tied_itself ranking.total d)

  pub rank_through : (d e f : Ranked) → is_gt (rank d e) ≡ false → is_gt (rank f e) ≡ true → is_gt (rank d f) ≡ false
  rank_through d e f h k = upto ranking.total d e f h (ap is_gt (ranking.total.antisymm e f) ∙ reversed (rank f e) k)

module _ (S : Space) where
  -- ---- a coordinate that is no derivative
  low_not_greater : (j : Jet) (w : ℕ) → ltb w (S.p + S.q) ≡ true → is_greater S j w ≡ false
  low_not_greater j w e = ap (λ b. b && is_gt (degree_rank (ranked (coordinate S w)) (ranked (coordinate_of S j)))) (ltb_leb w (S.p + S.q) e)

  lows_not_greater : (j : Jet) (ws : List ℕ) → Every (λ w. ltb w (S.p + S.q) ≡ true) ws → Every (λ w. is_greater S j w ≡ false) ws
  lows_not_greater j [] h = tt
  lows_not_greater j (w ∷ ws) h = (low_not_greater j w h.0, lows_not_greater j ws h.1)

  kept_best : (ws : List ℕ) (w : ℕ) (j : Jet) → is_greater S j w ≡ false → IsGreatestOf S ws j → IsGreatestOf S (ws ++ w ∷ []) j
  kept_best ws w j e h = record {
    jet = h.jet;
    derivative = h.derivative;
    occurs = list_any-append (λ v. eqb v (number S (coordinate_of S j))) ws (w ∷ []) ∙ or_left (list_any (λ v. eqb v (number S (coordinate_of S j))) ws) (list_any (λ v. eqb v (number S (coordinate_of S j))) (w ∷ [])) h.occurs;
    greatest = every-append (λ w. is_greater S j w ≡ false) ws (w ∷ []) h.greatest (e, tt);
  }

  -- ---- a derivative
  module _ (small : IsSmall S) (w : ℕ) (j : Jet) (high : S.p + S.q ≤ w) (is : IsJet S 12 j × (coordinate S w ≡ coordinate_of S j)) where
    number_is : number S (coordinate_of S j) ≡ w
    number_is = ap (number S) (sym is.1) ∙ (coordinate_is S small.some_p small.some_q w).1

    itself : is_greater S j w ≡ false
    itself = and_right (leb (S.p + S.q) w) _ (ap (λ x. is_gt (degree_rank (ranked x) (ranked (coordinate_of S j)))) is.1 ∙ rank_itself degree_rank degree_rank_is_ranking (ranked (coordinate_of S j)))

    new_best : (ws : List ℕ) → Every (λ v. is_greater S j v ≡ false) ws → IsGreatestOf S (ws ++ w ∷ []) j
    new_best ws h = record {
      jet = is.0;
      derivative = subst (λ v. S.p + S.q ≤ v) (sym number_is) high;
      occurs = list_any-append (λ v. eqb v (number S (coordinate_of S j))) ws (w ∷ [])
          ∙ or_right (list_any (λ v. eqb v (number S (coordinate_of S j))) ws) (list_any (λ v. eqb v (number S (coordinate_of S j))) (w ∷ [])) (or_left (eqb w (number S (coordinate_of S j))) false (ap (eqb w) number_is ∙ eq-eqb w w refl));
      greatest = every-append (λ w. is_greater S j w ≡ false) ws (w ∷ []) h (itself, tt);
    }

    pub best_first : (ws : List ℕ) → IsBest S ws None → IsBest S (ws ++ w ∷ []) (Some j)
    best_first ws h = new_best ws (lows_not_greater j ws h)

    under : (k : Jet) → is_gt (degree_rank (ranked (coordinate_of S j)) (ranked (coordinate_of S k))) ≡ true → (ws : List ℕ) → Every (λ v. is_greater S k v ≡ false) ws → Every (λ v. is_greater S j v ≡ false) ws
    under k e [] h = tt
    under k e (v ∷ ws) h = (go (leb (S.p + S.q) v) h.0, under k e ws h.1)
      where
        go : (b : Bool) → (b && is_gt (degree_rank (ranked (coordinate S v)) (ranked (coordinate_of S k)))) ≡ false → (b && is_gt (degree_rank (ranked (coordinate S v)) (ranked (coordinate_of S j)))) ≡ false
        go true h = rank_through degree_rank degree_rank_is_ranking (ranked (coordinate S v)) (ranked (coordinate_of S k)) (ranked (coordinate_of S j)) h e
        go false h = refl

    pub best_of_two : (ws : List ℕ) (k best : Jet) → best ≡ (if is_gt (degree_rank (ranked (coordinate_of S j)) (ranked (coordinate_of S k))) then j else k) → IsGreatestOf S ws k → IsGreatestOf S (ws ++ w ∷ []) best
    best_of_two ws k best e h = subst (IsGreatestOf S (ws ++ w ∷ [])) (sym e) (go (is_gt (degree_rank (ranked (coordinate_of S j)) (ranked (coordinate_of S k)))) refl)
      where
        go : (b : Bool) → is_gt (degree_rank (ranked (coordinate_of S j)) (ranked (coordinate_of S k))) ≡ b → IsGreatestOf S (ws ++ w ∷ []) (if b then j else k)
        go true e = new_best ws (under k e ws h.greatest)
        go false e = kept_best ws w k (and_right (leb (S.p + S.q) w) _ (ap (λ x. is_gt (degree_rank (ranked x) (ranked (coordinate_of S k)))) is.1 ∙ e)) h
