-- The lead of an equation, from the greatest derivative among its variables.
use Rattle.std.specs.Prelude.{◌≡◌, ℕ, ◌+◌, ◌<◌, ◌≤◌, ◌&&◌, Bool, true, false, not, leb, ltb, List, ℤ, Some, None, IfSome}
use Rattle.std.proofs.Common.{sym, ap, subst, ◌∙◌, arith, true≢false, Greater, lit≤}
use Rattle.std.specs.List.{AllByRecursion as Every}
use Rattle.std.specs.Ordering.{is_gt}
use Rattle.std.proofs.lemmas.Bool.{le-leb}
use Rattle.std.proofs.lemmas.Bool.Decides.{leb_tells}
use Rattle.lie_system.proofs.LeadNumbers.{high_number}
use Rattle.lie_math.proofs.EveryElement.{every-weaken}
use Rattle.lie_math.specs.Monomial.{Monomial}
use Rattle.lie_math.specs.Polynomial.{WholePolynomial}
use Rattle.lie_geometry.specs.Coordinates.{Space, Coordinate, order_of, number, coordinate, coordinates_up_to}
use Rattle.lie_geometry.proofs.Numbers.{coordinate-number, count_rises}
use Rattle.lie_geometry.proofs.NumberOrder.{order_below}
use Rattle.lie_ring.specs.Rankings.{degree_rank}
use Rattle.lie_jet.specs.Jets.{coordinate_of, IsJet, IsSmall}
use Rattle.lie_jet.specs.declared.jet.Jet.{Jet}
use Rattle.lie_jet.proofs.NumberedJets.{is_coordinate}
use Rattle.lie_system.specs.Systems.{EquationRead}
use Rattle.lie_solved.specs.Leads.{Occurs, HasNoDerivative, IsLeadBy, IsGreatest, ranked}
use Rattle.lie_system.specs.Written.{IsLow, IsWritten}
use Rattle.lie_solved.specs.Equations.{IsGreatestOf, HasLead, is_greater, variables_of}
use Rattle.lie_solved.proofs.Variables.{every_found, every_in, in_every, every_occurs, occurs_in}

less_true : (a b : ℕ) → ltb a b ≡ true → a < b
less_true a b e = grind (arith, leb_tells)

pub not_less : (a b : ℕ) → ltb a b ≡ true → b ≤ a → ⊥
not_less a b e h = grind (arith, leb_tells)

module _ (S : Space) where
  -- ---- the variables of an equation
  pub variables_low : (e : EquationRead) → IsWritten S e → IsSmall S → (ts : List (Monomial × ℤ)) → (e.diff).list ≡ ts → Every (λ w. w < coordinates_up_to S 12) (variables_of ts)
  variables_low e h small ts is =
      subst (λ us. Every (λ w. w < coordinates_up_to S 12) (variables_of us)) is
      (every-weaken (λ w. ltb w (coordinates_up_to S 6) ≡ true) (λ w. w < coordinates_up_to S 12)
      (λ w t. let l = less_true w (coordinates_up_to S 6) t in let m = count_rises S small.some_p small.some_q 6 12 (lit≤ tt) in omega arith)
      (variables_of (e.diff).list) (every_in (λ w. ltb w (coordinates_up_to S 6)) e.diff h.diff))

  pub none_is : (P : WholePolynomial) (ts : List (Monomial × ℤ)) → P.list ≡ ts → Every (λ w. ltb w (S.p + S.q) ≡ true) (variables_of ts) → HasNoDerivative S P
  none_is P ts is h = in_every (λ w. ltb w (S.p + S.q)) P (subst (λ us. Every (λ w. ltb w (S.p + S.q) ≡ true) (variables_of us)) (sym is) h)

  module _ (small : IsSmall S) where
    -- ---- the greatest derivative
    module _ (e : EquationRead) (h : IsWritten S e) (ts : List (Monomial × ℤ)) (is : (e.diff).list ≡ ts) (j : Jet) (best : IsGreatestOf S (variables_of ts) j) where
      pub some_derivative : ¬ (HasNoDerivative S e.diff)
      some_derivative none =
          let low = every_found (λ w. ltb w (S.p + S.q) ≡ true) (variables_of ts) (number S (coordinate_of S j)) (subst (λ us. Every (λ w. ltb w (S.p + S.q) ≡ true) (variables_of us)) is (every_in (λ w. ltb w (S.p + S.q)) e.diff none)) best.occurs in
          not_less (number S (coordinate_of S j)) (S.p + S.q) low best.derivative

      at_number : coordinate S (number S (coordinate_of S j)) ≡ coordinate_of S j
      at_number = coordinate-number S small.some_p small.some_q (coordinate_of S j) (is_coordinate S small 12 j best.jet)

      low_jet : IsJet S 6 j
      low_jet =
          let low = every_found (λ w. ltb w (coordinates_up_to S 6) ≡ true) (variables_of ts) (number S (coordinate_of S j)) (subst (λ us. Every (λ w. ltb w (coordinates_up_to S 6) ≡ true) (variables_of us)) is (every_in (λ w. ltb w (coordinates_up_to S 6)) e.diff h.diff)) best.occurs in
          let o : order_of (coordinate S (number S (coordinate_of S j))) ≤ 6 = (order_below S small.some_p small.some_q (number S (coordinate_of S j)) 6).1 (less_true (number S (coordinate_of S j)) (coordinates_up_to S 6) low) in
          record { space = best.jet.space; dependent = best.jet.dependent; four = best.jet.four; rest = best.jet.rest; low = subst (λ c. order_of c ≤ 6) at_number o }

      greatest_is : IsGreatest S e.diff (number S (coordinate_of S j))
      greatest_is = record {
        derivative = best.derivative;
        occurs = every_found (λ w. Occurs w e.diff) (variables_of ts) (number S (coordinate_of S j)) (subst (λ us. Every (λ w. Occurs w e.diff) (variables_of us)) is (every_occurs e.diff)) best.occurs;
        greatest = λ v d o g. above v d (occurs_in (λ w. not (is_greater S j w)) e.diff (in_every (λ w. not (is_greater S j w)) e.diff (subst (λ us. Every (λ w. not (is_greater S j w) ≡ true) (variables_of us)) (sym is) (every-weaken (λ w. is_greater S j w ≡ false) (λ w. not (is_greater S j w) ≡ true) (λ w f. ap not f) (variables_of ts) best.greatest))) v o) g;
      }
        where
          above : (v : ℕ) → S.p + S.q ≤ v → not (is_greater S j v) ≡ true → degree_rank (ranked (coordinate S v)) (ranked (coordinate S (number S (coordinate_of S j)))) ≡ Greater → ⊥
          above v d f g = go (leb (S.p + S.q) v) (le-leb (S.p + S.q) v d) (is_gt (degree_rank (ranked (coordinate S v)) (ranked (coordinate_of S j)))) (ap (λ c. is_gt (degree_rank (ranked (coordinate S v)) (ranked c))) (sym at_number) ∙ ap is_gt g) f
            where
              go : (a : Bool) → a ≡ true → (b : Bool) → b ≡ true → not (a && b) ≡ true → ⊥
              go a p b q r = true≢false (sym r ∙ (let k : not (a && b) ≡ false = cc in k))

      -- of an equation without a lead of its own
      pub lead_greatest : e.lead ≡ None → HasLead S e j
      lead_greatest n = record {
        some = some_derivative;
        jet = low_jet;
        derivative = best.derivative;
        lead = subst (λ o. IsLeadBy S o e.diff (number S (coordinate_of S j))) (sym n) greatest_is;
      }

      -- of an equation with one
      pub lead_given : (k : Jet) (c : Coordinate) → e.lead ≡ Some c → IsJet S 6 k → coordinate_of S k ≡ c → HasLead S e k
      lead_given k c n jet same = record {
        some = some_derivative;
        jet = jet;
        derivative = high_number S small (coordinate_of S k) (is_coordinate S small 6 k jet) (subst (λ d. 1 ≤ order_of d) (sym same) (low_lead c n).some);
        lead = subst (λ o. IsLeadBy S o e.diff (number S (coordinate_of S k))) (sym n) (ap (number S) same);
      }
        where
          low_lead : (c : Coordinate) → e.lead ≡ Some c → IsLow S c
          low_lead c n = subst (λ o. IfSome o (IsLow S)) n h.lead
