-- Derivatives have the numbers behind those of the variables.
use Rattle.std.specs.Prelude.{ℕ, ◌+◌, ◌*◌, nat_lt, ◌≡◌, ◌≤◌, ◌<◌, Bool, true, false, [], ◌∷◌, refl}
use Rattle.std.proofs.Common.{sym, ap, subst, arith}
use Rattle.std.proofs.lemmas.Bool.Decides.{nat_tests}
use Rattle.lie_math.specs.FiniteSum as finite
use Rattle.lie_math.specs.FiniteSumLaws.{list-of}
use Rattle.lie_math.specs.Monomial.{powers, single}
use Rattle.lie_geometry.specs.Coordinates.{Space, Coordinate, IsCoordinate, coordinate, coordinates_up_to, number, order_of}
use Rattle.lie_geometry.proofs.Numbers.{ways_none, coordinate-number}
use Rattle.lie_geometry.proofs.NumberOrder.{order_below}
use Rattle.lie_jet.specs.Jets.{IsSmall}

pub list-single : (w : ℕ) → (single w).list ≡ (w, 1) ∷ []
unfolding finite.term
list-single w = list-of powers ((w, 1) ∷ []) tt

-- as many coordinates have the order 0 as there are variables
pub order_none : (S : Space) → coordinates_up_to S 0 ≡ S.p + S.q
order_none S = rw (ways_none S.p) (sum S.p S.q)
  where
    sum : (p q : ℕ) → p + q * (0 + 1) ≡ p + q
    sum p q = omega arith

module _ (S : Space) (small : IsSmall S) where
  -- a coordinate of order 1 or more is a derivative
  pub high_number : (c : Coordinate) → IsCoordinate S c → 1 ≤ order_of c → S.p + S.q ≤ number S c
  high_number c is some = go (nat_lt (number S c) (S.p + S.q)) refl
    where
      go : (b : Bool) → nat_lt (number S c) (S.p + S.q) ≡ b → S.p + S.q ≤ number S c
      go false e = grind (arith, nat_tests, e)
      go true e =
          let lt : number S c < S.p + S.q = grind (arith, nat_tests, e) in
          let under : number S c < coordinates_up_to S 0 = subst (λ n. number S c < n) (sym (order_none S)) lt in
          let low : order_of (coordinate S (number S c)) ≤ 0 = (order_below S small.some_p small.some_q (number S c) 0).1 under in
          let same = ap order_of (coordinate-number S small.some_p small.some_q c is) in
          absurd (omega arith)
