-- The texts of coordinates by their numbers.
use Rattle.std.specs.Prelude.{ℕ, ◌≡◌, ◌-◌, ◌<◌, ◌≤◌, ltb, cond, true, false, List, []}
use Rattle.std.proofs.Common.{refl, sym, ap, subst, arith}
use Rattle.std.proofs.lemmas.Bool.Decides.{nat_tests}
use Rattle.lie_geometry.specs.Coordinates.{Space, Coordinate, independent, order_of, coordinate, coordinates_up_to, jets_below, seek, nth_of_order}
use Rattle.lie_geometry.proofs.NumberOrder.{order_below}
use Rattle.lie_jet.specs.Jets.{coordinate_of, IsJet, IsSmall}
use Rattle.lie_jet.specs.declared.jet.Jet.{Jet}
use Rattle.lie_print.specs.Printing.{name_at, coordinate_text, variable_text}

pub less_test : (a b : ℕ) → a < b → ltb a b ≡ true
less_test a b h = grind (arith, nat_tests, h)

pub not_less_test : (a b : ℕ) → b ≤ a → ltb a b ≡ false
not_less_test a b h = grind (arith, nat_tests, h)

-- a number with a coordinate
pub text_of : (S : Space) (names : List ℕ) (w : ℕ) (c : Coordinate) → w < coordinates_up_to S 12 → coordinate S w ≡ c → variable_text S names w ≡ coordinate_text S names c
unfolding variable_text
text_of S names w c low is = rw (less_test w (coordinates_up_to S 12) low, is) refl

pub independent_text : (S : Space) (names : List ℕ) (w : ℕ) → w < S.p → variable_text S names w ≡ name_at names w
unfolding coordinate
independent_text S names w low = text_of S names w (independent w) (omega arith) (ap (λ b. cond b (independent w) (let r : ℕ = w - S.p in let n : ℕ = seek (jets_below S) r r in nth_of_order S n (r - jets_below S n))) (less_test w S.p low))

pub jet_text : (S : Space) (names : List ℕ) (w : ℕ) (j : Jet) → IsSmall S → IsJet S 12 j → coordinate S w ≡ coordinate_of S j → variable_text S names w ≡ coordinate_text S names (coordinate_of S j)
jet_text S names w j small is at = text_of S names w (coordinate_of S j) ((order_below S small.some_p small.some_q w 12).0 (subst (λ c. order_of c ≤ 12) (sym at) is.low)) at

pub no_text : (S : Space) (names : List ℕ) (w : ℕ) → coordinates_up_to S 12 ≤ w → variable_text S names w ≡ []
unfolding variable_text
no_text S names w high = rw (not_less_test w (coordinates_up_to S 12) high) refl
