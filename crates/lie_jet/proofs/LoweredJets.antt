-- Jets derived once less: their counts, and that they come before.
use Rattle.std.specs.Prelude.{◌≡◌, ℕ, ◌+◌, ◌-◌, ◌<◌, ◌≤◌, List, length, take}
use Rattle.std.proofs.Common.{sym, ap, subst, ◌∙◌, arith, get_or}
use Rattle.lie_math.specs.Counts.{order}
use Rattle.lie_geometry.specs.Coordinates.{Space, Coordinate, number, coordinate, coordinates_up_to}
use Rattle.lie_geometry.specs.Prolongation.{indices, counts_of_indices}
use Rattle.lie_geometry.proofs.Indices.{counts_of_indices-indices}
use Rattle.lie_geometry.proofs.Numbers.{number_below}
use Rattle.lie_jet.specs.Jets.{coordinate_of, IsJet}
use Rattle.lie_jet.specs.declared.jet.Jet.{Jet}
use Rattle.lie_jet.specs.JetLists.{AreFirstValues}
use Rattle.lie_jet.specs.Lowered.{IsLowered}
use Rattle.lie_jet.proofs.JetsBelow.{counted}
use Rattle.lie_jet.proofs.JetLists.{cut, is_coordinate, at_number, high_number}

module _ (S : Space) where
  pub counts_of_jet : (l : Jet) → IsJet S 11 l → counts_of_indices S (indices (take S.p l.counts)) ≡ take S.p l.counts
  counts_of_jet l is = counts_of_indices-indices S (take S.p l.counts) (cut S 11 l is)

  pub order_of_jet : (l : Jet) → IsJet S 11 l → order (take S.p l.counts) ≡ length (indices (take S.p l.counts))
  order_of_jet l is = ap order (sym (counts_of_jet l is)) ∙ counted S is.space.some_p is.space.some_q (indices (take S.p l.counts))

  -- the jet derived once less comes before
  lowered_number : (j l : Jet) (k : ℕ) → IsJet S 12 j → IsLowered S j k l → number S (coordinate_of S l) < number S (coordinate_of S j)
  lowered_number j l k is low =
      let a : number S (coordinate_of S l) < coordinates_up_to S (order (take S.p l.counts)) = number_below S is.space.some_p is.space.some_q _ _ (is_coordinate S 11 l low.jet) in
      let b : coordinates_up_to S (order (take S.p l.counts)) ≤ number S (coordinate_of S j) = high_number S is.space (order (take S.p l.counts)) (number S (coordinate_of S j)) j (at_number S 12 j is) (let e = low.order_less in omega arith) in
      less _ _ _ a b
    where
      less : (a b c : ℕ) → a < b → b ≤ c → a < c
      less a b c h k = omega arith

  -- and so among the first n jets where the jet is the next
  pub lowered_before : (j l : Jet) (k n : ℕ) → IsJet S 12 j → IsLowered S j k l → number S (coordinate_of S j) ≡ S.p + n → number S (coordinate_of S l) < S.p + n
  lowered_before j l k n is low e = subst (λ m. number S (coordinate_of S l) < m) e (lowered_number j l k is low)

  -- what stands at its place is its value
  pub value_read : {A : Type 0} (f : Coordinate → A) (vs : List (Jet × A)) (l : Jet) (n p : ℕ) (d : Jet × A) → AreFirstValues S f vs → IsJet S 11 l → n ≡ number S (coordinate_of S l) → p ≡ S.p → S.p ≤ n → n < S.p + length vs → (get_or vs (n - p) d).1 ≡ f (coordinate_of S l)
  value_read {A} f vs l n p d first is e hp low high =
      first.at (n - p) d (omega arith) ∙ ap (λ m. f (coordinate S m)) (back low hp ∙ e) ∙ ap f (at_number S 11 l is)
    where
      back : {m k : ℕ} → S.p ≤ m → k ≡ S.p → S.p + (m - k) ≡ m
      back h e = omega arith
