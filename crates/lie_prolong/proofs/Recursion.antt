-- One step of the recursion: from the jet derived once less to the jet.
use Rattle.std.specs.Prelude.{◌≡◌, ℕ, ◌+◌, ◌≤◌, [], length, take}
use Rattle.std.proofs.Common.{sym, ap, ap₂, ◌∙◌, arith}
use Rattle.lie_math.specs.Counts.{order}
use Rattle.lie_math.specs.Derivation.{is_below}
use Rattle.lie_math.specs.Limits.{absolute}
use Rattle.lie_math.specs.Polynomial.{WholePolynomial, ◌+ᴾ◌, negᴾ}
use Rattle.lie_math.specs.Variables.{IsIn}
use Rattle.lie_geometry.specs.Coordinates.{Space, coordinates_up_to}
use Rattle.lie_geometry.specs.Prolongation.{InZ, indices, total_derivative, prolonged_coefficient, coefficient_at}
use Rattle.lie_geometry.proofs.Indices.{below_indices}
use Rattle.lie_jet.specs.Jets.{coordinate_of, IsJet}
use Rattle.lie_jet.specs.declared.jet.Jet.{Jet}
use Rattle.lie_prolong.specs.Bulks.{multiples, coefficient_bulk, bulk_at}
use Rattle.lie_jet.specs.Lowered.{IsLowered}
use Rattle.lie_prolong.proofs.Coefficients.{coefficient_in}
use Rattle.lie_jet.proofs.JetsBelow.{below_wider}
use Rattle.lie_jet.proofs.JetLists.{cut}
use Rattle.lie_jet.proofs.LoweredJets.{counts_of_jet, order_of_jet}

module _ (S : Space) where
  module _ (V : ℕ → WholePolynomial) (j l : Jet) (k : ℕ) (low : IsLowered S j k l) where
    pub coefficient_stepped : total_derivative S k (coefficient_at S V (coordinate_of S l)) +ᴾ negᴾ (multiples S V k l.dep (take S.p l.counts)) ≡ coefficient_at S V (coordinate_of S j)
    unfolding prolonged_coefficient
    coefficient_stepped =
        ap (λ K. total_derivative S k (coefficient_at S V (coordinate_of S l)) +ᴾ negᴾ (multiples S V k l.dep K)) (sym (counts_of_jet S l low.jet))
        ∙ ap₂ (λ a W. prolonged_coefficient S V a W) low.dependent (sym low.first)

    pub bulk_stepped : total_derivative S k (absolute (coefficient_at S V (coordinate_of S l))) +ᴾ multiples S (λ i. absolute (V i)) k l.dep (take S.p l.counts) ≡ bulk_at S V (coordinate_of S j)
    bulk_stepped =
        ap (λ K. total_derivative S k (absolute (coefficient_at S V (coordinate_of S l))) +ᴾ multiples S (λ i. absolute (V i)) k l.dep K) (sym (counts_of_jet S l low.jet))
        ∙ ap₂ (λ a W. coefficient_bulk S V a W) low.dependent (sym low.first)

  module _ (V : ℕ → WholePolynomial) (j : Jet) (none : indices (take S.p j.counts) ≡ []) where
    pub coefficient_first : V (S.p + j.dep) ≡ coefficient_at S V (coordinate_of S j)
    unfolding prolonged_coefficient
    coefficient_first = ap (λ W. prolonged_coefficient S V j.dep W) (sym none)

  -- the coefficient of a jet of order at most 11 has jets of order at most 11
  pub low_coefficient : (V : ℕ → WholePolynomial) → ((s : ℕ) → InZ S (V s)) → (l : Jet) → IsJet S 11 l → IsIn (is_below (coordinates_up_to S 11)) (coefficient_at S V (coordinate_of S l))
  low_coefficient V in_z l is =
      let p = is.space.some_p in
      let q = is.space.some_q in
      let W = indices (take S.p l.counts) in
      let size : order (take S.p l.counts) ≡ length W = order_of_jet S l is in
      let few : order (take S.p l.counts) ≤ 11 = is.low in
      below_wider S p q (length W) 11 (omega arith) (coefficient_at S V (coordinate_of S l)) (coefficient_in S p q V in_z l.dep is.dependent W (below_indices S.p (take S.p l.counts) (cut S 11 l is)))
