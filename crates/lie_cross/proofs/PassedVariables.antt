-- Variables that are passed one after the other.
use Rattle.std.specs.Prelude.{◌≡◌, ℕ, ◌+◌, ◌<◌, ◌≤◌, ◌⊎◌}
use Rattle.std.proofs.Common.{sym, subst, arith, inl, inr}
use Rattle.lie_math.specs.LinearForm.{LinearForm}
use Rattle.lie_math.proofs.Decisions.{at_most_or_greater}
use Rattle.lie_systems.specs.Works.{Made, IsWorkWithin}
use Rattle.lie_cross.specs.Variables.{ArePassed}

module _ (By : ℕ → LinearForm → Type 0) (Makes : ℕ → Made → Type 0) where
  pub none_passed : ArePassed By Makes 0
  none_passed = record { none = λ w N lt. absurd (omega arith); within = λ w lt. absurd (omega arith) }

  last_or_before : (w v : ℕ) → w < v + 1 → (w ≡ v) ⊎ (w < v)
  last_or_before w v h = go (at_most_or_greater v w)
    where
      go : (v ≤ w) ⊎ (w < v) → (w ≡ v) ⊎ (w < v)
      go (inl k) = inl (omega arith)
      go (inr k) = inr k

  pub more_passed : (v : ℕ) → ArePassed By Makes v → ((N : LinearForm) → ¬ (By v N)) → IsWorkWithin (Makes v) → ArePassed By Makes (v + 1)
  more_passed v h none within = record { none = λ w N lt. no w N (last_or_before w v lt); within = λ w lt. all w (last_or_before w v lt) }
    where
      no : (w : ℕ) (N : LinearForm) → (w ≡ v) ⊎ (w < v) → ¬ (By w N)
      no w N (inl e) k = none N (subst (λ x. By x N) e k)
      no w N (inr lt) k = h.none w N lt k

      all : (w : ℕ) → (w ≡ v) ⊎ (w < v) → IsWorkWithin (Makes w)
      all w (inl e) = subst (λ x. IsWorkWithin (Makes x)) (sym e) within
      all w (inr lt) = h.within w lt
