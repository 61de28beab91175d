-- One derivative divides another where its kept counts are at most those of the other.
use Rattle.std.specs.Prelude.{◌≡◌, ℕ, zero, suc, ◌<◌, ◌≤◌, ◌⊎◌, List, [], ◌∷◌, length, get_or, slice_index}
use Rattle.std.proofs.Common.{refl, sym, ◌∙◌, arith, inl, inr}
use Rattle.lie_math.proofs.Decisions.{at_most_or_greater}
use Rattle.lie_jet.specs.Derivatives.{derivative_of}
use Rattle.lie_jet.specs.declared.derivative.Der.{Der}
use Rattle.lie_steps.specs.Equations.{Divides}
use Rattle.lie_systems.specs.ValidSystems.{count}
use Rattle.lie_normal.proofs.CountDifferences.{count-trimmed}

pub index_is : (xs : List ℕ) (i : ℕ) → slice_index xs i ≡ get_or xs i 0
index_is [] zero = refl
index_is [] (suc i) = refl
index_is (x ∷ xs) zero = refl
index_is (x ∷ xs) (suc i) = index_is xs i

count_is : (d : Der) (v : ℕ) → count (derivative_of d) v ≡ slice_index d.counts v
count_is d v = count-trimmed d.counts v ∙ sym (index_is d.counts v)

past_end : (xs : List ℕ) (i : ℕ) → length xs ≤ i → slice_index xs i ≡ 0
past_end [] zero h = refl
past_end [] (suc i) h = refl
past_end (x ∷ xs) zero h = absurd (omega arith)
past_end (x ∷ xs) (suc i) h = past_end xs i (omega arith)

module _ (l d : Der) where
  pub under_at : Divides (derivative_of l) (derivative_of d) → (v : ℕ) → slice_index l.counts v ≤ slice_index d.counts v
  under_at h v = let k = h.counts v in let a = count_is l v in let b = count_is d v in omega arith

  pub all_under : l.unknown ≡ d.unknown → length l.counts ≤ 8 → ((v : ℕ) → v < 8 → slice_index l.counts v ≤ slice_index d.counts v) → Divides (derivative_of l) (derivative_of d)
  all_under e n h = record { unknown = e; counts = λ v. go v (at_most_or_greater 8 v) }
    where
      go : (v : ℕ) → (8 ≤ v) ⊎ (v < 8) → count (derivative_of l) v ≤ count (derivative_of d) v
      go v (inl k) = let a = count_is l v in let z = past_end l.counts v (omega arith) in omega arith
      go v (inr k) = let a = count_is l v in let b = count_is d v in let u = h v k in omega arith
