-- A list that is filled place by place.
use Rattle.std.specs.Prelude.{◌≡◌, ℕ, ◌+◌, ◌<◌, ◌≤◌, ◌⊎◌, List, length, get_or}
use Rattle.std.proofs.Common.{subst, ◌∙◌, arith, inl, inr, set}
use Rattle.std.proofs.lemmas.List.{get_or-set_same, get_or-set_other}
use Rattle.lie_math.proofs.Decisions.{at_most_or_greater}

pub set_more : {X : Type 0} (f : ℕ → X) (d : X) (zs : List X) (i : ℕ) (x : X) → i < length zs → ((k : ℕ) → k < i → get_or zs k d ≡ f k) → x ≡ f i
    → (k : ℕ) → k < i + 1 → get_or (set zs i x) k d ≡ f k
set_more f d zs i x lt h e k l = go (at_most_or_greater i k)
  where
    go : (i ≤ k) ⊎ (k < i) → get_or (set zs i x) k d ≡ f k
    go (inl g) = let s : i ≡ k = omega arith in subst (λ j. get_or (set zs i x) j d ≡ f j) s (get_or-set_same zs i x d lt ∙ e)
    go (inr g) = get_or-set_other zs i k x d (λ q. absurd (let r : k ≡ i = q in omega arith)) ∙ h k g
