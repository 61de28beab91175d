-- The variables z, as an array tells which variables stand inside.
use Rattle.std.specs.Prelude.{◌≡◌, ℕ, ◌<◌, ◌≤◌, ◌⊎◌, Bool, false, ltb, List, length, get_or}
use Rattle.std.proofs.Common.{sym, ap, ◌∙◌, arith, inl, inr}
use Rattle.std.proofs.lemmas.List.{get_or_past}
use Rattle.lie_solved.proofs.OneForm.{not_less_test}
use Rattle.lie_math.proofs.Decisions.{at_most_or_greater}

pub inside_z : (n : ℕ) (inside : List Bool) (k b : ℕ) → length inside ≡ 8 → 8 ≤ k → b ≡ n → n ≤ 8
    → ((v : ℕ) → v < k → get_or inside v false ≡ ltb v b) → (v : ℕ) → get_or inside v false ≡ ltb v n
inside_z n inside k b eight le e low h v = go (at_most_or_greater 8 v)
  where
    go : (8 ≤ v) ⊎ (v < 8) → get_or inside v false ≡ ltb v n
    go (inl g) = get_or_past inside v false (omega arith) ∙ sym (not_less_test v n (omega arith))
    go (inr g) = h v (omega arith) ∙ ap (ltb v) e
