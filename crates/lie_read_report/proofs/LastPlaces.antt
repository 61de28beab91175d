-- Lines found by the letter that they begin with.
use Rattle.std.specs.Prelude.{ℕ, zero, suc, ◌≡◌, ◌+◌, ◌-◌, ◌<◌, ◌≤◌, Bool, true, false, List, [], ◌∷◌, length, map, take, drop, get_or, Some, None, refl}
use Rattle.std.specs.Borrow.{Bor}
use Rattle.std.proofs.Common.{sym, ap, ap₂, ◌∙◌, arith, add-one, drop-cons}
use Rattle.std.proofs.lemmas.List.{get_or_default}
use Rattle.lie_readback.proofs.DraftSteps.{map_drop}
use Rattle.lie_read_report.specs.ReportDrafts.{begins_with, last_place, after_first}

-- the last place behind lines
place_behind : (letter : ℕ) (ls : List (List ℕ)) (i : ℕ) → i ≤ length ls → last_place letter (drop i ls) ≡ Some 0 → last_place letter ls ≡ Some i
place_behind letter ls zero le h = h
place_behind letter [] (suc i) le h = absurd (omega arith)
place_behind letter (l ∷ ls) (suc i) le h = rw (place_behind letter ls i (omega arith) h) (ap Some (add-one i))

module _ (letter : ℕ) (xs : List (Bor (List ℕ))) (i : ℕ) (x : Bor (List ℕ)) (lt : i < length xs) (is : x ≡ get_or xs i x) (none : last_place letter (map (λ x. x.now) (drop (i + 1) xs)) ≡ None) where
  parted : map (λ x. x.now) (drop i xs) ≡ x.now ∷ map (λ x. x.now) (drop (i + 1) xs)
  parted = ap (map (λ (y : Bor (List ℕ)). y.now)) (drop-cons xs i x lt ∙ ap₂ (λ (y : Bor (List ℕ)) (k : ℕ). y ∷ drop k xs) (sym is) (sym (add-one i)))

  pub place_on : begins_with letter x.now ≡ false → last_place letter (map (λ x. x.now) (drop i xs)) ≡ None
  place_on h = ap (last_place letter) parted ∙ rw (none, h) refl

  pub place_here : begins_with letter x.now ≡ true → last_place letter (map (λ x. x.now) xs) ≡ Some i
  place_here h =
      place_behind letter (map (λ x. x.now) xs) i (within xs i lt)
      (ap (last_place letter) (sym (map_drop i xs) ∙ parted) ∙ rw (none, h) refl)
    where
      within : (ys : List (Bor (List ℕ))) (k : ℕ) → k < length ys → k ≤ length (map (λ x. x.now) ys)
      within [] k lt = absurd (omega arith)
      within (y ∷ ys) zero lt = omega arith
      within (y ∷ ys) (suc k) lt = let w = within ys k (omega arith) in omega arith

-- a step of a loop from the end
module _ (letter : ℕ) (xs : List (Bor (List ℕ))) (i : ℕ) (d : Bor (List ℕ)) (some : 0 < i) (within : i ≤ length xs) (none : last_place letter (map (λ x. x.now) (drop i xs)) ≡ None) (r : Bool) (tested : r ≡ begins_with letter (get_or xs (i - 1) d).now) where
  at_last : i - 1 < length xs
  at_last = omega arith

  none_behind : last_place letter (map (λ x. x.now) (drop (i - 1 + 1) xs)) ≡ None
  none_behind = let e : i - 1 + 1 ≡ i = omega arith in ap (λ k. last_place letter (map (λ (x : Bor (List ℕ)). x.now) (drop k xs))) e ∙ none

  pub step_on : r ≡ false → last_place letter (map (λ x. x.now) (drop (i - 1) xs)) ≡ None
  step_on h = place_on letter xs (i - 1) (get_or xs (i - 1) d) at_last (get_or_default xs (i - 1) d (get_or xs (i - 1) d) at_last) none_behind (sym tested ∙ h)

  pub step_here : r ≡ true → last_place letter (map (λ x. x.now) xs) ≡ Some (i - 1)
  step_here h = place_here letter xs (i - 1) (get_or xs (i - 1) d) at_last (get_or_default xs (i - 1) d (get_or xs (i - 1) d) at_last) none_behind (sym tested ∙ h)
