-- Combinations and spans: what is spanned stays so under sums, multiples and exact division, and spans can be chained.
use Rattle.std.specs.Prelude.{◌≡◌, ℕ, zero, suc, ◌*◌, ◌<◌, List, [], ◌∷◌, ℤ, pos, ◌+ℤ◌, ◌*ℤ◌, unsigned_abs}
use Rattle.std.proofs.Common.{refl, sym, ap, ap₂, ◌∙◌, arith}
use Rattle.std.specs.List.{AllByRecursion as Every}
use Rattle.lie_math.specs.Integer.{integer_ring}
use Rattle.lie_math.proofs.Integer.{sign}
use Rattle.lie_math.proofs.RingSolver.{v, c0, c1, ◌⊕◌, ◌⊗◌, solve, listed}
use Rattle.lie_spans.specs.Spans.{combination, IsSpanned}
use Rattle.lie_math.proofs.EveryElement.{every-weaken}

abbrev first_alone : ℕ → ℤ
first_alone zero = pos 1
first_alone (suc i) = pos 0

abbrev later : (ℕ → ℤ) → ℕ → ℤ
later c zero = pos 0
later c (suc i) = c i

module _ {V C : Type 0} (entry : V → C → ℤ) where
  pub combination-plus : (a b : ℤ) (c d : ℕ → ℤ) (rs : List V) (k : C) → combination entry (λ i. a *ℤ c i +ℤ b *ℤ d i) rs k ≡ a *ℤ combination entry c rs k +ℤ b *ℤ combination entry d rs k
  combination-plus a b c d [] k = solve integer_ring (listed a (a ∷ b ∷ [])) c0 ((v 0 ⊗ c0) ⊕ (v 1 ⊗ c0)) refl
  combination-plus a b c d (r ∷ rs) k =
      ap (λ x. (a *ℤ c 0 +ℤ b *ℤ d 0) *ℤ entry r k +ℤ x) (combination-plus a b (λ i. c (suc i)) (λ i. d (suc i)) rs k)
      ∙ solve integer_ring (listed a (a ∷ b ∷ c 0 ∷ d 0 ∷ entry r k ∷ combination entry (λ i. c (suc i)) rs k ∷ combination entry (λ i. d (suc i)) rs k ∷ []))
      (((v 0 ⊗ v 2) ⊕ (v 1 ⊗ v 3)) ⊗ v 4 ⊕ (v 0 ⊗ v 5 ⊕ v 1 ⊗ v 6)) (v 0 ⊗ (v 2 ⊗ v 4 ⊕ v 5) ⊕ v 1 ⊗ (v 3 ⊗ v 4 ⊕ v 6)) refl

  pub combination-zero : (rs : List V) (k : C) → combination entry (λ i. pos 0) rs k ≡ pos 0
  combination-zero [] k = refl
  combination-zero (r ∷ rs) k = ap (λ x. pos 0 *ℤ entry r k +ℤ x) (combination-zero rs k) ∙ solve integer_ring (listed (entry r k) (entry r k ∷ [])) (c0 ⊗ v 0 ⊕ c0) c0 refl

  pub combination-times : (a : ℤ) (c : ℕ → ℤ) (rs : List V) (k : C) → combination entry (λ i. a *ℤ c i) rs k ≡ a *ℤ combination entry c rs k
  combination-times a c [] k = solve integer_ring (listed a (a ∷ [])) c0 (v 0 ⊗ c0) refl
  combination-times a c (r ∷ rs) k =
      ap (λ x. (a *ℤ c 0) *ℤ entry r k +ℤ x) (combination-times a (λ i. c (suc i)) rs k)
      ∙ solve integer_ring (listed a (a ∷ c 0 ∷ entry r k ∷ combination entry (λ i. c (suc i)) rs k ∷ [])) ((v 0 ⊗ v 1) ⊗ v 2 ⊕ v 0 ⊗ v 3) (v 0 ⊗ (v 1 ⊗ v 2 ⊕ v 3)) refl

  -- where every vector has 0
  pub combination_vanishes : (c : ℕ → ℤ) (rs : List V) (k : C) → Every (λ r. entry r k ≡ pos 0) rs → combination entry c rs k ≡ pos 0
  combination_vanishes c [] k h = refl
  combination_vanishes c (r ∷ rs) k h =
      ap₂ (λ x y. c 0 *ℤ x +ℤ y) h.0 (combination_vanishes (λ i. c (suc i)) rs k h.1) ∙ solve integer_ring (listed (c 0) (c 0 ∷ [])) (v 0 ⊗ c0 ⊕ c0) c0 refl

  module _ (rs : List V) where
    pub spanned_same : (u w : C → ℤ) → ((k : C) → u k ≡ w k) → IsSpanned entry rs u → IsSpanned entry rs w
    spanned_same u w e s = record { multiple = s.multiple; positive = s.positive; numbers = s.numbers; same = λ k. ap (λ x. pos s.multiple *ℤ x) (sym (e k)) ∙ s.same k }

    pub spanned-zero : IsSpanned entry rs (λ k. pos 0)
    spanned-zero = record { multiple = 1; positive = omega arith; numbers = λ i. pos 0; same = λ k. sym (combination-zero rs k) }

    pub spanned-plus : (a b : ℤ) (u w : C → ℤ) → IsSpanned entry rs u → IsSpanned entry rs w → IsSpanned entry rs (λ k. a *ℤ u k +ℤ b *ℤ w k)
    spanned-plus a b u w s t = record {
      multiple = s.multiple * t.multiple;
      positive = grind (arith, s.positive, t.positive);
      numbers = λ i. (a *ℤ pos t.multiple) *ℤ s.numbers i +ℤ (b *ℤ pos s.multiple) *ℤ t.numbers i;
      same = λ k.
          solve integer_ring (listed a (a ∷ b ∷ pos s.multiple ∷ pos t.multiple ∷ u k ∷ w k ∷ [])) ((v 2 ⊗ v 3) ⊗ (v 0 ⊗ v 4 ⊕ v 1 ⊗ v 5)) ((v 0 ⊗ v 3) ⊗ (v 2 ⊗ v 4) ⊕ (v 1 ⊗ v 2) ⊗ (v 3 ⊗ v 5)) refl
          ∙ ap₂ (λ x y. (a *ℤ pos t.multiple) *ℤ x +ℤ (b *ℤ pos s.multiple) *ℤ y) (s.same k) (t.same k)
          ∙ sym (combination-plus (a *ℤ pos t.multiple) (b *ℤ pos s.multiple) s.numbers t.numbers rs k);
    }

    -- what is not 0 may be divided away
    pub spanned_over : (d : ℤ) (w : C → ℤ) → 0 < unsigned_abs d → IsSpanned entry rs (λ k. d *ℤ w k) → IsSpanned entry rs w
    spanned_over d w h s =
        let g = sign d in
        record {
          multiple = unsigned_abs d * s.multiple;
          positive = grind (arith, s.positive, h);
          numbers = λ i. g.0 *ℤ s.numbers i +ℤ pos 0 *ℤ s.numbers i;
          same = λ k.
              ap (λ x. (x *ℤ pos s.multiple) *ℤ w k) (sym g.1)
              ∙ solve integer_ring (listed d (g.0 ∷ d ∷ pos s.multiple ∷ w k ∷ [])) (((v 0 ⊗ v 1) ⊗ v 2) ⊗ v 3) (v 0 ⊗ (v 2 ⊗ (v 1 ⊗ v 3)) ⊕ c0 ⊗ (v 2 ⊗ (v 1 ⊗ v 3))) refl
              ∙ ap (λ x. g.0 *ℤ x +ℤ pos 0 *ℤ x) (s.same k)
              ∙ sym (combination-plus g.0 (pos 0) s.numbers s.numbers rs k);
        }

    -- all combinations of vectors in the span
    pub spanned_combination : (ss : List V) → Every (λ r. IsSpanned entry rs (entry r)) ss → (c : ℕ → ℤ) → IsSpanned entry rs (combination entry c ss)
    spanned_combination [] h c = spanned-zero
    spanned_combination (r ∷ ss) h c =
        spanned_same (λ k. c 0 *ℤ entry r k +ℤ pos 1 *ℤ combination entry (λ i. c (suc i)) ss k) (combination entry c (r ∷ ss))
        (λ k. solve integer_ring (listed (c 0) (c 0 ∷ entry r k ∷ combination entry (λ i. c (suc i)) ss k ∷ [])) (v 0 ⊗ v 1 ⊕ c1 ⊗ v 2) (v 0 ⊗ v 1 ⊕ v 2) refl)
        (spanned-plus (c 0) (pos 1) (entry r) (combination entry (λ i. c (suc i)) ss) h.0 (spanned_combination ss h.1 (λ i. c (suc i))))

    pub spanned_through : (ss : List V) (w : C → ℤ) → Every (λ r. IsSpanned entry rs (entry r)) ss → IsSpanned entry ss w → IsSpanned entry rs w
    spanned_through ss w h s =
        spanned_over (pos s.multiple) w s.positive
        (spanned_same (combination entry s.numbers ss) (λ k. pos s.multiple *ℤ w k) (λ k. sym (s.same k)) (spanned_combination ss h s.numbers))

  pub spanned_here : (r : V) (rs : List V) → IsSpanned entry (r ∷ rs) (entry r)
  spanned_here r rs = record { multiple = 1; positive = omega arith; numbers = first_alone; same = λ k. solve integer_ring (listed (entry r k) (entry r k ∷ [])) (c1 ⊗ v 0) (c1 ⊗ v 0 ⊕ c0) refl ∙ ap (λ x. pos 1 *ℤ entry r k +ℤ x) (sym (combination-zero rs k)) }

  pub spanned_later : (r : V) (rs : List V) (w : C → ℤ) → IsSpanned entry rs w → IsSpanned entry (r ∷ rs) w
  spanned_later r rs w s = record { multiple = s.multiple; positive = s.positive; numbers = later s.numbers; same = λ k. s.same k ∙ solve integer_ring (listed (entry r k) (entry r k ∷ combination entry s.numbers rs k ∷ [])) (v 1) (c0 ⊗ v 0 ⊕ v 1) refl }

  pub spanned_each : (rs : List V) → Every (λ r. IsSpanned entry rs (entry r)) rs
  spanned_each [] = tt
  spanned_each (r ∷ rs) = (spanned_here r rs, every-weaken (λ x. IsSpanned entry rs (entry x)) (λ x. IsSpanned entry (r ∷ rs) (entry x)) (λ x. spanned_later r rs (entry x)) rs (spanned_each rs))
