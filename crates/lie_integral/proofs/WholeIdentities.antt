-- Identities of whole numbers.
use Rattle.std.specs.Prelude.{◌≡◌, [], ◌∷◌, ℤ, pos, neg_ℤ, ◌*ℤ◌}
use Rattle.std.proofs.Common.{refl, sym, ap, ◌∙◌}
use Rattle.lie_math.specs.Integer.{*ℤ-idl, integer_ring}
use Rattle.lie_math.proofs.RingSolver.{v, ◌⊗◌, ⊖, solve, listed}

-- with x = gx', f = gf' and xD = ny
pub reduced_same : (x z g f h n y : ℤ) (D : ℤ) → g *ℤ z ≡ x → g *ℤ h ≡ f → x *ℤ D ≡ n *ℤ y → z *ℤ (D *ℤ f) ≡ n *ℤ (y *ℤ h)
reduced_same x z g f h n y D first second same =
    ap (λ w. z *ℤ (D *ℤ w)) (sym second)
    ∙ solve integer_ring (listed z (z ∷ D ∷ g ∷ h ∷ [])) (v 0 ⊗ (v 1 ⊗ (v 2 ⊗ v 3))) (((v 2 ⊗ v 0) ⊗ v 1) ⊗ v 3) refl
    ∙ ap (λ w. (w *ℤ D) *ℤ h) first ∙ ap (λ w. w *ℤ h) same
    ∙ solve integer_ring (listed n (n ∷ y ∷ h ∷ [])) ((v 0 ⊗ v 1) ⊗ v 2) (v 0 ⊗ (v 1 ⊗ v 2)) refl

-- with c = sd, ss = 1, x(dr) = ((-s)a)y and ym = L
pub divisor_times_multiple : (c s d r x m a y L : ℤ) → s *ℤ d ≡ c → s *ℤ s ≡ pos 1 → x *ℤ (d *ℤ r) ≡ (neg_ℤ s *ℤ a) *ℤ y → y *ℤ m ≡ L
    → (c *ℤ r) *ℤ (x *ℤ m) ≡ neg_ℤ (L *ℤ a)
divisor_times_multiple c s d r x m a y L number square same multiple =
    ap (λ w. (w *ℤ r) *ℤ (x *ℤ m)) (sym number)
    ∙ solve integer_ring (listed s (s ∷ d ∷ r ∷ x ∷ m ∷ [])) (((v 0 ⊗ v 1) ⊗ v 2) ⊗ (v 3 ⊗ v 4)) (v 0 ⊗ ((v 3 ⊗ (v 1 ⊗ v 2)) ⊗ v 4)) refl
    ∙ ap (λ w. s *ℤ (w *ℤ m)) same
    ∙ solve integer_ring (listed s (s ∷ a ∷ y ∷ m ∷ [])) (v 0 ⊗ (((⊖ (v 0) ⊗ v 1) ⊗ v 2) ⊗ v 3))
    (⊖ (((v 0 ⊗ v 0) ⊗ (v 2 ⊗ v 3)) ⊗ v 1)) refl
    ∙ ap (λ w. neg_ℤ ((w *ℤ (y *ℤ m)) *ℤ a)) square ∙ ap (λ w. neg_ℤ ((pos 1 *ℤ w) *ℤ a)) multiple ∙ ap (λ w. neg_ℤ (w *ℤ a)) (*ℤ-idl L)
