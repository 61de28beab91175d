-- A number added up by doubling.
use Rattle.std.proofs.Common.{◌≡◌, ℕ, ◌+◌, ◌*◌, ◌/◌, ◌%◌, ◌≤◌, ◌^◌, sym, ap, ◌∙◌, arith, ℤ, pos, ◌+ℤ◌, ◌*ℤ◌}
use Rattle.std.specs.Prelude.{unsigned_abs}
use Rattle.std.proofs.lemmas.Int.{unsigned_abs-mul}
use borrow.Author.Differences.{ints}
use lib.IntN.{*ℤ_comm}
use Rattle.lie_math.specs.Integer.{*ℤ-distl, *ℤ-idl}

twice : (v : ℤ) (k : ℕ) → v *ℤ pos k +ℤ v *ℤ pos k ≡ v *ℤ pos (k + k)
twice v k = sym (*ℤ-distl v (pos k) (pos k))

one_more : (v : ℤ) (k : ℕ) → v *ℤ pos k +ℤ v ≡ v *ℤ pos (k + 1)
one_more v k = ap (λ z. v *ℤ pos k +ℤ z) (sym (*ℤ_comm v (pos 1) ∙ *ℤ-idl v)) ∙ sym (*ℤ-distl v (pos k) (pos 1))

pub doubled_even : (v h : ℤ) (n : ℕ) → h ≡ v *ℤ pos (n / 2) → n % 2 ≡ 0 → h +ℤ h ≡ v *ℤ pos n
doubled_even v h n e r = ap (λ z. z +ℤ z) e ∙ twice v (n / 2) ∙ ap (λ k. v *ℤ pos k) (let q : n / 2 + n / 2 ≡ n = omega arith in q)

pub doubled_odd : (v h d : ℤ) (n : ℕ) → h ≡ v *ℤ pos (n / 2) → d ≡ h +ℤ h → ¬ (n % 2 ≡ 0) → d +ℤ v ≡ v *ℤ pos n
doubled_odd v h d n e f r =
    ap (λ z. z +ℤ v) (f ∙ ap (λ z. z +ℤ z) e ∙ twice v (n / 2)) ∙ one_more v (n / 2 + n / 2) ∙ ap (λ k. v *ℤ pos k) (let q : n / 2 + n / 2 + 1 ≡ n = omega arith in q)

pub wide_double : (v h : ℤ) (n : ℕ) → h ≡ v *ℤ pos (n / 2) → 2 ^ 127 ≤ unsigned_abs (h +ℤ h) → 2 ^ 127 ≤ unsigned_abs (v *ℤ pos n)
wide_double v h n e w =
    let twofold : unsigned_abs (h +ℤ h) ≡ unsigned_abs h + unsigned_abs h = omega (arith, ints) in
    let half : unsigned_abs h ≡ unsigned_abs v * (n / 2) = ap unsigned_abs e ∙ unsigned_abs-mul v (pos (n / 2)) in
    let whole : unsigned_abs (v *ℤ pos n) ≡ unsigned_abs v * n = unsigned_abs-mul v (pos n) in
    let parts : n ≡ n / 2 + n / 2 + n % 2 = omega arith in
    let product : unsigned_abs v * n ≡ unsigned_abs v * (n / 2 + n / 2 + n % 2) = ap (λ k. unsigned_abs v * k) parts in
    omega arith
