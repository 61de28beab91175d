-- The whole numbers as values and as a ring.
use Rattle.std.specs.Prelude.{◌≡◌, ℕ, ◌+◌, ◌*◌, Bool, true, false, T, ℤ, pos, negsuc, ◌+ℤ◌, ◌*ℤ◌, neg_ℤ}
use Rattle.std.proofs.Common.{refl, sym, ap, ap₂, subst, ◌∙◌, eqb, arith, eqb→eq, true≢false}
use lib.IntN.{+ℤ_assoc, +ℤ_comm, +ℤ_idl, *ℤ_comm, +ℤ_invl}
use borrow.Author.Differences.{up, down, ints, same_in, sum_is_lem, product_is, neg_is}
use Rattle.lie_math.specs.Ring.{Algebra, Ring}
use Rattle.lie_math.specs.Monoid.{Adder, Values}

scaled : (n : ℕ) (a b c d e f : ℕ) → a + b + c ≡ d + e + f → n * a + n * b + n * c ≡ n * d + n * e + n * f
scaled n a b c d e f h = let k : n * (a + b + c) ≡ n * (d + e + f) = ap (λ t. n * t) h in omega arith

pub *ℤ-distl : (a b c : ℤ) → a *ℤ (b +ℤ c) ≡ a *ℤ b +ℤ a *ℤ c
*ℤ-distl a b c =
    same_in _ _ (omega (
      arith,
      sum_is_lem,
      product_is,
      scaled (up a) _ _ _ _ _ _ (sum_is_lem b c),
      scaled (down a) _ _ _ _ _ _ (sum_is_lem b c),
    ))

pub *ℤ_assoc : (a b c : ℤ) → (a *ℤ b) *ℤ c ≡ a *ℤ (b *ℤ c)
*ℤ_assoc a b c =
    let l = product_is a b in
    let r = product_is b c in
    let l0 : up (a *ℤ b) * up c ≡ (up a * up b + down a * down b) * up c = ap (λ t. t * up c) l.0 in
    let l1 : down (a *ℤ b) * up c ≡ (up a * down b + down a * up b) * up c = ap (λ t. t * up c) l.1 in
    let l2 : up (a *ℤ b) * down c ≡ (up a * up b + down a * down b) * down c = ap (λ t. t * down c) l.0 in
    let l3 : down (a *ℤ b) * down c ≡ (up a * down b + down a * up b) * down c = ap (λ t. t * down c) l.1 in
    let r0 : up a * up (b *ℤ c) ≡ up a * (up b * up c + down b * down c) = ap (λ t. up a * t) r.0 in
    let r1 : up a * down (b *ℤ c) ≡ up a * (up b * down c + down b * up c) = ap (λ t. up a * t) r.1 in
    let r2 : down a * up (b *ℤ c) ≡ down a * (up b * up c + down b * down c) = ap (λ t. down a * t) r.0 in
    let r3 : down a * down (b *ℤ c) ≡ down a * (up b * down c + down b * up c) = ap (λ t. down a * t) r.1 in
    same_in _ _ (omega (arith, product_is))

pub *ℤ-idl : (a : ℤ) → pos 1 *ℤ a ≡ a
*ℤ-idl a = omega (arith, ints)

pub neg-*ℤ : (a b : ℤ) → neg_ℤ a *ℤ b ≡ neg_ℤ (a *ℤ b)
neg-*ℤ a b =
    let n = neg_is a in
    let l0 : up (neg_ℤ a) * up b ≡ down a * up b = ap (λ t. t * up b) n.0 in
    let l1 : up (neg_ℤ a) * down b ≡ down a * down b = ap (λ t. t * down b) n.0 in
    let l2 : down (neg_ℤ a) * up b ≡ up a * up b = ap (λ t. t * up b) n.1 in
    let l3 : down (neg_ℤ a) * down b ≡ up a * down b = ap (λ t. t * down b) n.1 in
    omega (arith, ints)

pub *ℤ-distr : (a b c : ℤ) → (a +ℤ b) *ℤ c ≡ a *ℤ c +ℤ b *ℤ c
*ℤ-distr a b c = *ℤ_comm (a +ℤ b) c ∙ *ℤ-distl c a b ∙ ap₂ ◌+ℤ◌ (*ℤ_comm c a) (*ℤ_comm c b)

abbrev pub is_zero_int : ℤ → Bool
is_zero_int (pos n) = eqb n 0
is_zero_int (negsuc n) = false

pub int_nil : (z : ℤ) → is_zero_int z ≡ true → z ≡ pos 0
int_nil (pos n) e = ap pos (eqb→eq n 0 (subst T (sym e) tt))
int_nil (negsuc n) e = absurd (true≢false (sym e))

abbrev pub integers : Adder ℤ
integers = record { nil = pos 0; plus = ◌+ℤ◌; idl = +ℤ_idl; assoc = +ℤ_assoc; comm = +ℤ_comm }

abbrev pub coefficients : Values ℤ
coefficients = record { adder = integers; is_nil = is_zero_int; is_nil_nil = refl; nil_of_is = int_nil }

abbrev pub integer_ring : Ring ℤ
integer_ring = record {
  adder = integers;
  one = pos 1;
  times = ◌*ℤ◌;
  neg = neg_ℤ;
  times_assoc = *ℤ_assoc;
  times_comm = *ℤ_comm;
  times_idl = *ℤ-idl;
  dist = *ℤ-distl;
  neg_l = +ℤ_invl;
}

abbrev pub integer_algebra : Algebra ℤ
integer_algebra = record {
  ring = integer_ring;
  whole = λ z. z;
  whole_zero = refl;
  whole_one = refl;
  whole_plus = λ a b. refl;
  whole_times = λ a b. refl;
}
