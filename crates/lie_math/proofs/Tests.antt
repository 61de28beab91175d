-- What the answers of tests say: of two tests joined, and of the test that two numbers are equal.
use Rattle.std.specs.Prelude.{◌≡◌, ℕ, Bool, true, false, ◌&&◌, ◌||◌, eqb, T, ◌⊎◌}
use Rattle.std.proofs.Common.{refl, sym, subst, inl, inr, eqb→eq, eq-eqb, true≢false}

pub and_true : (a b : Bool) → (a && b) ≡ true → (a ≡ true) × (b ≡ true)
and_true true b e = (refl, e)
and_true false b e = absurd (true≢false (sym e))

pub or_false : (a b : Bool) → (a || b) ≡ false → (a ≡ false) × (b ≡ false)
or_false true b e = absurd (true≢false e)
or_false false b e = (refl, e)

pub or_true : (a b : Bool) → (a || b) ≡ true → (a ≡ true) ⊎ (b ≡ true)
or_true true b e = inl refl
or_true false b e = inr e

pub same_number : (m n : ℕ) → eqb m n ≡ true → m ≡ n
same_number m n e = eqb→eq m n (subst T (sym e) tt)

pub eqb_self : (n : ℕ) → eqb n n ≡ true
eqb_self n = eq-eqb n n refl

pub other_number : (m n : ℕ) → ¬ (m ≡ n) → eqb m n ≡ false
other_number m n h = go (eqb m n) refl
  where
    go : (t : Bool) → eqb m n ≡ t → t ≡ false
    go true e = absurd (h (same_number m n e))
    go false e = refl
