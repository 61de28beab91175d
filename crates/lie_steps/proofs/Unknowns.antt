-- Unknowns of a system: which are listed, on which variables they depend, and what a solution gives them.
use Rattle.std.specs.Prelude.{◌≡◌, ℕ, Bool, true, false, ◌&&◌, ◌||◌, eqb, ◌⊎◌, List, [], ◌∷◌}
use Rattle.std.proofs.Common.{refl, sym, ap, ◌∙◌, inl, inr, eq-eqb, true≢false, Less}
use Rattle.std.specs.List.{AllByRecursion as Every, Contains}
use Rattle.std.specs.List.Sorted.{IsStrictlySortedBy}
use Rattle.std.specs.Ordering.{nat_cmp, on}
use Rattle.lie_math.specs.PartialDerivative.{partial}
use Rattle.lie_math.specs.Polynomial.{WholePolynomial, 0ᴾ}
use Rattle.lie_math.specs.Variables.{IsIn}
use Rattle.lie_math.specs.LinearSystem.{Unknown, has}
use Rattle.lie_math.proofs.Dependence.{partial_of_free}
use Rattle.lie_steps.specs.Equations.{depends}
use Rattle.lie_math.proofs.Tests.{and_true, or_true, same_number}
use Rattle.lie_math.proofs.EveryElement.{every_contained, every-weaken}
use Rattle.lie_math.proofs.ContainedElements.{contained_cons, contains_first, contains_later, contains_nothing}
use Rattle.lie_math.proofs.SortedLists.{less_equal}
use Rattle.std.specs.Cmp.{nat_cmp_total}
use Rattle.std.specs.Cmp.{tied_itself}

-- ---- dependence
-- an unknown with the number f and the variable v
pub dependent_of : (us : List Unknown) (f v : ℕ) → depends us f v ≡ true → (u : Unknown) × Contains us u × (u.number ≡ f) × (has u v ≡ true)
dependent_of [] f v e = absurd (true≢false (sym e))
dependent_of (u ∷ us) f v e = go (or_true (eqb u.number f && has u v) (depends us f v) e) (dependent_of us f v)
  where
    go : ((eqb u.number f && has u v) ≡ true) ⊎ (depends us f v ≡ true) → (depends us f v ≡ true → (w : Unknown) × Contains us w × (w.number ≡ f) × (has w v ≡ true)) → (w : Unknown) × Contains (u ∷ us) w × (w.number ≡ f) × (has w v ≡ true)
    go (inl k) later = let p = and_true (eqb u.number f) (has u v) k in (u, contains_first u us, same_number u.number f p.0, p.1)
    go (inr k) later = let r = later k in (r.0, contains_later u us r.0 r.1, r.2, r.3)

pub depends_of : (us : List Unknown) (u : Unknown) (v : ℕ) → Contains us u → has u v ≡ true → depends us u.number v ≡ true
depends_of [] u v c h = absurd (contains_nothing u c)
depends_of (w ∷ us) u v c h = go (contained_cons w us u c) (λ k. depends_of us u v k h)
  where
    left : (a b : Bool) → a ≡ true → (a || b) ≡ true
    left true b e = refl
    left false b e = absurd (true≢false (sym e))

    right : (a b : Bool) → b ≡ true → (a || b) ≡ true
    right true b e = refl
    right false b e = e

    both : (a b : Bool) → a ≡ true → b ≡ true → (a && b) ≡ true
    both true b e f = f
    both false b e f = e

    go : (w ≡ u) ⊎ Contains us u → (Contains us u → depends us u.number v ≡ true) → depends (w ∷ us) u.number v ≡ true
    go (inl e) later = left _ (depends us u.number v) (both _ _ (eq-eqb w.number u.number (ap (λ (x : Unknown). x.number) e)) (ap (λ x. has x v) e ∙ h))
    go (inr k) later = right (eqb w.number u.number && has w v) _ (later k)

pub not_depends : (us : List Unknown) (u : Unknown) (v : ℕ) → Contains us u → depends us u.number v ≡ false → has u v ≡ false
not_depends us u v c e = go (has u v) refl
  where
    go : (t : Bool) → has u v ≡ t → t ≡ false
    go true h = absurd (true≢false (sym (depends_of us u v c h) ∙ e))
    go false h = refl

-- ---- what a solution gives the unknowns
abbrev pub IsOwn : (ℕ → WholePolynomial) → Unknown → Type 0
IsOwn F f = IsIn (has f) (F f.number)

-- a listed unknown that does not depend on v is given a polynomial without v
pub independent_free : (us : List Unknown) (F : ℕ → WholePolynomial) (u : Unknown) (v : ℕ) → Every (IsOwn F) us → Contains us u → depends us u.number v ≡ false → partial v (F u.number) ≡ 0ᴾ
independent_free us F u v o c e = partial_of_free v (F u.number) (every_contained (IsOwn F) us u o c v (not_depends us u v c e))

-- ---- the number tells the unknown
pub one_number : (us : List Unknown) (f : Unknown) → IsStrictlySortedBy (on (λ (u : Unknown). u.number) nat_cmp) us → Contains us f → Every (λ (u : Unknown). u.number ≡ f.number → u ≡ f) us
unfolding IsStrictlySortedBy
one_number [] f r k = tt
one_number (u ∷ us) f r c = go (contained_cons u us f c) (one_number us f r.1)
  where
    not_less : {m n : ℕ} → nat_cmp m n ≡ Less → m ≡ n → ⊥
    not_less {m} {n} h e = less_equal (ap (nat_cmp m) e ∙ h) (tied_itself nat_cmp_total m)

    go : (u ≡ f) ⊎ Contains us f → (Contains us f → Every (λ (w : Unknown). w.number ≡ f.number → w ≡ f) us) → Every (λ (w : Unknown). w.number ≡ f.number → w ≡ f) (u ∷ us)
    go (inl e) later = (λ k. e, every-weaken (λ (w : Unknown). nat_cmp u.number w.number ≡ Less) _ (λ w h k. absurd (not_less h (ap (λ (x : Unknown). x.number) e ∙ sym k))) us r.0)
    go (inr h) later = (λ k. absurd (not_less (every_contained (λ (w : Unknown). nat_cmp u.number w.number ≡ Less) us f r.0 h) k), later h)

-- two listed unknowns of one number are one
pub same_unknown : (us : List Unknown) (u f : Unknown) → IsStrictlySortedBy (on (λ (u : Unknown). u.number) nat_cmp) us → Contains us u → Contains us f → u.number ≡ f.number → u ≡ f
same_unknown us u f r c d e = every_contained (λ (w : Unknown). w.number ≡ f.number → w ≡ f) us u (one_number us f r d) c e
