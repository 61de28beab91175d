-- Sums of powers of variables times fresh unknowns: what they say, and that they are forms in the new unknowns.
use Rattle.std.specs.Prelude.{◌≡◌, ℕ, zero, suc, ◌+◌, ◌-◌, ◌<◌, ◌≤◌, Bool, true, false, cond, not, ◌||◌, ◌⊎◌, List, [], ◌∷◌, ◌++◌, ℤ, pos, ◌*ℤ◌, eqb, ltb, length, filter}
use Rattle.std.proofs.Common.{refl, sym, ap, ap₂, subst, ◌∙◌, arith, true≢false, lt-ltb, inl, inr}
use lib.IntN.{*ℤ-zero}
use Rattle.std.specs.Fn.{iterate}
use Rattle.std.specs.List.{AllByRecursion as Every, Contains, list_any}
use Rattle.std.specs.List.Sorted.{IsStrictlySortedBy}
use Rattle.std.specs.Ordering.{eq_by_cmp, nat_cmp}
use Rattle.std.proofs.lemmas.List.Kept.{IsStrictlySortedBy-filter}
use Rattle.lie_math.specs.FiniteSumLaws.{ext, term_additive, plus_idl, plus_comm}
use Rattle.lie_math.specs.Counts.{Derivative}
use Rattle.lie_math.specs.LinearForm.{form_term, apply}
use Rattle.lie_math.specs.LinearSystem.{Unknown, has}
use Rattle.lie_math.specs.Monomial.{exponent, powers, power_of}
use Rattle.lie_math.specs.PartialDerivative.{partial, lower}
use Rattle.lie_math.specs.Polynomial.{WholePolynomial, terms, term, 0ᴾ, ◌*ᴾ◌, ◌+ᴾ◌}
use Rattle.lie_math.specs.PolynomialRing.{polynomial_ring}
use Rattle.lie_math.specs.Variables.{IsIn}
use Rattle.lie_math.proofs.Dependence.{partial_of_free}
use Rattle.lie_math.proofs.FiniteSum.{key}
use Rattle.lie_math.proofs.LinearForm.{apply_plus, apply_term, apply_none}
use Rattle.lie_math.proofs.Monomial.{exponent-lower, exponent-power_of, same_variable}
use Rattle.lie_math.proofs.PartialDerivative.{partial-0ᴾ, partial-term, partial-*ᴾ, partial-+ᴾ}
use Rattle.lie_math.proofs.Ring.{nil_times, times_nil}
use Rattle.lie_systems.specs.ValidSystems.{IsOwned, IsFormOf, HasVariablesBelow}
use Rattle.lie_steps.specs.Absent.{Power, fresh_sum, fresh_unknowns}
use Rattle.lie_math.proofs.EveryElement.{every-filter, every-weaken}
use Rattle.lie_math.proofs.FormEntries.{each-none, each-plus, each-term}
use Rattle.lie_steps.proofs.FormTriples.{in-term}
use Rattle.lie_math.proofs.Tests.{eqb_self, other_number, same_number, or_true}
use Rattle.lie_steps.proofs.Unknowns.{IsOwn}
use Rattle.lie_steps.proofs.Derived.{IsRising}
use Rattle.lie_steps.proofs.FreshUnknowns.{less_numbers}

-- the unknown with the number n itself
abbrev pub itself : ℕ → Derivative
itself n = record { unknown = n; counts = [] }

abbrev pub power_term : Power → WholePolynomial
power_term c = term (power_of c.0 c.1) (pos 1)

-- the unknown for a power
abbrev pub fresh_unknown : ℕ → Unknown → Power → Unknown
fresh_unknown n f c = record { number = n; variables = filter (λ v. not (eqb v c.0)) f.variables }

-- ---- its variables are those of f without that of the power
has-filter : (w v : ℕ) (vs : List ℕ) → list_any (eqb w) (filter (λ x. not (eqb x v)) vs) ≡ cond (eqb w v) false (list_any (eqb w) vs)
has-filter w v [] = elim (eqb w v) as (λ t. false ≡ cond t false false) [ true ↦ refl | false ↦ refl ]
has-filter w v (x ∷ vs) = go (eqb x v) refl (eqb w v) refl (eqb w x) refl (has-filter w v vs)
  where
    go : (s : Bool) → eqb x v ≡ s → (t : Bool) → eqb w v ≡ t → (r : Bool) → eqb w x ≡ r → list_any (eqb w) (filter (λ x. not (eqb x v)) vs) ≡ cond (eqb w v) false (list_any (eqb w) vs)
        → list_any (eqb w) (cond (not s) (x ∷ filter (λ x. not (eqb x v)) vs) (filter (λ x. not (eqb x v)) vs)) ≡ cond t false (r || list_any (eqb w) vs)
    go true e true k r l h = h ∙ ap (λ b. cond b false (list_any (eqb w) vs)) k
    go true e false k true l h = absurd (true≢false (sym (ap (λ y. eqb y v) (same_number w x l) ∙ e) ∙ k))
    go true e false k false l h = h ∙ ap (λ b. cond b false (list_any (eqb w) vs)) k
    go false e true k true l h = absurd (true≢false (sym k ∙ ap (λ y. eqb y v) (same_number w x l) ∙ e))
    go false e true k false l h = ap (λ b. b || list_any (eqb w) (filter (λ x. not (eqb x v)) vs)) l ∙ h ∙ ap (λ b. cond b false (list_any (eqb w) vs)) k
    go false e false k true l h = ap (λ b. b || list_any (eqb w) (filter (λ x. not (eqb x v)) vs)) l
    go false e false k false l h = ap (λ b. b || list_any (eqb w) (filter (λ x. not (eqb x v)) vs)) l ∙ h ∙ ap (λ b. cond b false (list_any (eqb w) vs)) k

-- the variables of f without v
abbrev pub others : Unknown → ℕ → ℕ → Bool
others f v w = cond (eqb w v) false (has f w)

pub own_others : (F : ℕ → WholePolynomial) (n : ℕ) (f : Unknown) (c : Power) → IsOwn F (fresh_unknown n f c) → IsIn (others f c.0) (F n)
own_others F n f c h w out = h w (has-filter w c.0 f.variables ∙ out)

pub others_own : (F : ℕ → WholePolynomial) (n : ℕ) (f : Unknown) (c : Power) → IsIn (others f c.0) (F n) → IsOwn F (fresh_unknown n f c)
others_own F n f c h w out = h w (sym (has-filter w c.0 f.variables) ∙ out)

others_false : (f : Unknown) (v w : ℕ) → has f w ≡ false → others f v w ≡ false
others_false f v w h = elim (eqb w v) as (λ t. cond t false (has f w) ≡ false) [ true ↦ refl | false ↦ h ]

others_self : (f : Unknown) (v : ℕ) → others f v v ≡ false
others_self f v = ap (λ t. cond t false (has f v)) (eqb_self v)

-- ---- values for the fresh unknowns
abbrev pub given : ℕ → List WholePolynomial → (ℕ → WholePolynomial) → ℕ → WholePolynomial
given n [] F g = F g
given n (p ∷ ps) F g = cond (eqb g n) p (given (suc n) ps F g)

abbrev pub Holds : ℕ → List WholePolynomial → (ℕ → WholePolynomial) → Type 0
Holds n [] G = Unit {0}
Holds n (p ∷ ps) G = (G n ≡ p) × Holds (suc n) ps G

pub given_below : (n : ℕ) (ps : List WholePolynomial) (F : ℕ → WholePolynomial) (g : ℕ) → g < n → F g ≡ given n ps F g
given_below n [] F g lt = refl
given_below n (p ∷ ps) F g lt = given_below (suc n) ps F g (omega arith) ∙ sym (ap (λ t. cond t p (given (suc n) ps F g)) (other_number g n (λ e. absurd (omega arith))))

holds_same : (n : ℕ) (ps : List WholePolynomial) (G H : ℕ → WholePolynomial) → ((g : ℕ) → n ≤ g → G g ≡ H g) → Holds n ps G → Holds n ps H
holds_same n [] G H e h = tt
holds_same n (p ∷ ps) G H e h = (sym (e n (omega arith)) ∙ h.0, holds_same (suc n) ps G H (λ g le. e g (omega arith)) h.1)

pub given_holds : (n : ℕ) (ps : List WholePolynomial) (F : ℕ → WholePolynomial) → Holds n ps (given n ps F)
given_holds n [] F = tt
given_holds n (p ∷ ps) F = (
  ap (λ t. cond t p (given (suc n) ps F n)) (eqb_self n),
  holds_same (suc n) ps (given (suc n) ps F) (given n (p ∷ ps) F) (λ g le. sym (ap (λ t. cond t p (given (suc n) ps F g)) (other_number g n (λ e. absurd (omega arith))))) (given_holds (suc n) ps F),
)

abbrev pub combination : List Power → List WholePolynomial → WholePolynomial
combination [] ps = 0ᴾ
combination (c ∷ cs) [] = 0ᴾ
combination (c ∷ cs) (p ∷ ps) = power_term c *ᴾ p +ᴾ combination cs ps

-- a value for each power, in the variables of f without that of the power
abbrev pub AreValues : Unknown → List Power → List WholePolynomial → Type 0
AreValues f [] [] = Unit {0}
AreValues f [] (p ∷ ps) = ⊥
AreValues f (c ∷ cs) [] = ⊥
AreValues f (c ∷ cs) (p ∷ ps) = IsIn (others f c.0) p × AreValues f cs ps

pub apply-fresh_sum : (f : Unknown) (n : ℕ) (cs : List Power) (ps : List WholePolynomial) (G : ℕ → WholePolynomial) → AreValues f cs ps → Holds n ps G → apply G (fresh_sum n cs) ≡ combination cs ps
apply-fresh_sum f n [] ps G a h = apply_none G
apply-fresh_sum f n (c ∷ cs) [] G a h = absurd a
apply-fresh_sum f n (c ∷ cs) (p ∷ ps) G a h =
    apply_plus G (form_term (itself n) (power_term c)) (fresh_sum (suc n) cs) ∙ ap₂ ◌+ᴾ◌ (apply_term G (itself n) (power_term c) ∙ ap (λ q. power_term c *ᴾ q) h.0) (apply-fresh_sum f (suc n) cs ps G a.1 h.1)

pub values_own : (f : Unknown) (n : ℕ) (cs : List Power) (ps : List WholePolynomial) (G : ℕ → WholePolynomial) → AreValues f cs ps → Holds n ps G → Every (IsOwn G) (fresh_unknowns n f cs)
values_own f n [] ps G a h = tt
values_own f n (c ∷ cs) [] G a h = absurd a
values_own f n (c ∷ cs) (p ∷ ps) G a h = (others_own G n f c (subst (IsIn (others f c.0)) (sym h.0) a.0), values_own f (suc n) cs ps G a.1 h.1)

pub values-append : (f : Unknown) (cs ds : List Power) (ps qs : List WholePolynomial) → AreValues f cs ps → AreValues f ds qs → AreValues f (cs ++ ds) (ps ++ qs)
values-append f [] ds [] qs a b = b
values-append f [] ds (p ∷ ps) qs a b = absurd a
values-append f (c ∷ cs) ds [] qs a b = absurd a
values-append f (c ∷ cs) ds (p ∷ ps) qs a b = (a.0, values-append f cs ds ps qs a.1 b)

-- ---- powers and derivatives
pub lower_power : (v i : ℕ) → lower v (power_of v (suc i)) ≡ power_of v i
lower_power v i = ext powers _ _ (λ q. exponent-lower v q (power_of v (suc i)) ∙ ap₂ (λ a b. cond (eq_by_cmp nat_cmp q v) (a - 1) b) (exponent-power_of v (suc i) v ∙ ap (λ t. cond t (suc i) 0) (same_variable v)) (exponent-power_of v (suc i) q) ∙ go (eq_by_cmp nat_cmp q v) ∙ sym (exponent-power_of v i q))
  where
    less : (i : ℕ) → suc i - 1 ≡ i
    less i = omega arith

    go : (t : Bool) → cond t (suc i - 1) (cond t (suc i) 0) ≡ cond t i 0
    go true = less i
    go false = refl

pub exponent_other : (v i w : ℕ) → ¬ (w ≡ v) → exponent (power_of v i) w ≡ 0
exponent_other v i w n = exponent-power_of v i w ∙ go (eq_by_cmp nat_cmp w v) refl
  where
    go : (t : Bool) → eq_by_cmp nat_cmp w v ≡ t → cond t i 0 ≡ 0
    go true e = absurd (n (key powers w v e))
    go false e = refl

pub free_power : (v i w : ℕ) → ¬ (w ≡ v) → partial w (power_term (v, i)) ≡ 0ᴾ
free_power v i w n =
    partial-term w (power_of v i) (pos 1) ∙ ap (λ e. term (lower w (power_of v i)) (pos 1 *ℤ pos e)) (exponent_other v i w n) ∙ ap (term (lower w (power_of v i))) (*ℤ-zero (pos 1)) ∙ (term_additive terms).on_nil _

pub iterate-0ᴾ : (v k : ℕ) → iterate (partial v) k 0ᴾ ≡ 0ᴾ
iterate-0ᴾ v zero = refl
iterate-0ᴾ v (suc k) = ap (iterate (partial v) k) (partial-0ᴾ v) ∙ iterate-0ᴾ v k

-- a low power times what is free is killed
pub power_killed : (v i k : ℕ) (a : ℤ) (g : WholePolynomial) → i < k → partial v g ≡ 0ᴾ → iterate (partial v) k (term (power_of v i) a *ᴾ g) ≡ 0ᴾ
power_killed v i zero a g lt h = absurd (omega arith)
power_killed v zero (suc k) a g lt h =
    ap (iterate (partial v) k) (partial-*ᴾ v (term (power_of v 0) a) g ∙ ap₂ (λ x y. x *ᴾ g +ᴾ term (power_of v 0) a *ᴾ y) (partial-term v (power_of v 0) a ∙ ap (λ e. term (lower v (power_of v 0)) (a *ℤ pos e)) (exponent-power_of v 0 v ∙ both (eq_by_cmp nat_cmp v v)) ∙ ap (term (lower v (power_of v 0))) (*ℤ-zero a) ∙ (term_additive terms).on_nil _) h
    ∙ ap₂ ◌+ᴾ◌ (nil_times polynomial_ring g) (times_nil polynomial_ring _) ∙ plus_idl terms 0ᴾ) ∙ iterate-0ᴾ v k
  where
    both : (t : Bool) → ◌≡◌ {A = ℕ} (cond t 0 0) 0
    both true = refl
    both false = refl
power_killed v (suc i) (suc k) a g lt h =
    ap (iterate (partial v) k) (partial-*ᴾ v (term (power_of v (suc i)) a) g ∙ ap₂ (λ x y. x *ᴾ g +ᴾ term (power_of v (suc i)) a *ᴾ y) (partial-term v (power_of v (suc i)) a ∙ ap (λ m. term m (a *ℤ pos (exponent (power_of v (suc i)) v))) (lower_power v i)) h
    ∙ ap (λ z. term (power_of v i) (a *ℤ pos (exponent (power_of v (suc i)) v)) *ᴾ g +ᴾ z) (times_nil polynomial_ring _) ∙ plus_comm terms _ 0ᴾ ∙ plus_idl terms _)
    ∙ power_killed v i k (a *ℤ pos (exponent (power_of v (suc i)) v)) g (omega arith) h

pub free_sum : (v : ℕ) (p q : WholePolynomial) → partial v p ≡ 0ᴾ → partial v q ≡ 0ᴾ → partial v (p +ᴾ q) ≡ 0ᴾ
free_sum v p q h k = partial-+ᴾ v p q ∙ ap₂ ◌+ᴾ◌ h k ∙ plus_idl terms 0ᴾ

pub free_product : (v : ℕ) (p q : WholePolynomial) → partial v p ≡ 0ᴾ → partial v q ≡ 0ᴾ → partial v (p *ᴾ q) ≡ 0ᴾ
free_product v p q h k = partial-*ᴾ v p q ∙ ap₂ ◌+ᴾ◌ (ap (λ x. x *ᴾ q) h ∙ nil_times polynomial_ring q) (ap (λ x. p *ᴾ x) k ∙ times_nil polynomial_ring p) ∙ plus_idl terms 0ᴾ

-- the variable of each power is one of f
abbrev pub ArePowersOf : Unknown → List Power → Type 0
ArePowersOf f cs = Every (λ (c : Power). has f c.0 ≡ true) cs

-- the sum is in the variables of f
pub fresh_sum_free : (f : Unknown) (w : ℕ) → has f w ≡ false → (n : ℕ) (cs : List Power) (G : ℕ → WholePolynomial) → ArePowersOf f cs → Every (IsOwn G) (fresh_unknowns n f cs) → partial w (apply G (fresh_sum n cs)) ≡ 0ᴾ
fresh_sum_free f w o n [] G a h = ap (partial w) (apply_none G) ∙ partial-0ᴾ w
fresh_sum_free f w o n (c ∷ cs) G a h =
    ap (partial w) (apply_plus G (form_term (itself n) (power_term c)) (fresh_sum (suc n) cs) ∙ ap (λ x. x +ᴾ apply G (fresh_sum (suc n) cs)) (apply_term G (itself n) (power_term c)))
    ∙ free_sum w _ _ (free_product w (power_term c) (G n) (free_power c.0 c.1 w (λ e. true≢false (sym a.0 ∙ ap (has f) (sym e) ∙ o))) (partial_of_free w (G n) (own_others G n f c h.0 w (others_false f c.0 w o)))) (fresh_sum_free f w o (suc n) cs G a.1 h.1)

-- a fresh unknown does not depend on the variable of its power
pub fresh_free : (G : ℕ → WholePolynomial) (n : ℕ) (f : Unknown) (c : Power) → IsOwn G (fresh_unknown n f c) → partial c.0 (G n) ≡ 0ᴾ
fresh_free G n f c h = partial_of_free c.0 (G n) (own_others G n f c h c.0 (others_self f c.0))

-- ---- the fresh unknowns are those of a valid system
pub fresh_above : (n k : ℕ) (f : Unknown) (cs : List Power) → k ≤ n → Every (λ (u : Unknown). k ≤ u.number) (fresh_unknowns n f cs)
fresh_above n k f [] h = tt
fresh_above n k f (c ∷ cs) h = (h, fresh_above (suc n) k f cs (omega arith))

pub fresh_rising : (n : ℕ) (f : Unknown) (cs : List Power) → IsRising (fresh_unknowns n f cs)
unfolding IsStrictlySortedBy
fresh_rising n f [] = tt
fresh_rising n f (c ∷ cs) = (every-weaken (λ (u : Unknown). suc n ≤ u.number) _ (λ u h. less_numbers n u.number (less n u.number h)) (fresh_unknowns (suc n) f cs) (fresh_above (suc n) (suc n) f cs (omega arith)), fresh_rising (suc n) f cs)
  where
    less : (a b : ℕ) → suc a ≤ b → a < b
    less a b h = omega arith

pub fresh_below : (n : ℕ) (f : Unknown) (cs : List Power) → Every (λ (u : Unknown). u.number < n + length (fresh_unknowns n f cs)) (fresh_unknowns n f cs)
fresh_below n f [] = tt
fresh_below n f (c ∷ cs) = (first n (length (fresh_unknowns (suc n) f cs)), every-weaken (λ (u : Unknown). u.number < suc n + length (fresh_unknowns (suc n) f cs)) _ (λ u h. later n u.number (length (fresh_unknowns (suc n) f cs)) h) (fresh_unknowns (suc n) f cs) (fresh_below (suc n) f cs))
  where
    first : (a b : ℕ) → a < a + suc b
    first a b = omega arith

    later : (a u b : ℕ) → u < suc a + b → u < a + suc b
    later a u b h = omega arith

pub fresh_variables : (m n : ℕ) (f : Unknown) (cs : List Power) → HasVariablesBelow m f → Every (HasVariablesBelow m) (fresh_unknowns n f cs)
fresh_variables m n f [] h = tt
fresh_variables m n f (c ∷ cs) h = ((IsStrictlySortedBy-filter nat_cmp (λ v. not (eqb v c.0)) f.variables h.0, every-filter (λ v. v < m) (λ v. not (eqb v c.0)) f.variables h.1), fresh_variables m (suc n) f cs h)

pub has_below : (m v : ℕ) (vs : List ℕ) → list_any (eqb v) vs ≡ true → Every (λ w. w < m) vs → v < m
has_below m v [] e h = absurd (true≢false (sym e))
has_below m v (w ∷ vs) e h = go (or_true (eqb v w) (list_any (eqb v) vs) e) (λ k. has_below m v vs k h.1)
  where
    go : (eqb v w ≡ true) ⊎ (list_any (eqb v) vs ≡ true) → (list_any (eqb v) vs ≡ true → v < m) → v < m
    go (inl k) later = subst (λ x. x < m) (sym (same_number v w k)) h.0
    go (inr k) later = later k

pub power_in : (m : ℕ) (f : Unknown) (c : Power) → HasVariablesBelow m f → has f c.0 ≡ true → IsIn (λ v. ltb v m) (power_term c)
power_in m f c h e = in-term (λ v. ltb v m) (power_of c.0 c.1) (pos 1) (λ w out. exponent_other c.0 c.1 w (λ k. true≢false (sym (lt-ltb c.0 m (has_below m c.0 f.variables e h.1)) ∙ ap (λ x. ltb x m) (sym k) ∙ out)))

-- the sum is a form in unknowns among which the fresh ones are
pub fresh_form : (m n : ℕ) (f : Unknown) (cs : List Power) (us : List Unknown) → HasVariablesBelow m f → ArePowersOf f cs → Every (Contains us) (fresh_unknowns n f cs) → IsFormOf m us (fresh_sum n cs)
fresh_form m n f [] us h a k = each-none (IsOwned us) (λ v. ltb v m)
fresh_form m n f (c ∷ cs) us h a k =
    each-plus (IsOwned us) (λ v. ltb v m) (form_term (itself n) (power_term c)) (fresh_sum (suc n) cs)
    (each-term (IsOwned us) (λ v. ltb v m) (itself n) (power_term c) (record { unknown = fresh_unknown n f c; listed = k.0; number = refl; own = λ v z. absurd (z refl); short = refl }) (power_in m f c h a.0))
    (fresh_form m (suc n) f cs us h a.1 k.1)
