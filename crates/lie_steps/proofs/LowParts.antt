-- A polynomial of which a derivative is 0 is the sum of the low powers of the variables, each times a polynomial without it: a monomial belongs to the first variable whose exponent is below its count.
use Rattle.std.specs.Prelude.{◌≡◌, ℕ, zero, suc, ◌+◌, ◌<◌, ◌≤◌, Bool, true, false, cond, not, ◌||◌, List, [], ◌∷◌, ◌++◌, ℤ, pos, eqb, get_or}
use Rattle.std.proofs.Common.{refl, sym, ap, ap₂, subst, ◌∙◌, arith, true≢false, eq-eqb}
use mathlib.Core.Path.{fun_ext}
use Rattle.std.specs.Fn.{iterate}
use Rattle.std.specs.List.{AllByRecursion as Every}
use Rattle.lie_math.specs.SortedSum.{sum_of_entries}
use Rattle.lie_math.specs.Canonical.{sum_of_entries-map, sum_of_entries-nil}
use Rattle.lie_math.specs.Integer.{*ℤ-idl}
use Rattle.lie_math.specs.FiniteSumLaws.{ext, value-none, plus_idl, plus_assoc, plus_comm}
use Rattle.lie_math.specs.Counts.{partials, partials_from}
use Rattle.lie_math.specs.LinearForm.{apply}
use Rattle.lie_math.specs.LinearSystem.{Unknown, has}
use Rattle.lie_math.specs.Monomial.{Monomial, ◌·◌, exponent, power_of}
use Rattle.lie_math.specs.PartialDerivative.{partial}
use Rattle.lie_math.specs.Polynomial.{WholePolynomial, polynomials, terms, term, coefficient, 0ᴾ, ◌*ᴾ◌, ◌+ᴾ◌}
use Rattle.lie_math.specs.PolynomialRing.{polynomial_ring, *ᴾ-dist, term_times_term}
use Rattle.lie_math.specs.Powers.{power_coefficient}
use Rattle.lie_math.specs.Variables.{FreeOf, IsIn}
use Rattle.lie_math.proofs.Dependence.{zero_if}
use Rattle.lie_math.proofs.LinearForm.{apply_plus, apply_term, apply_none}
use Rattle.lie_math.proofs.Monomial.{bare, powered_bare}
use Rattle.lie_math.proofs.PartialDerivative.{partial-+ᴾ}
use Rattle.lie_math.proofs.Powers.{coefficient-power_coefficient}
use Rattle.lie_math.proofs.Ring.{times_nil}
use Rattle.lie_steps.specs.Absent.{Power, powers_from, low_powers_from, fresh_sum, fresh_unknowns}
use Rattle.lie_math.proofs.EveryElement.{every-append}
use Rattle.lie_math.proofs.Tests.{same_number}
use Rattle.lie_steps.proofs.Unknowns.{IsOwn}
use Rattle.lie_steps.proofs.Derived.{iterate_passes, partials-zero, partials_from-zero}
use Rattle.lie_steps.proofs.LowPowers.{lowered, from_repeated, exponent_other_many, keep, coefficient-keep, keep_both, keep_rest, free-keep}
use Rattle.lie_math.proofs.PowerCoefficients.{in-power_coefficient}
use Rattle.lie_steps.proofs.FreshPowers.{itself, power_term, others, combination, AreValues, values-append, iterate-0ᴾ, power_killed, fresh_free, ArePowersOf}

-- ---- the terms of one variable's powers
power_part : (v i : ℕ) (p : WholePolynomial) → power_term (v, i) *ᴾ power_coefficient v i p ≡ keep (λ m. eqb (exponent m v) i) p
unfolding power_coefficient keep
power_part v i p =
    sum_of_entries-map polynomials polynomials (λ s. power_term (v, i) *ᴾ s) (times_nil polynomial_ring _) (*ᴾ-dist _) (λ m a. cond (eqb (exponent m v) i) (term (bare v m) a) 0ᴾ) p.list
    ∙ ap (λ φ. sum_of_entries polynomials φ p.list) (fun_ext (λ m. fun_ext (λ a. one m a (eqb (exponent m v) i) refl)))
  where
    one : (m : Monomial) (a : ℤ) (t : Bool) → eqb (exponent m v) i ≡ t → power_term (v, i) *ᴾ cond t (term (bare v m) a) 0ᴾ ≡ cond t (term m a) 0ᴾ
    one m a true e = term_times_term (power_of v i) (bare v m) (pos 1) a ∙ ap₂ term (powered_bare v i m (same_number _ _ e)) (*ℤ-idl a)
    one m a false e = times_nil polynomial_ring _

abbrev pub inside : ℕ → ℕ → ℕ → Bool
inside i zero e = false
inside i (suc k) e = eqb e i || inside (suc i) k e

inside_from : (i k e : ℕ) → inside i k e ≡ true → i ≤ e
inside_from i zero e h = absurd (true≢false (sym h))
inside_from i (suc k) e h = go (eqb e i) refl h (inside_from (suc i) k e)
  where
    go : (t : Bool) → eqb e i ≡ t → (t || inside (suc i) k e) ≡ true → (inside (suc i) k e ≡ true → suc i ≤ e) → i ≤ e
    go true f h r = let s : e ≡ i = same_number e i f in omega arith
    go false f h r = let le = r h in omega arith

outside : (i k e : ℕ) → i ≤ e → inside i k e ≡ false → i + k ≤ e
outside i zero e le h = omega arith
outside i (suc k) e le h = go (eqb e i) refl h (outside (suc i) k e)
  where
    go : (t : Bool) → eqb e i ≡ t → (t || inside (suc i) k e) ≡ false → (suc i ≤ e → inside (suc i) k e ≡ false → suc i + k ≤ e) → i + suc k ≤ e
    go true f h r = absurd (true≢false h)
    go false f h r = let ne : ¬ (e ≡ i) = λ s. true≢false (sym (eq-eqb e i s) ∙ f) in let q = r (omega arith) h in omega arith

-- the part of p of the powers of v from i on, k of them
abbrev pub between : ℕ → ℕ → ℕ → WholePolynomial → WholePolynomial
between v i zero p = 0ᴾ
between v i (suc k) p = power_term (v, i) *ᴾ power_coefficient v i p +ᴾ between v (suc i) k p

between_keep : (v i k : ℕ) (p : WholePolynomial) → between v i k p ≡ keep (λ m. inside i k (exponent m v)) p
unfolding keep
between_keep v i zero p = sym (sum_of_entries-nil polynomials p.list)
between_keep v i (suc k) p =
    ap₂ ◌+ᴾ◌ (power_part v i p) (between_keep v (suc i) k p)
    ∙ sym (keep_both (λ m. eqb (exponent m v) i) (λ m. inside (suc i) k (exponent m v)) p (λ m e. apart m e (inside (suc i) k (exponent m v)) refl))
  where
    apart : (m : Monomial) → eqb (exponent m v) i ≡ true → (t : Bool) → inside (suc i) k (exponent m v) ≡ t → t ≡ false
    apart m e true f = absurd (let s : exponent m v ≡ i = same_number _ _ e in let le = inside_from (suc i) k (exponent m v) f in omega arith)
    apart m e false f = refl

-- what is left of p when the powers of v below k are taken away
abbrev pub above : ℕ → ℕ → WholePolynomial → WholePolynomial
above v k p = keep (λ m. not (inside 0 k (exponent m v))) p

-- ---- the values that the rule reads off a solution
abbrev pub parts_from : ℕ → ℕ → ℕ → WholePolynomial → List WholePolynomial
parts_from v i zero p = []
parts_from v i (suc k) p = power_coefficient v i p ∷ parts_from v (suc i) k p

abbrev pub parts_of : ℕ → List ℕ → WholePolynomial → List WholePolynomial
parts_of v [] p = []
parts_of v (c ∷ B) p = parts_from v 0 c p ++ parts_of (suc v) B (above v c p)

abbrev remainder : ℕ → List ℕ → WholePolynomial → WholePolynomial
remainder v [] p = p
remainder v (c ∷ B) p = remainder (suc v) B (above v c p)

combined_block : (v i k : ℕ) (p : WholePolynomial) (cs : List Power) (ps : List WholePolynomial) → combination (powers_from v i k ++ cs) (parts_from v i k p ++ ps) ≡ between v i k p +ᴾ combination cs ps
combined_block v i zero p cs ps = sym (plus_idl terms _)
combined_block v i (suc k) p cs ps = ap (λ x. power_term (v, i) *ᴾ power_coefficient v i p +ᴾ x) (combined_block v (suc i) k p cs ps) ∙ sym (plus_assoc terms _ _ _)

combined_all : (v : ℕ) (B : List ℕ) (p : WholePolynomial) → combination (low_powers_from v B) (parts_of v B p) +ᴾ remainder v B p ≡ p
combined_all v [] p = plus_idl terms p
combined_all v (c ∷ B) p =
    ap (λ x. x +ᴾ remainder (suc v) B (above v c p)) (combined_block v 0 c p (low_powers_from (suc v) B) (parts_of (suc v) B (above v c p)))
    ∙ plus_assoc terms _ _ _ ∙ ap₂ ◌+ᴾ◌ (between_keep v 0 c p) (combined_all (suc v) B (above v c p))
    ∙ keep_rest (λ m. inside 0 c (exponent m v)) p

pub bare-part : (v i : ℕ) (p : WholePolynomial) → FreeOf v (power_coefficient v i p)
bare-part v i p m n = go (eqb (exponent m v) 0) refl (coefficient-power_coefficient v i p m)
  where
    go : (t : Bool) → eqb (exponent m v) 0 ≡ t → coefficient (power_coefficient v i p) m ≡ cond t (coefficient p (power_of v i · m)) (pos 0) → exponent m v ≡ 0
    go true e z = same_number (exponent m v) 0 e
    go false e z = absurd (n z)

pub part_others : (f : Unknown) (v i : ℕ) (p : WholePolynomial) → IsIn (has f) p → IsIn (others f v) (power_coefficient v i p)
part_others f v i p o w h = go (eqb w v) refl h
  where
    go : (t : Bool) → eqb w v ≡ t → cond t false (has f w) ≡ false → FreeOf w (power_coefficient v i p)
    go true e k = subst (λ x. FreeOf x (power_coefficient v i p)) (sym (same_number w v e)) (bare-part v i p)
    go false e k = in-power_coefficient (has f) v i p o w k

pub block_values : (f : Unknown) (v i k : ℕ) (p : WholePolynomial) → IsIn (has f) p → AreValues f (powers_from v i k) (parts_from v i k p)
block_values f v i zero p o = tt
block_values f v i (suc k) p o = (part_others f v i p o, block_values f v (suc i) k p o)

pub parts_values : (f : Unknown) (v : ℕ) (B : List ℕ) (p : WholePolynomial) → IsIn (has f) p → AreValues f (low_powers_from v B) (parts_of v B p)
parts_values f v [] p o = tt
parts_values f v (c ∷ B) p o = values-append f (powers_from v 0 c) (low_powers_from (suc v) B) (parts_from v 0 c p) (parts_of (suc v) B (above v c p)) (block_values f v 0 c p o) (parts_values f (suc v) B (above v c p) (λ w h. free-keep w _ p (o w h)))

-- ---- nothing remains
abbrev Reaches : ℕ → Monomial → List ℕ → Type 0
Reaches v m [] = Unit {0}
Reaches v m (c ∷ B) = (c ≤ exponent m v) × Reaches (suc v) m B

kept_by : (t : Bool) (z : ℤ) → ¬ (cond (not t) z (pos 0) ≡ pos 0) → (t ≡ false) × ¬ (z ≡ pos 0)
kept_by true z n = absurd (n refl)
kept_by false z n = (refl, n)

remainder_reaches : (v : ℕ) (B : List ℕ) (p : WholePolynomial) (m : Monomial) → ¬ (coefficient (remainder v B p) m ≡ pos 0) → Reaches v m B × ¬ (coefficient p m ≡ pos 0)
remainder_reaches v [] p m n = (tt, n)
remainder_reaches v (c ∷ B) p m n =
    let r = remainder_reaches (suc v) B (above v c p) m n in
    let k = kept_by (inside 0 c (exponent m v)) (coefficient p m) (λ z. r.1 (coefficient-keep _ p m ∙ z)) in
    let le = outside 0 c (exponent m v) (omega arith) k.0 in
    ((omega arith, r.0), k.1)

lowered_reaches : (v k w : ℕ) (m : Monomial) (B : List ℕ) → v < w → Reaches w m B → Reaches w (lowered v k m) B
lowered_reaches v k w m [] lt h = tt
lowered_reaches v k w m (c ∷ B) lt h = (subst (λ n. c ≤ n) (sym (exponent_other_many v w k m (λ e. absurd (omega arith)))) h.0, lowered_reaches v k (suc w) m B (omega arith) h.1)

killed_nothing : (v : ℕ) (B : List ℕ) (p : WholePolynomial) → partials_from v B p ≡ 0ᴾ → (m : Monomial) → Reaches v m B → coefficient p m ≡ pos 0
killed_nothing v [] p z m h = ap (λ q. coefficient q m) z ∙ value-none terms m
killed_nothing v (c ∷ B) p z m h =
    from_repeated v c p m h.0 (killed_nothing (suc v) B (iterate (partial v) c p) (iterate_passes v (suc v) c B p ∙ z) (lowered v c m) (lowered_reaches v c (suc v) m B (omega arith) h.1))

remainder_nothing : (v : ℕ) (B : List ℕ) (p : WholePolynomial) → partials_from v B p ≡ 0ᴾ → remainder v B p ≡ 0ᴾ
remainder_nothing v B p z = ext terms (remainder v B p) 0ᴾ (λ m. zero_if _ (λ n. let r = remainder_reaches v B p m n in r.1 (killed_nothing v B p z m r.0)) ∙ sym (value-none terms m))

-- a polynomial that the derivative kills is the sum of the powers times parts without the variable
pub absent_parts : (v : ℕ) (B : List ℕ) (p : WholePolynomial) → partials_from v B p ≡ 0ᴾ → combination (low_powers_from v B) (parts_of v B p) ≡ p
absent_parts v B p z = sym (plus_idl terms _) ∙ plus_comm terms 0ᴾ _ ∙ ap (λ x. combination (low_powers_from v B) (parts_of v B p) +ᴾ x) (sym (remainder_nothing v B p z)) ∙ combined_all v B p

-- ---- and back: such a sum is killed
abbrev pub Kills : (WholePolynomial → Type 0) → ℕ → List ℕ → Type 0
Kills P v [] = Unit {0}
Kills P v (c ∷ B) = ((q : WholePolynomial) → iterate (partial v) c q ≡ 0ᴾ → P q) × Kills P (suc v) B

kills_weaker : (P Q : WholePolynomial → Type 0) → ((q : WholePolynomial) → P q → Q q) → (v : ℕ) (B : List ℕ) → Kills P v B → Kills Q v B
kills_weaker P Q f v [] h = tt
kills_weaker P Q f v (c ∷ B) h = (λ q z. f q (h.0 q z), kills_weaker P Q f (suc v) B h.1)

pub counts_kill : (v : ℕ) (B : List ℕ) → Kills (λ q. partials_from v B q ≡ 0ᴾ) v B
counts_kill v [] = tt
counts_kill v (c ∷ B) = (
  λ q z. sym (iterate_passes v (suc v) c B q) ∙ ap (partials_from (suc v) B) z ∙ partials_from-zero (suc v) B,
  kills_weaker (λ q. partials_from (suc v) B q ≡ 0ᴾ) (λ q. iterate (partial v) c (partials_from (suc v) B q) ≡ 0ᴾ) (λ q z. ap (iterate (partial v) c) z ∙ iterate-0ᴾ v c) (suc v) B (counts_kill (suc v) B),
)

pub iterate-plus : (v k : ℕ) (p q : WholePolynomial) → iterate (partial v) k (p +ᴾ q) ≡ iterate (partial v) k p +ᴾ iterate (partial v) k q
iterate-plus v zero p q = refl
iterate-plus v (suc k) p q = ap (iterate (partial v) k) (partial-+ᴾ v p q) ∙ iterate-plus v k (partial v p) (partial v q)

partials_from-plus : (i : ℕ) (J : List ℕ) (p q : WholePolynomial) → partials_from i J (p +ᴾ q) ≡ partials_from i J p +ᴾ partials_from i J q
partials_from-plus i [] p q = refl
partials_from-plus i (c ∷ J) p q = ap (iterate (partial i) c) (partials_from-plus (suc i) J p q) ∙ iterate-plus i c (partials_from (suc i) J p) (partials_from (suc i) J q)

module _ (J : List ℕ) (f : Unknown) where
  abbrev IsKilled : WholePolynomial → Type 0
  IsKilled q = partials J q ≡ 0ᴾ

  block_killed : (v i k l : ℕ) → i + k ≤ l → ((q : WholePolynomial) → iterate (partial v) l q ≡ 0ᴾ → IsKilled q) → (n : ℕ) (cs : List Power) (G : ℕ → WholePolynomial) → ((n : ℕ) → Every (IsOwn G) (fresh_unknowns n f cs) → IsKilled (apply G (fresh_sum n cs))) → Every (IsOwn G) (fresh_unknowns n f (powers_from v i k ++ cs)) → IsKilled (apply G (fresh_sum n (powers_from v i k ++ cs)))
  block_killed v i zero l le kills n cs G rest o = rest n o
  block_killed v i (suc k) l le kills n cs G rest o =
      ap (partials J) (apply_plus G _ (fresh_sum (suc n) (powers_from v (suc i) k ++ cs)) ∙ ap (λ x. x +ᴾ apply G (fresh_sum (suc n) (powers_from v (suc i) k ++ cs))) (apply_term G (itself n) (power_term (v, i))))
      ∙ partials_from-plus 0 J _ _
      ∙ ap₂ ◌+ᴾ◌ (kills _ (power_killed v i l (pos 1) (G n) (omega arith) (fresh_free G n f (v, i) o.0))) (block_killed v (suc i) k l (omega arith) kills (suc n) cs G rest o.1)
      ∙ plus_idl terms 0ᴾ

  pub powers_killed : (v : ℕ) (B : List ℕ) → Kills IsKilled v B → (n : ℕ) (G : ℕ → WholePolynomial) → Every (IsOwn G) (fresh_unknowns n f (low_powers_from v B)) → IsKilled (apply G (fresh_sum n (low_powers_from v B)))
  powers_killed v [] h n G o = ap (partials J) (apply_none G) ∙ partials-zero J
  powers_killed v (c ∷ B) h n G o = block_killed v 0 c c (omega arith) h.0 n (low_powers_from (suc v) B) G (λ n o. powers_killed (suc v) B h.1 n G o) o

-- ---- the powers are of variables with a count
pub block_of : (f : Unknown) (v i k : ℕ) → has f v ≡ true → ArePowersOf f (powers_from v i k)
block_of f v i zero h = tt
block_of f v i (suc k) h = (h, block_of f v (suc i) k h)

pub powers_of : (f : Unknown) (v : ℕ) (B : List ℕ) → ((k : ℕ) → ¬ (get_or B k 0 ≡ 0) → has f (v + k) ≡ true) → ArePowersOf f (low_powers_from v B)
powers_of f v [] h = tt
powers_of f v (c ∷ B) h = every-append (λ (d : Power). has f d.0 ≡ true) (powers_from v 0 c) (low_powers_from (suc v) B) (some c refl) (powers_of f (suc v) B (λ k n. ap (has f) (moved v k) ∙ h (suc k) n))
  where
    moved : (v k : ℕ) → suc v + k ≡ v + suc k
    moved v k = omega arith

    here : (v : ℕ) → v ≡ v + 0
    here v = omega arith

    some : (x : ℕ) → c ≡ x → ArePowersOf f (powers_from v 0 x)
    some zero e = tt
    some (suc x) e = block_of f v 0 (suc x) (ap (has f) (here v) ∙ h 0 (λ z. absurd (let y : suc x ≡ 0 = sym e ∙ z in omega arith)))
