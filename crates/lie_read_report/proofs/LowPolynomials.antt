-- Lists that are looked through, and polynomials in low variables.
use Rattle.std.specs.Prelude.{◌≡◌, ℕ, ◌+◌, ◌<◌, ◌≤◌, Bool, true, false, ltb, List, [], ◌∷◌, ◌++◌, length, get_or, take, ℤ, refl}
use Rattle.std.specs.List.{AllByRecursion as Every}
use Rattle.std.proofs.Common.{sym, ap, subst, ◌∙◌, arith, inl, inr, ltb-true, ltb-false}
use Rattle.std.proofs.lemmas.List.{get_or_default}
use Rattle.lie_math.specs.Monomial.{Monomial, exponent, powers}
use Rattle.lie_math.specs.Polynomial.{WholePolynomial, terms}
use Rattle.lie_math.specs.Variables.{IsIn}
use Rattle.lie_math.proofs.CanonicalLists.{value_has}
use Rattle.lie_math.proofs.Decisions.{number_decided}
use Rattle.lie_math.proofs.EveryElement.{every-append}
use Rattle.lie_math.proofs.FiniteSum.{entries_of}
use Rattle.lie_ring.proofs.Fronts.{take_more}
use Rattle.lie_lin.specs.Validity.{AreLow}
use Rattle.lie_readback.proofs.Readable.{HasLowVariables}

pub every_taken : {X : Type 0} (P : X → Type 0) (xs : List X) (i : ℕ) (x : X) → i < length xs → x ≡ get_or xs i x → Every P (take i xs) → P x → Every P (take (i + 1) xs)
every_taken P xs i x lt is h p = subst (Every P) (take_more xs i x lt is) (every-append P (take i xs) (x ∷ []) h (p, tt))

pub every_copied : {X : Type 0} (P : X → Type 0) (xs : List X) (i : ℕ) (d : X) → i < length xs → Every P (take i xs) → P (get_or xs i d) → Every P (take (i + 1) xs)
every_copied P xs i d lt h p = every_taken P xs i (get_or xs i d) lt (get_or_default xs i d (get_or xs i d) lt) h p

low_powers : (n : ℕ) (m : Monomial) → HasLowVariables n m → AreLow n m.list
low_powers n m h = entries_of powers m (λ (e : ℕ × ℕ). e.0 < n) (λ e is apart. by e is apart (ltb e.0 n) refl)
  where
    by : (e : ℕ × ℕ) → exponent m e.0 ≡ e.1 → ¬ (e.1 ≡ 0) → (b : Bool) → ltb e.0 n ≡ b → e.0 < n
    by e is apart true f = ltb-true e.0 n f
    by e is apart false f = absurd (apart (sym is ∙ h e.0 f))

powers_low : (n : ℕ) (m : Monomial) → AreLow n m.list → HasLowVariables n m
powers_low n m h v out = elim (number_decided (exponent m v) 0) [
  | inl e ↦ e
  | inr apart ↦ absurd (let lt : v < n = value_has powers (λ (e : ℕ × ℕ). e.0 < n) v m.list m.canonical h apart in let le = ltb-false v n out in omega arith)
]

pub in_of_low : (n : ℕ) (p : WholePolynomial) → Every (λ (e : Monomial × ℤ). AreLow n (e.0).list) p.list → IsIn (λ v. ltb v n) p
in_of_low n p h v out m apart = powers_low n m (value_has terms (λ (e : Monomial × ℤ). AreLow n (e.0).list) m p.list p.canonical h apart) v out

pub low_of_in : (n : ℕ) (p : WholePolynomial) → IsIn (λ v. ltb v n) p → Every (λ (e : Monomial × ℤ). AreLow n (e.0).list) p.list
low_of_in n p h = entries_of terms p (λ (e : Monomial × ℤ). AreLow n (e.0).list) (λ e is apart. low_powers n e.0 (λ v out. h v out e.0 (λ z. apart (sym is ∙ z))))
