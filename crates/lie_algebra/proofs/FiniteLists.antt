-- Whether the unknowns of a list are constants.
use Rattle.std.specs.Prelude.{◌≡◌, ℕ, zero, suc, ◌+◌, ◌<◌, ◌≤◌, Bool, true, false, ◌||◌, ◌&&◌, not, eqb, List, [], ◌∷◌, filter, map, take, length, get_or}
use Rattle.std.proofs.Common.{refl, sym, ap, subst, ◌∙◌, arith, true≢false}
use Rattle.std.proofs.lemmas.Bool.{eqb-false}
use Rattle.std.specs.List.{AllByRecursion as Every, range_with_len}
use Rattle.lie_math.specs.FiniteSum.{list_is_empty}
use Rattle.lie_math.specs.LinearForm.{LinearForm}
use Rattle.lie_math.specs.LinearSystem.{LinearSystem, Unknown}
use Rattle.lie_math.proofs.EveryElement.{every_mapped, every-map, every_picked, every-append}
use Rattle.lie_geometry.proofs.Booleans.{and_left, and_right}
use Rattle.lie_math.proofs.Tests.{same_number}
use Rattle.lie_ring.proofs.Fronts.{take_more, all_taken}
use Rattle.lie_lin.specs.declared.system.Unknown as kept
use Rattle.lie_lin.specs.Systems.{has_bit, unknown_of}
use Rattle.lie_steps.specs.Runs.{IsFinite}

-- ---- bits
all_up_to : ℕ → (ℕ → Bool) → Bool
all_up_to zero f = f zero
all_up_to (suc n) f = f (suc n) && all_up_to n f

up_to : (n : ℕ) (f : ℕ → Bool) → all_up_to n f ≡ true → (k : ℕ) → k ≤ n → f k ≡ true
unfolding all_up_to
up_to zero f h k g = ap f (let e : k ≡ zero = omega arith in e) ∙ h
up_to (suc n) f h k g = by (up_to n f (and_right (f (suc n)) (all_up_to n f) h) k) (eqb k (suc n)) refl
  where
    by : (k ≤ n → f k ≡ true) → (t : Bool) → eqb k (suc n) ≡ t → f k ≡ true
    by rest true e = ap f (same_number k (suc n) e) ∙ and_left (f (suc n)) (all_up_to n f) h
    by rest false e = rest (let d = eqb-false k (suc n) e in omega arith)

abbrev set_bits : ℕ → List ℕ
set_bits b = filter (has_bit b) (range_with_len 0 8)

each_has_bit : all_up_to 255 (λ b. eqb b 0 || not (list_is_empty (set_bits b))) ≡ true
unfolding all_up_to
each_has_bit = refl

pub no_bit : (b : ℕ) → b < 256 → set_bits b ≡ [] → b ≡ 0
no_bit b l e = at (eqb b 0) refl (up_to 255 (λ b. eqb b 0 || not (list_is_empty (set_bits b))) each_has_bit b (omega arith))
  where
    at : (t : Bool) → eqb b 0 ≡ t → (eqb b 0 || not (list_is_empty (set_bits b))) ≡ true → b ≡ 0
    at true q h = same_number b 0 q
    at false q h = absurd (true≢false (sym h ∙ ap (λ t. t || not (list_is_empty (set_bits b))) q ∙ ap (λ xs. not (list_is_empty xs)) e))

pub no_variables : (b : ℕ) → b ≡ 0 → set_bits b ≡ []
no_variables b e = ap set_bits e

-- ---- the unknowns of a list
abbrev pub IsKeptConstant : kept.Unknown → Type 0
IsKeptConstant u = (unknown_of u).variables ≡ []

pub same_read : {X : Type 0} (xs : List X) (i : ℕ) (d e : X) → i < length xs → get_or xs i d ≡ get_or xs i e
same_read [] i d e l = absurd (omega arith)
same_read (x ∷ xs) zero d e l = refl
same_read (x ∷ xs) (suc i) d e l = same_read xs i d e (omega arith)

pub one_more_constant : (us : List kept.Unknown) (i : ℕ) (d : kept.Unknown) → i < length us → IsKeptConstant (get_or us i d)
    → Every IsKeptConstant (take i us) → Every IsKeptConstant (take (i + 1) us)
one_more_constant us i d l p h =
    subst (Every IsKeptConstant) (take_more us i (get_or us i d) l (same_read us i d (get_or us i d) l))
    (every-append IsKeptConstant (take i us) (get_or us i d ∷ []) h (p, tt))

pub all_constant : (S : LinearSystem) (us : List kept.Unknown) (i : ℕ) → map unknown_of us ≡ S.unknowns → length us ≤ i → S.equations ≡ []
    → Every IsKeptConstant (take i us) → IsFinite S
all_constant S us i e l s h = record {
  solved = s;
  constants = subst (Every (λ (f : Unknown). f.variables ≡ [])) e
      (every-map (λ (f : Unknown). f.variables ≡ []) unknown_of us (subst (Every IsKeptConstant) (all_taken us i l) h));
}

pub not_constant : (S : LinearSystem) (us : List kept.Unknown) (i : ℕ) (d : kept.Unknown) → map unknown_of us ≡ S.unknowns → i < length us
    → ¬ (IsKeptConstant (get_or us i d)) → ¬ (IsFinite S)
not_constant S us i d e l n f =
    n (every_picked IsKeptConstant us i d l (every_mapped (λ (f : Unknown). f.variables ≡ []) unknown_of us
    (subst (Every (λ (f : Unknown). f.variables ≡ [])) (sym e) f.constants))).0

pub no_equation : (Es : List LinearForm) → length Es ≡ 0 → Es ≡ []
no_equation [] e = refl
no_equation (E ∷ Es) e = absurd (omega arith)
