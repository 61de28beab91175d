-- The closed system of fields: it is finite and valid, and that of a system's basis gives the same fields.
use Rattle.std.specs.Prelude.{◌≡◌, ℕ, zero, suc, ◌+◌, ◌<◌, ◌≤◌, ◌↔◌, ltb, List, [], ◌∷◌, map, length, get_or}
use Rattle.std.proofs.Common.{refl, sym, arith, Less, Ordering}
use Rattle.std.proofs.lemmas.List.FromFn.{length-map-range_with_len, get_or-map-range_with_len}
use Rattle.std.specs.List.{AllByRecursion as Every, range_with_len}
use Rattle.std.specs.List.Sorted.{IsStrictlySortedBy}
use Rattle.std.specs.Ordering.{nat_cmp, on}
use Rattle.std.specs.Cmp.{nat_cmp_is}
use Rattle.lie_math.specs.LinearForm.{form_term}
use Rattle.lie_math.specs.LinearSystem.{Unknown, LinearSystem, Gives}
use Rattle.lie_math.specs.Polynomial.{WholePolynomial, 0ᴾ}
use Rattle.lie_math.specs.Variables.{IsIn}
use Rattle.lie_math.specs.VectorField.{VectorField, component}
use Rattle.lie_math.proofs.EveryElement.{every-map}
use Rattle.lie_math.proofs.FormEntries.{each-none, each-term, each-plus}
use Rattle.lie_math.proofs.Variables.{in-0ᴾ}
use Rattle.lie_systems.specs.EquationOrder.{equation_cmp}
use Rattle.lie_systems.specs.ValidSystems.{IsOwned, IsFormOf, HasVariablesBelow, IsValid}
use Rattle.lie_steps.specs.Runs.{IsFinite}
use Rattle.lie_spans.specs.Fields.{IsFieldIn, IsFieldBasis}
use Rattle.lie_spans.specs.ClosedSystems.{component_form, closed_system}
use Rattle.lie_spans.proofs.ClosedSystems.{closed_is}

-- ---- the same fields
pub closed_same : (n : ℕ) (S : LinearSystem) (Vs : List VectorField) → IsFieldBasis n (Gives S) Vs
    → (W : VectorField) → IsFieldIn n W → Gives (closed_system n Vs) W ↔ Gives S W
closed_same n S Vs b W f =
    let c = closed_is n Vs b.fields W f in (λ g. (b.spans W f).1 (c.0 g), λ g. c.1 ((b.spans W f).0 g))

-- ---- its unknowns
abbrev constant_unknown : ℕ → Unknown
constant_unknown i = record { number = i; variables = [] }

every_range : (P : ℕ → Type 0) (a n : ℕ) → ((s : ℕ) → a ≤ s → s < a + n → P s) → Every P (range_with_len a n)
every_range P a zero f = tt
every_range P a (suc n) f = (f a (omega arith) (omega arith), every_range P (a + 1) n (λ s l g. f s (omega arith) (omega arith)))

pub closed_finite : (n : ℕ) (Vs : List VectorField) → IsFinite (closed_system n Vs)
closed_finite n Vs = record {
  solved = refl;
  constants = every-map (λ (f : Unknown). f.variables ≡ []) constant_unknown (range_with_len 1 (length Vs))
      (every_range (λ i. [] ≡ []) 1 (length Vs) (λ i l g. refl));
}

rising_numbers : (a n : ℕ) → IsStrictlySortedBy (on (λ (f : Unknown). f.number) nat_cmp) (map constant_unknown (range_with_len a n))
unfolding IsStrictlySortedBy
rising_numbers a zero = tt
rising_numbers a (suc n) = (
  every-map (λ (f : Unknown). nat_cmp a f.number ≡ Less) constant_unknown (range_with_len (a + 1) n)
      (every_range (λ i. nat_cmp a i ≡ Less) (a + 1) n (λ i l g. sym (nat_cmp_is a i Less (omega arith)))),
  rising_numbers (a + 1) n,
)

constants_have_variables_below : (n : ℕ) → (i : ℕ) → HasVariablesBelow n (constant_unknown i)
unfolding IsStrictlySortedBy
constants_have_variables_below n i = (tt, tt)

nothing_ordered : {X : Type 0} (R : X → X → Ordering) → IsStrictlySortedBy R []
unfolding IsStrictlySortedBy
nothing_ordered R = tt

-- ---- its general form
component_in : (n : ℕ) (V : VectorField) → IsFieldIn n V → (s : ℕ) → IsIn (λ v. ltb v n) (component V s)
component_in n V f s = go V.parts s f.own
  where
    go : (ps : List WholePolynomial) (s : ℕ) → Every (IsIn (λ v. ltb v n)) ps → IsIn (λ v. ltb v n) (get_or ps s 0ᴾ)
    go [] s h = in-0ᴾ (λ v. ltb v n)
    go (p ∷ ps) zero h = h.0
    go (p ∷ ps) (suc s) h = go ps s h.1

module _ (n k : ℕ) where
  abbrev us : List Unknown
  us = map constant_unknown (range_with_len 1 k)

  owned : (i : ℕ) → 1 ≤ i → i < 1 + k → IsOwned us (record { unknown = i; counts = [] })
  owned zero p l = absurd (omega arith)
  owned (suc i) p l = record {
    unknown = constant_unknown (suc i);
    listed = (
      i,
      (let e = length-map-range_with_len constant_unknown 1 k in omega arith),
      get_or-map-range_with_len constant_unknown 1 k i (suc i) (constant_unknown (suc i)) (omega arith) (omega arith),
    );
    number = refl;
    own = λ v m. absurd (m refl);
    short = refl;
  }

  form_valid : (s i : ℕ) (Vs : List VectorField) → 1 ≤ i → i + length Vs ≤ 1 + k → Every (IsFieldIn n) Vs → IsFormOf n us (component_form s Vs i)
  form_valid s i [] p l h = each-none (IsOwned us) (λ v. ltb v n)
  form_valid s i (V ∷ Vs) p l h =
      each-plus (IsOwned us) (λ v. ltb v n) (form_term (record { unknown = i; counts = [] }) (component V s)) (component_form s Vs (suc i))
      (each-term (IsOwned us) (λ v. ltb v n) (record { unknown = i; counts = [] }) (component V s) (owned i p (omega arith)) (component_in n V h.0 s))
      (form_valid s (suc i) Vs (omega arith) (omega arith) h.1)

pub closed_valid : (n : ℕ) (Vs : List VectorField) → Every (IsFieldIn n) Vs → IsValid n (closed_system n Vs)
closed_valid n Vs h = record {
  rising = rising_numbers 1 (length Vs);
  below = every-map (λ (f : Unknown). f.number < suc (length Vs)) constant_unknown (range_with_len 1 (length Vs))
      (every_range (λ i. i < suc (length Vs)) 1 (length Vs) (λ i l g. omega arith));
  variables = every-map (HasVariablesBelow n) constant_unknown (range_with_len 1 (length Vs))
      (every_range (λ i. HasVariablesBelow n (constant_unknown i)) 1 (length Vs) (λ i l g. constants_have_variables_below n i));
  equations = tt;
  normalised = tt;
  ordered = nothing_ordered equation_cmp;
  general = every-map (IsFormOf n (us n (length Vs))) (λ s. component_form s Vs 1) (range_with_len 0 n)
      (every_range (λ s. IsFormOf n (us n (length Vs)) (component_form s Vs 1)) 0 n
      (λ s l g. form_valid n (length Vs) s 1 Vs (omega arith) (omega arith) h));
  components = length-map-range_with_len (λ s. component_form s Vs 1) 0 n;
}
