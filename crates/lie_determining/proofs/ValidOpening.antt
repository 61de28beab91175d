-- The system of the equations is valid.
use Rattle.std.specs.Prelude.{◌≡◌, ℕ, zero, suc, ◌+◌, ◌<◌, ◌≤◌, Bool, true, false, ◌||◌, eqb, ltb, List, [], ◌∷◌, map}
use Rattle.std.proofs.Common.{Less, refl, sym, ap, subst, ◌∙◌, arith, eq-eqb, true≢false}
use Rattle.std.proofs.lemmas.List.FromFn.{length-map-range_with_len, get_or-map-range_with_len}
use Rattle.std.specs.List.{AllByRecursion as Every, range_with_len, list_any}
use Rattle.std.specs.List.Sorted.{IsStrictlySortedBy}
use Rattle.std.specs.Ordering.{nat_cmp, on}
use Rattle.std.specs.Cmp.{nat_cmp_is}
use Rattle.lie_math.specs.Counts.{Derivative}
use Rattle.lie_math.specs.LinearForm.{LinearForm}
use Rattle.lie_math.specs.LinearSystem.{Unknown, has}
use Rattle.lie_math.specs.Polynomial.{WholePolynomial}
use Rattle.lie_math.specs.Variables.{IsIn}
use Rattle.lie_geometry.specs.Coordinates.{Space}
use Rattle.lie_geometry.specs.DeterminingEquations.{determining_system}
use Rattle.lie_geometry.specs.Prolongation.{is_in_z}
use Rattle.lie_geometry.specs.SymbolicProlongation.{unknown}
use Rattle.lie_systems.specs.Normalised.{IsNormalised}
use Rattle.lie_systems.specs.ValidSystems.{IsOwned, IsFormOf, HasVariablesBelow, IsValid}
use Rattle.lie_systems.proofs.Primitive.{primitive_normalised}
use Rattle.lie_lin.specs.declared.system.Unknown as kept
use Rattle.lie_lin.specs.Systems.{unknown_of, system_of}
use Rattle.lie_determining.specs.Equations.{IsDerivativeInZ, HasDerivativesInZ, IsNormalisedPart, AreEquationsOf, part_of_form}
use Rattle.lie_determining.proofs.SortedLists.{every_of}
use Rattle.lie_determining.proofs.ValidForms.{IsFormIn, alone_is_in, normalised_part_is_in}

-- ---- numbers from a on
every_range : (P : ℕ → Type 0) (a n : ℕ) → ((s : ℕ) → a ≤ s → s < a + n → P s) → Every P (range_with_len a n)
every_range P a zero f = tt
every_range P a (suc n) f = (f a (omega arith) (omega arith), every_range P (a + 1) n (λ s l g. f s (before s l) (less s g)))
  where
    before : (s : ℕ) → a + 1 ≤ s → a ≤ s
    before s l = omega arith

    less : (s : ℕ) → s < a + 1 + n → s < a + suc n
    less s g = omega arith

every_mapped : {X : Type 0} (P : X → Type 0) (f : ℕ → X) (xs : List ℕ) → Every (λ s. P (f s)) xs → Every P (map f xs)
every_mapped P f [] h = tt
every_mapped P f (x ∷ xs) h = (h.0, every_mapped P f xs h.1)

-- what rises with its number
rising_range : {X : Type 0} (number : X → ℕ) (f : ℕ → X) (k a n : ℕ) → ((s : ℕ) → number (f s) ≡ k + s) → IsStrictlySortedBy (on number nat_cmp) (map f (range_with_len a n))
unfolding IsStrictlySortedBy
rising_range number f k a zero is = tt
rising_range number f k a (suc n) is = (
  every_mapped (λ y. nat_cmp (number (f a)) (number y) ≡ Less) f (range_with_len (a + 1) n) (every_range (λ s. nat_cmp (number (f a)) (number (f s)) ≡ Less) (a + 1) n (λ s l g. sym (nat_cmp_is (number (f a)) (number (f s)) Less (above s l)))),
  rising_range number f k (a + 1) n is,
)
  where
    above : (s : ℕ) → a + 1 ≤ s → number (f a) < number (f s)
    above s l = let x = is a in let y = is s in omega arith

pub map_itself : (xs : List ℕ) → map (λ x. x) xs ≡ xs
map_itself [] = refl
map_itself (x ∷ xs) = ap (λ ys. x ∷ ys) (map_itself xs)

-- a number of the range is there
in_range : (a n v : ℕ) → a ≤ v → v < a + n → list_any (eqb v) (range_with_len a n) ≡ true
in_range a zero v l g = absurd (omega arith)
in_range a (suc n) v l g = go (eqb v a) refl (λ m. in_range (a + 1) n v m (omega arith))
  where
    go : (b : Bool) → eqb v a ≡ b → (a + 1 ≤ v → list_any (eqb v) (range_with_len (a + 1) n) ≡ true) → list_any (eqb v) (range_with_len a (suc n)) ≡ true
    go true e r = ap (λ b. b || list_any (eqb v) (range_with_len (a + 1) n)) e
    go false e r =
        let apart : (v ≡ a) → ⊥ = λ q. true≢false (sym (eq-eqb v a q) ∙ e) in
        ap (λ b. b || list_any (eqb v) (range_with_len (a + 1) n)) e ∙ r (omega arith)

module _ (S : Space) where
  abbrev bound : ℕ
  bound = S.p + S.q

  abbrev pub listed_unknown : ℕ → Unknown
  listed_unknown s = record { number = suc s; variables = range_with_len 0 (S.p + S.q) }

  abbrev us : List Unknown
  us = map listed_unknown (range_with_len 0 (S.p + S.q))

  owned : (d : Derivative) → IsDerivativeInZ S d → IsOwned us d
  owned d h = go d.unknown refl h.positive h.low
    where
      place : (s : ℕ) → d.unknown ≡ suc s → suc s ≤ S.p + S.q → IsOwned us d
      place s e l = record {
        unknown = listed_unknown s;
        listed = (s, (let n = length-map-range_with_len listed_unknown 0 (S.p + S.q) in omega arith), get_or-map-range_with_len listed_unknown 0 (S.p + S.q) s s (listed_unknown s) (omega arith) (omega arith));
        number = sym e;
        own = λ v n. in_range 0 (S.p + S.q) v (omega arith) (let g = h.own v n in omega arith);
        short = h.short;
      }

      go : (n : ℕ) → d.unknown ≡ n → 0 < d.unknown → d.unknown ≤ S.p + S.q → IsOwned us d
      go zero e p l = absurd (omega arith)
      go (suc s) e p l = place s e (omega arith)

  form_of : (E : LinearForm) → IsFormIn (IsDerivativeInZ S) (is_in_z S) E → IsFormOf (S.p + S.q) us E
  form_of E h =
      every_of (λ (e : Derivative × WholePolynomial). IsDerivativeInZ S e.0 × IsIn (is_in_z S) e.1) (λ (e : Derivative × WholePolynomial). IsOwned us e.0 × IsIn (λ v. ltb v (S.p + S.q)) e.1) E.list
      (λ e k. (owned e.0 k.0, k.1)) h

  unknown_is_in : (s : ℕ) → s < 0 + (S.p + S.q) → IsFormIn (IsDerivativeInZ S) (is_in_z S) (unknown s)
  unknown_is_in s l = alone_is_in (IsDerivativeInZ S) (is_in_z S) (record { unknown = suc s; counts = [] }) (record {
    positive = omega arith;
    low = omega arith;
    own = λ v n. absurd (n refl);
    short = refl;
  })

  pub opening_is_valid : (Es es : List LinearForm) → Every (HasDerivativesInZ S) Es → AreEquationsOf S Es es → IsValid (S.p + S.q) (determining_system S es)
  opening_is_valid Es es has are = record {
    rising = rising_range (λ (f : Unknown). f.number) listed_unknown 1 0 (S.p + S.q) (λ s. plus_one s);
    below = every_mapped (λ (f : Unknown). f.number < suc (S.p + S.q)) listed_unknown (range_with_len 0 (S.p + S.q)) (every_range (λ s. suc s < suc (S.p + S.q)) 0 (S.p + S.q) (λ s l g. omega arith));
    variables = every_mapped (HasVariablesBelow (S.p + S.q)) listed_unknown (range_with_len 0 (S.p + S.q)) (every_range (λ s. HasVariablesBelow (S.p + S.q) (listed_unknown s)) 0 (S.p + S.q) (λ s l g. variables_below));
    equations = every_of (IsNormalisedPart S Es) (IsFormOf (S.p + S.q) us) es (λ e a. form_of e (normalised_part_is_in S Es has e a)) are.alone;
    normalised = every_of (IsNormalisedPart S Es) IsNormalised es (λ e a. subst IsNormalised (sym a.4.2) (primitive_normalised (part_of_form S a.1 a.4.0) a.4.1)) are.alone;
    ordered = are.ordered;
    general = every_mapped (IsFormOf (S.p + S.q) us) unknown (range_with_len 0 (S.p + S.q)) (every_range (λ s. IsFormOf (S.p + S.q) us (unknown s)) 0 (S.p + S.q) (λ s l g. form_of (unknown s) (unknown_is_in s g)));
    components = length-map-range_with_len unknown 0 (S.p + S.q);
  }
    where
      plus_one : (s : ℕ) → suc s ≡ 1 + s
      plus_one s = omega arith

      variables_below : IsStrictlySortedBy nat_cmp (range_with_len 0 (S.p + S.q)) × Every (λ v. v < S.p + S.q) (range_with_len 0 (S.p + S.q))
      variables_below = (
        subst (IsStrictlySortedBy nat_cmp) (map_itself (range_with_len 0 (S.p + S.q))) (rising_range (λ v. v) (λ v. v) 0 0 (S.p + S.q) (λ s. plain s)),
        every_range (λ v. v < S.p + S.q) 0 (S.p + S.q) (λ s l g. omega arith),
      )
        where
          plain : (s : ℕ) → s ≡ 0 + s
          plain s = omega arith

-- ---- the system as it is kept
pub system_is : (S : Space) (unknowns : List kept.Unknown) (es general : List LinearForm) (next : ℕ) → map unknown_of unknowns ≡ (determining_system S []).unknowns → general ≡ (determining_system S []).general → next ≡ suc (S.p + S.q) → system_of unknowns es general next ≡ determining_system S es
system_is S unknowns es general next u g n = λ i. record { unknowns = u i; equations = es; general = g i; next = n i }
