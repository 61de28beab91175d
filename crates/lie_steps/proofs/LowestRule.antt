-- A polynomial of which an operator with constant coefficients makes 0 is made 0 by its lowest derivative alone, where that divides the others: downwards by the degree.
use Rattle.std.specs.Prelude.{◌≡◌, ℕ, zero, suc, ◌+◌, ◌<◌, ◌≤◌, Bool, true, false, cond, not, T, List, [], ◌∷◌, ℤ, pos, ◌*ℤ◌, ◌+ℤ◌, ltb}
use Rattle.std.proofs.Common.{refl, sym, ap, ap₂, subst, ◌∙◌, arith}
use Rattle.std.specs.Fn.{iterate}
use lib.IntN.{zero-*ℤ, *ℤ-zero, +ℤ_idr}
use Rattle.std.specs.List.{AllByRecursion as Every}
use Rattle.lie_math.specs.FiniteSum as finite
use Rattle.lie_math.specs.FiniteSum.{IsCanonical}
use Rattle.lie_math.specs.FiniteSumLaws.{ext, value-none, value-plus, value-term, plus_idl, sum-plus, sum-term, term_additive}
use Rattle.lie_math.specs.Natural.{naturals}
use Rattle.lie_math.specs.Integer.{coefficients}
use lib.IntN.{+ℤ_idl}
use Rattle.lie_math.specs.Counts.{Derivative, order, derived, partials, partials_from, trimmed}
use Rattle.lie_math.specs.LinearForm.{LinearForm, forms, no_form, apply}
use Rattle.lie_math.specs.LinearSystem.{LinearSystem, Unknown}
use Rattle.lie_math.specs.Monomial.{Monomial, ◌·◌, degree, exponent, monomial_cmp, powers, single, unit}
use Rattle.lie_math.specs.PartialDerivative.{partial}
use Rattle.lie_math.specs.Polynomial.{WholePolynomial, polynomials, terms, coefficient, constant, 0ᴾ, ◌+ᴾ◌, ◌*ᴾ◌}
use Rattle.lie_math.specs.PolynomialRing.{polynomial_ring, one-*ᴾ}
use Rattle.lie_math.specs.Powers.{total_degree}
use Rattle.lie_math.specs.SortedSum.{sum_of_entries, value_at}
use Rattle.std.specs.Ordering.{eq_by_cmp}
use Rattle.lie_math.proofs.FiniteSum.{key}
use Rattle.lie_math.proofs.Variables.{in-constant}
use Rattle.lie_math.proofs.CanonicalLists.{canonical_value, canonical_tail}
use Rattle.lie_math.proofs.Degree.{bounded}
use Rattle.lie_math.proofs.Dependence.{coefficient-partial, zero_if}
use Rattle.lie_math.proofs.Integer.{no_zero_divisors_ℤ}
use Rattle.lie_math.proofs.LinearForm.{apply_term}
use Rattle.lie_math.proofs.Ring.{times_nil}
use Rattle.lie_math.proofs.Weighing.{coefficient-constant_times}
use Rattle.lie_systems.specs.Normalised.{derivative_alone}
use Rattle.lie_systems.specs.Triples.{Triple, triples_in, triples_with}
use Rattle.lie_systems.specs.ValidSystems.{IsOwned, IsFormOf}
use Rattle.lie_steps.specs.Derivatives.{missing}
use Rattle.lie_steps.specs.Equations.{equation, Divides, rest_of}
use Rattle.lie_steps.specs.Laws.{HaveSameFields, Keeps, IsFunctional, IsTotal}
use Rattle.lie_steps.specs.Lowest.{IsLowestAt, lowered, AppliesLowest, AfterLowest}
use Rattle.lie_steps.specs.Tidying.{IsTidySystem}
use Rattle.lie_math.proofs.EveryElement.{every-front, every-back, every_picked}
use Rattle.lie_math.proofs.FormEntries.{each-term}
use Rattle.lie_steps.proofs.Carry.{same_fields-trans}
use Rattle.lie_steps.proofs.Tidied.{IsSound, sound_of_valid, tidy_valid, tidy_same, tidy_unique, tidy_exists}
use Rattle.lie_steps.proofs.EquationsAt.{at-sound, at-same}
use Rattle.lie_steps.proofs.Rests.{at_derivative, apply_apart, coefficient_has, each-rest}
use Rattle.lie_steps.proofs.CountLists.{under_both, some_missing, missing_derives}
use Rattle.lie_steps.proofs.Derived.{partials-zero}
use Rattle.lie_math.specs.Variables.{IsIn}

-- ---- degrees below a number
abbrev IsBelow : ℕ → WholePolynomial → Type 0
IsBelow n p = (m : Monomial) → n ≤ degree m → coefficient p m ≡ pos 0

degree_more : (v : ℕ) (m : Monomial) → degree (single v · m) ≡ suc (degree m)
degree_more v m =
    sum-plus powers naturals (λ v e. e) (record { on_nil = λ k. refl; on_plus = λ k a b. refl }) (single v) m
    ∙ ap (λ n. n + degree m) (sum-term powers naturals (λ v e. e) (record { on_nil = λ k. refl; on_plus = λ k a b. refl }) v 1) ∙ plain (degree m)
  where
    plain : (n : ℕ) → 1 + n ≡ suc n
    plain n = omega arith

less_partial : (n v : ℕ) (p : WholePolynomial) → IsBelow (suc n) p → IsBelow n (partial v p)
less_partial n v p h m le = coefficient-partial v p m ∙ ap (λ z. z *ℤ pos (suc (exponent m v))) (h (single v · m) (more (degree m) (degree (single v · m)) (degree_more v m) le)) ∙ zero-*ℤ (pos (suc (exponent m v)))
  where
    more : (d e : ℕ) → e ≡ suc d → n ≤ d → suc n ≤ e
    more d e h g = omega arith

same_partial : (n v : ℕ) (p : WholePolynomial) → IsBelow n p → IsBelow n (partial v p)
same_partial n v p h = less_partial n v p (λ m le. h m (omega arith))

same_iterate : (n v c : ℕ) (p : WholePolynomial) → IsBelow n p → IsBelow n (iterate (partial v) c p)
same_iterate n v zero p h = h
same_iterate n v (suc c) p h = same_iterate n v c (partial v p) (same_partial n v p h)

same_partials : (n i : ℕ) (K : List ℕ) (p : WholePolynomial) → IsBelow n p → IsBelow n (partials_from i K p)
same_partials n i [] p h = h
same_partials n i (c ∷ K) p h = same_iterate n i c (partials_from (suc i) K p) (same_partials n (suc i) K p h)

less_partials : (n i : ℕ) (K : List ℕ) (p : WholePolynomial) → 0 < order K → IsBelow (suc n) p → IsBelow n (partials_from i K p)
less_partials n i [] p lt h = absurd (omega arith)
less_partials n i (zero ∷ K) p lt h = less_partials n (suc i) K p (let k : 0 < 0 + order K = lt in omega arith) h
less_partials n i (suc c ∷ K) p lt h = same_iterate n i c (partial i (partials_from (suc i) K p)) (less_partial n i (partials_from (suc i) K p) (same_partials (suc n) (suc i) K p h))

below_degree : (p : WholePolynomial) → IsBelow (suc (total_degree p)) p
below_degree p m le = zero_if (coefficient p m) (λ k. let b = bounded degree p.list m k in absurd (omega arith))

-- ---- the equation
-- a number times a derivative of d
pub record IsHigher (d : Derivative) (e : Derivative × WholePolynomial) : Type 0 where
  pub divides : Divides d e.0
  pub number : ℤ
  pub is : e.1 ≡ constant number
  pub short : trimmed (e.0).counts ≡ (e.0).counts

module _ (F : ℕ → WholePolynomial) (d : Derivative) where
  says : (e : Derivative × WholePolynomial) (h : IsHigher d e) → e.1 *ᴾ derived F e.0 ≡ constant h.number *ᴾ partials (missing d.counts (e.0).counts) (derived F d)
  says e h = ap₂ ◌*ᴾ◌ h.is (ap (λ g. partials (e.0).counts (F g)) (sym (h.divides).unknown) ∙ sym (missing_derives d.counts (e.0).counts (F d.unknown) (h.divides).counts))

  abbrev IsRest : Derivative × WholePolynomial → Type 0
  IsRest e = IsHigher d e × ¬ (e.0 ≡ d)

  same_derivative : trimmed d.counts ≡ d.counts → (e : Derivative × WholePolynomial) → IsRest e → 0 < order (missing d.counts (e.0).counts)
  same_derivative s e h = some_missing d.counts (e.0).counts s (h.0).short ((h.0).divides).counts (λ k. let u = sym ((h.0).divides).unknown in let j = sym k in h.1 (λ i. record { unknown = u i; counts = j i }))

  rest_below : trimmed d.counts ≡ d.counts → (n : ℕ) (es : List (Derivative × WholePolynomial)) → Every IsRest es → IsBelow (suc n) (derived F d) → IsBelow n (sum_of_entries polynomials (λ (d : Derivative) a. a *ᴾ derived F d) es)
  rest_below s n [] h b m le = value-none terms m
  rest_below s n (e ∷ es) h b m le =
      value-plus terms _ _ m
      ∙ ap₂ ◌+ℤ◌ (ap (λ p. coefficient p m) (says e (h.0).0) ∙ coefficient-constant_times ((h.0).0).number _ m ∙ ap (λ z. ((h.0).0).number *ℤ z) (less_partials n 0 (missing d.counts (e.0).counts) (derived F d) (same_derivative s e h.0) b m le) ∙ *ℤ-zero ((h.0).0).number) (rest_below s n es h.1 b m le)

  rest_nothing : (es : List (Derivative × WholePolynomial)) → Every IsRest es → derived F d ≡ 0ᴾ → sum_of_entries polynomials (λ (d : Derivative) a. a *ᴾ derived F d) es ≡ 0ᴾ
  rest_nothing [] h z = refl
  rest_nothing (e ∷ es) h z =
      ap₂ ◌+ᴾ◌ (says e (h.0).0 ∙ ap (λ p. constant ((h.0).0).number *ᴾ partials (missing d.counts (e.0).counts) p) z ∙ ap (λ p. constant ((h.0).0).number *ᴾ p) (partials-zero (missing d.counts (e.0).counts)) ∙ times_nil polynomial_ring _) (rest_nothing es h.1 z)
      ∙ plus_idl terms 0ᴾ

  module _ (E : LinearForm) (c : ℤ) (apart : ¬ (c ≡ pos 0)) (leads : at_derivative E d ≡ constant c) (short : trimmed d.counts ≡ d.counts) (rest : Every IsRest (rest_of d E).list) where
    split_off : apply F E ≡ constant c *ᴾ derived F d +ᴾ apply F (rest_of d E)
    split_off = apply_apart F d E ∙ ap (λ x. x *ᴾ derived F d +ᴾ apply F (rest_of d E)) leads

    step : apply F E ≡ 0ᴾ → (n : ℕ) → IsBelow (suc n) (derived F d) → IsBelow n (derived F d)
    unfolding apply
    step z n b m le =
        no_zero_divisors_ℤ c (coefficient (derived F d) m) apart (
        sym (coefficient-constant_times c (derived F d) m) ∙ sym (+ℤ_idr (coefficient (constant c *ᴾ derived F d) m)) ∙ ap (λ x. coefficient (constant c *ᴾ derived F d) m +ℤ x) (sym (rest_below short n (rest_of d E).list rest b m le))
        ∙ sym (value-plus terms (constant c *ᴾ derived F d) _ m) ∙ ap (λ p. coefficient p m) (sym split_off ∙ z) ∙ value-none terms m)

    all_below : apply F E ≡ 0ᴾ → (n : ℕ) → IsBelow n (derived F d) → IsBelow 0 (derived F d)
    all_below z zero b = b
    all_below z (suc n) b = all_below z n (step z n b)

    pub lowest_zero : apply F E ≡ 0ᴾ → derived F d ≡ 0ᴾ
    lowest_zero z = ext terms (derived F d) 0ᴾ (λ m. all_below z _ (below_degree (derived F d)) m (omega arith) ∙ sym (value-none terms m))

    pub zero_lowest : derived F d ≡ 0ᴾ → apply F E ≡ 0ᴾ
    unfolding apply
    zero_lowest z = split_off ∙ ap₂ ◌+ᴾ◌ (ap (λ p. constant c *ᴾ p) z ∙ times_nil polynomial_ring (constant c)) (rest_nothing (rest_of d E).list rest z) ∙ plus_idl terms 0ᴾ

-- ---- from the triples to the derivatives
module _ (Q : Triple → Type 0) where
  pub with_parts : (d : Derivative) (es : List (Monomial × ℤ)) → Every Q (triples_with d es) → Every (λ (x : Monomial × ℤ). Q (d, x.0, x.1)) es
  with_parts d [] h = tt
  with_parts d (x ∷ es) h = (h.0, with_parts d es h.1)

  pub entries_of_triples : (es : List (Derivative × WholePolynomial)) → Every Q (triples_in es) → Every (λ (e : Derivative × WholePolynomial). Every (λ (x : Monomial × ℤ). Q (e.0, x.0, x.1)) e.1.list) es
  entries_of_triples [] h = tt
  entries_of_triples (e ∷ es) h = (with_parts e.0 e.1.list (every-front Q (triples_with e.0 e.1.list) (triples_in es) h), entries_of_triples es (every-back Q (triples_with e.0 e.1.list) (triples_in es) h))

zero_at : (m : Monomial) → eq_by_cmp monomial_cmp m unit ≡ false → (es : List (Monomial × ℤ)) → Every (λ (x : Monomial × ℤ). x.0 ≡ unit) es → value_at monomial_cmp coefficients m es ≡ pos 0
zero_at m n [] h = refl
zero_at m n (x ∷ es) h = ap₂ ◌+ℤ◌ (ap (λ k. cond (eq_by_cmp monomial_cmp m k) x.1 (pos 0)) h.0 ∙ ap (λ t. cond t x.1 (pos 0)) n) (zero_at m n es h.1) ∙ +ℤ_idl (pos 0)

-- a polynomial with constant monomials is a number
pub constant_of : (p : WholePolynomial) → Every (λ (x : Monomial × ℤ). x.0 ≡ unit) p.list → p ≡ constant (coefficient p unit)
constant_of p h = ext terms p (constant (coefficient p unit)) (λ m. go m (eq_by_cmp monomial_cmp m unit) refl ∙ sym (value-term terms unit (coefficient p unit) m))
  where
    go : (m : Monomial) (t : Bool) → eq_by_cmp monomial_cmp m unit ≡ t → coefficient p m ≡ cond t (coefficient p unit) (pos 0)
    go m true e = ap (coefficient p) (key terms m unit e)
    go m false e = zero_at m e p.list h

-- what each element has, of a list that is not empty
of_some : {X : Type 0} (A : Type 0) (xs : List X) → T (not (finite.list_is_empty xs)) → Every (λ x. A) xs → A
of_some A [] t h = absurd t
of_some A (x ∷ xs) t h = h.0

higher_entries : (n : ℕ) (us : List Unknown) (d : Derivative) (es : List (Derivative × WholePolynomial)) → IsCanonical forms es → Every (λ (e : Derivative × WholePolynomial). IsOwned us e.0 × IsIn (λ v. ltb v n) e.1) es
    → Every (λ (e : Derivative × WholePolynomial). Every (λ (x : Monomial × ℤ). x.0 ≡ unit) e.1.list) es → Every (λ (e : Derivative × WholePolynomial). Every (λ (x : Monomial × ℤ). Divides d e.0) e.1.list) es → Every (IsHigher d) es
higher_entries n us d [] c o h g = tt
higher_entries n us d (e ∷ es) c o h g = (
  record { divides = of_some (Divides d e.0) e.1.list (canonical_value forms e es c) g.0; number = coefficient e.1 unit; is = constant_of e.1 h.0; short = ((o.0).0).short },
  higher_entries n us d es (canonical_tail forms e es c) o.1 h.1 g.1,
)

module _ (n : ℕ) (S : LinearSystem) (sound : IsSound n S) (i : ℕ) (d : Derivative) (a : IsLowestAt S i d) where
  abbrev form : IsFormOf n S.unknowns (equation S i)
  form = (every_picked (IsFormOf n S.unknowns) S.equations i no_form a.place sound.equations).0

  higher : Every (IsHigher d) (equation S i).list
  higher = higher_entries n S.unknowns d (equation S i).list (equation S i).canonical form
      (entries_of_triples (λ (t : Triple). t.1 ≡ unit) (equation S i).list a.constant) (entries_of_triples (λ (t : Triple). Divides d t.0) (equation S i).list a.lowest)

  at_lowest : IsHigher d (d, at_derivative (equation S i) d)
  at_lowest = coefficient_has (IsHigher d) (equation S i) higher d a.occurs

  apart : ¬ (at_lowest.number ≡ pos 0)
  apart z = a.occurs (at_lowest.is ∙ ap constant z ∙ (term_additive terms).on_nil unit)

  owned : IsOwned S.unknowns d
  owned = (coefficient_has (λ (e : Derivative × WholePolynomial). IsOwned S.unknowns e.0 × IsIn (λ v. ltb v n) e.1) (equation S i) form d a.occurs).0

  pub lowered-sound : IsSound n (lowered S i d)
  lowered-sound = at-sound n S sound i a.place (derivative_alone d ∷ []) (each-term (IsOwned S.unknowns) (λ v. ltb v n) d (constant (pos 1)) owned (in-constant (λ v. ltb v n) (pos 1)), tt)

  pub lowered-same : HaveSameFields S (lowered S i d)
  lowered-same = at-same S i a.place (derivative_alone d ∷ [])
      (λ F o r z. (apply_term F d (constant (pos 1)) ∙ one-*ᴾ (derived F d) ∙ lowest_zero F d (equation S i) at_lowest.number apart at_lowest.is at_lowest.short (each-rest (IsHigher d) d (equation S i) higher) z, tt))
      (λ F o r z. zero_lowest F d (equation S i) at_lowest.number apart at_lowest.is at_lowest.short (each-rest (IsHigher d) d (equation S i) higher) (sym (apply_term F d (constant (pos 1)) ∙ one-*ᴾ (derived F d)) ∙ z.0))

  -- the lowest derivative is one
  pub divides_lowest : (e : Derivative) → IsLowestAt S i e → IsHigher d (e, at_derivative (equation S i) e)
  divides_lowest e b = coefficient_has (IsHigher d) (equation S i) higher e b.occurs

pub lowest_keeps : Keeps AfterLowest
lowest_keeps n S T i v a =
    let s = sound_of_valid n S v in (
      tidy_valid n (lowered S i a.0) T a.2 (lowered-sound n S s i a.0 a.1),
      same_fields-trans S (lowered S i a.0) T (lowered-same n S s i a.0 a.1) (tidy_same (lowered S i a.0) T a.2),
    )

pub lowest_functional : IsFunctional AfterLowest
lowest_functional n S T U i v a b =
    let s = sound_of_valid n S v in
    let x = divides_lowest n S s i a.0 a.1 b.0 b.1 in
    let y = divides_lowest n S s i b.0 b.1 a.0 a.1 in
    let u = (x.divides).unknown in
    let c = under_both (a.0).counts (b.0).counts y.short x.short (x.divides).counts (y.divides).counts in
    let same : a.0 ≡ b.0 = λ j. record { unknown = u j; counts = c j } in
    tidy_unique (lowered S i b.0) T U (subst (λ d. IsTidySystem (lowered S i d) T) same a.2) b.2

pub lowest_total : IsTotal AppliesLowest AfterLowest
lowest_total n S i w a = let t = tidy_exists (lowered S i a.0) in (t.0, (a.0, a.1, t.1))
