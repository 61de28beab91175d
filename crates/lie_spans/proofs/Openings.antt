-- A system for the components themselves gives a field exactly if its components solve the equations. Fields of degree at most d are those without other columns.
use Rattle.std.specs.Prelude.{◌≡◌, ℕ, zero, suc, ◌+◌, ◌<◌, ◌≤◌, ◌↔◌, true, false, eqb, ltb, ◌||◌, List, [], ◌∷◌, map, length, get_or, pos}
use Rattle.std.proofs.Common.{refl, sym, ap, subst, ◌∙◌, arith, ⊎_elim, true≢false, eq-eqb}
use Rattle.std.specs.List.{AllByRecursion as Every, range_with_len, list_any}
use Rattle.std.proofs.lemmas.Bool.{cases_lt, le-ltb}
use Rattle.std.proofs.lemmas.List.{get_or_past}
use Rattle.std.proofs.lemmas.List.FromFn.{get_or-map-range_with_len, length-map-range_with_len}
use Rattle.lie_math.specs.LinearForm.{LinearForm, no_form, unknown_form, apply}
use Rattle.lie_math.specs.LinearSystem.{Unknown, LinearSystem, has, Gives}
use Rattle.lie_math.specs.Monomial.{Monomial, degree}
use Rattle.lie_math.specs.Polynomial.{terms, 0ᴾ, constant, coefficient, ◌*ᴾ◌}
use Rattle.lie_math.specs.PolynomialRing.{polynomial_ring}
use Rattle.lie_math.specs.FiniteSumLaws.{value-none}
use Rattle.lie_math.specs.Variables.{IsIn}
use Rattle.lie_math.specs.VectorField.{VectorField, component}
use Rattle.lie_math.proofs.Integer.{not_zero, zero_or_not}
use Rattle.lie_math.proofs.LinearForm.{apply_none, apply_unknown}
use Rattle.lie_math.proofs.Ring.{times_nil}
use Rattle.lie_math.proofs.Weighing.{torsion}
use Rattle.lie_spans.specs.Fields.{Column, field_entry, IsFieldIn, IsFieldBasis}
use Rattle.lie_spans.specs.FieldRows.{field_of_row, IsWithinColumns}
use Rattle.lie_spans.specs.Conditions.{unknowns_of, condition_rows, HasAllMonomials, SolvesConditions}
use Rattle.lie_spans.specs.Openings.{SpeaksOf, IsOpening, HasDegreeAtMost, AreDegreeColumns}
use Rattle.lie_spans.specs.Solutions.{kernel_of}
use Rattle.lie_spans.proofs.FieldBasis.{field_basis_of_same}
use Rattle.lie_spans.proofs.ConditionRows.{conditions_are}
use Rattle.lie_math.proofs.EveryElement.{every-weaken, every_at}
use Rattle.lie_spans.proofs.Assignments.{apply-multiple}

element_at : {X : Type 0} (xs : List X) (s : ℕ) (d : X) → s < length xs → get_or xs s d ≡ get_or xs s (get_or xs s d)
element_at [] s d l = absurd (omega arith)
element_at (x ∷ xs) zero d l = refl
element_at (x ∷ xs) (suc s) d l = element_at xs s d (omega arith)

module _ (n : ℕ) (W : VectorField) (f : IsFieldIn n W) where
  -- the component s is a polynomial in the variables below n
  pub component_in : (s : ℕ) → IsIn (λ v. ltb v n) (component W s)
  component_in s = ⊎_elim
      (λ l. every_at (IsIn (λ v. ltb v n)) W.parts s (component W s) (omega (arith, f.size)) (element_at W.parts s 0ᴾ (omega (arith, f.size))) f.own)
      (λ l v e m c. absurd (c (ap (λ p. coefficient p m) (get_or_past W.parts s 0ᴾ (omega (arith, f.size))) ∙ value-none terms m)))
      (cases_lt s n)

  pub component_past : (s : ℕ) → n ≤ s → component W s ≡ 0ᴾ
  component_past s l = get_or_past W.parts s 0ᴾ (omega (arith, f.size))

  -- ---- the field that a system for its components gives
  module _ (S : LinearSystem) (h : IsOpening n S) where
    general_at : (s : ℕ) → s < n → get_or S.general s no_form ≡ unknown_form (suc s)
    general_at s l = ap (λ gs. get_or gs s no_form) h.general ∙ get_or-map-range_with_len (λ t. unknown_form (suc t)) 0 n s s no_form l (omega arith)

    general_past : (s : ℕ) → n ≤ s → get_or S.general s no_form ≡ no_form
    general_past s l = ap (λ gs. get_or gs s no_form) h.general ∙ get_or_past (map (λ t. unknown_form (suc t)) (range_with_len 0 n)) s no_form (omega (arith, length-map-range_with_len (λ t. unknown_form (suc t)) 0 n))

    solved : Gives S W → Every (λ E. apply (unknowns_of W) E ≡ 0ᴾ) S.equations
    solved g = each S.equations g.solves.solves h.equations
      where
        same : (s : ℕ) → s < n → constant (pos g.multiple) *ᴾ unknowns_of W (suc s) ≡ constant (pos W.denominator) *ᴾ g.solution (suc s)
        same s l = g.same s ∙ ap (λ E. constant (pos W.denominator) *ᴾ apply g.solution E) (general_at s l) ∙ ap (λ p. constant (pos W.denominator) *ᴾ p) (apply_unknown g.solution (suc s))

        one : (E : LinearForm) → apply g.solution E ≡ 0ᴾ → SpeaksOf n E → apply (unknowns_of W) E ≡ 0ᴾ
        one E z t =
            torsion (pos g.multiple) (not_zero g.multiple g.positive) (apply (unknowns_of W) E)
            (sym (apply-multiple (pos g.multiple) (unknowns_of W) E)
            ∙ t (λ u. constant (pos g.multiple) *ᴾ unknowns_of W u) (λ u. constant (pos W.denominator) *ᴾ g.solution u) same
            ∙ apply-multiple (pos W.denominator) g.solution E ∙ ap (λ p. constant (pos W.denominator) *ᴾ p) z ∙ times_nil polynomial_ring (constant (pos W.denominator)))

        each : (Es : List LinearForm) → Every (λ E. apply g.solution E ≡ 0ᴾ) Es → Every (SpeaksOf n) Es → Every (λ E. apply (unknowns_of W) E ≡ 0ᴾ) Es
        each [] a b = tt
        each (E ∷ Es) a b = (one E a.0 b.0, each Es a.1 b.1)

    given : Every (λ E. apply (unknowns_of W) E ≡ 0ᴾ) S.equations → Gives S W
    given z = record {
      solution = unknowns_of W;
      solves = record { own = subst (Every (λ (u : Unknown). IsIn (has u) (unknowns_of W u.number))) (sym h.unknowns) (owned (range_with_len 0 n)); solves = z };
      multiple = W.denominator;
      positive = f.positive;
      same = λ s. ap (λ p. constant (pos W.denominator) *ᴾ p) (⊎_elim
          (λ l. sym (ap (apply (unknowns_of W)) (general_at s l) ∙ apply_unknown (unknowns_of W) (suc s)))
          (λ l. component_past s l ∙ sym (ap (apply (unknowns_of W)) (general_past s l) ∙ apply_none (unknowns_of W)))
          (cases_lt s n));
    }
      where
        reached : (a m v : ℕ) → a ≤ v → v < a + m → list_any (eqb v) (range_with_len a m) ≡ true
        reached a zero v l k = absurd (omega arith)
        reached a (suc m) v l k =
            elim (eqb v a) as (λ b. eqb v a ≡ b → (b || list_any (eqb v) (range_with_len (a + 1) m)) ≡ true) [
              | true ↦ λ e. refl
              | false ↦ λ e. let q : ¬ (v ≡ a) = λ i. true≢false (sym (eq-eqb v a i) ∙ e) in reached (a + 1) m v (omega arith) (omega arith)
            ] refl

        owned : (ss : List ℕ) → Every (λ (u : Unknown). IsIn (has u) (unknowns_of W u.number)) (map (λ s. record { number = suc s; variables = range_with_len 0 n }) ss)
        owned [] = tt
        owned (s ∷ ss) = ((λ v e. component_in s v (outside v e)), owned ss)
          where
            outside : (v : ℕ) → list_any (eqb v) (range_with_len 0 n) ≡ false → ltb v n ≡ false
            outside v e = ⊎_elim (λ l. absurd (true≢false (sym (reached 0 n v (omega arith) (omega arith)) ∙ e))) (λ l. le-ltb v n l) (cases_lt v n)

    pub opening_gives : Gives S W ↔ Every (λ E. apply (unknowns_of W) E ≡ 0ᴾ) S.equations
    opening_gives = (solved, given)

  -- ---- degrees
  pub within_degree : (d : ℕ) (ks : List Column) → AreDegreeColumns n d ks → IsWithinColumns ks W ↔ HasDegreeAtMost d W
  within_degree d ks h = (
    λ w k l. w k (every-weaken (λ c. degree c.1 ≤ d) (λ c. ¬ (c ≡ k)) (λ c m e. let q : degree c.1 ≡ degree k.1 = ap (λ (x : Column). degree x.1) e in omega arith) ks h.degrees),
    λ t k m. ⊎_elim (λ z. z) (λ c. absurd (h.all k (inside k c) (λ v l. component_in k.0 v (grind arith) k.1 c) (low k t c) m)) (zero_or_not (field_entry W k)),
  )
    where
      inside : (k : Column) → ¬ (field_entry W k ≡ pos 0) → k.0 < n
      inside k c = ⊎_elim (λ l. l) (λ l. absurd (c (ap (λ p. coefficient p k.1) (component_past k.0 l) ∙ value-none terms k.1))) (cases_lt k.0 n)

      low : (k : Column) → HasDegreeAtMost d W → ¬ (field_entry W k ≡ pos 0) → degree k.1 ≤ d
      low k t c = ⊎_elim (λ l. absurd (c (t k l))) (λ l. l) (cases_lt d (degree k.1))

-- ---- the reduced basis up to a degree
equations_of : (cs : List (LinearForm × List Monomial)) (P : LinearForm → Type 0) → Every (λ c. P c.0) cs ↔ Every P (map (λ c. c.0) cs)
equations_of [] P = (λ h. h, λ h. h)
equations_of (c ∷ cs) P = (λ h. (h.0, (equations_of cs P).0 h.1), λ h. (h.0, (equations_of cs P).1 h.1))

pub degree_basis_is : (n d : ℕ) (S : LinearSystem) → IsOpening n S → (ks : List Column) → AreDegreeColumns n d ks → (cs : List (LinearForm × List Monomial)) → map (λ c. c.0) cs ≡ S.equations → Every (HasAllMonomials ks) cs
    → IsFieldBasis n (λ W. Gives S W × HasDegreeAtMost d W) (map (field_of_row n ks) (kernel_of (length ks) (condition_rows ks cs)))
degree_basis_is n d S h ks k cs e a =
    field_basis_of_same n (λ W. IsWithinColumns ks W × SolvesConditions cs W) (λ W. Gives S W × HasDegreeAtMost d W) (map (field_of_row n ks) (kernel_of (length ks) (condition_rows ks cs)))
    (λ W f. (
      λ s. ((opening_gives n W f S h).1 (subst (Every (λ E. apply (unknowns_of W) E ≡ 0ᴾ)) e ((equations_of cs (λ E. apply (unknowns_of W) E ≡ 0ᴾ)).0 s.1)), (within_degree n W f d ks k).0 s.0),
      λ g. ((within_degree n W f d ks k).1 g.1, (equations_of cs (λ E. apply (unknowns_of W) E ≡ 0ᴾ)).1 (subst (Every (λ E. apply (unknowns_of W) E ≡ 0ᴾ)) (sym e) ((opening_gives n W f S h).0 g.0))),
    )) (conditions_are n ks k.columns cs a)
