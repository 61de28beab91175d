-- Vector fields: their components, fields that are the same, and the fields that the determining system gives.
use Rattle.std.specs.Prelude.{◌≡◌, ℕ, zero, suc, ◌+◌, ◌*◌, ◌<◌, ◌≤◌, Bool, true, false, cond, List, [], ◌∷◌, ◌↔◌, length, ltb, eqb, get_or, All, slice_index_or, pos, negsuc}
use Rattle.std.specs.List.{AllByRecursion as Every, list_any, range_with_len}
use Rattle.std.proofs.Common.{refl, sym, ap, subst, ◌∙◌, arith, ltb-true, ltb-false, lt-ltb, eq-eqb}
use Rattle.std.proofs.lemmas.Bool.{ne_eqb}
use Rattle.std.proofs.lemmas.List.{get_or_past}
use Rattle.std.proofs.lemmas.List.Folds.{list_any_at, list_any_none}
use Rattle.std.proofs.lemmas.List.FromFn.{get_or-range_with_len, length-range_with_len, get_or-map-range_with_len, length-map-range_with_len}
use Rattle.lie_math.specs.Derivation.{sum_of, numbers_below, bound, derivation}
use Rattle.lie_math.specs.LinearForm.{LinearForm, no_form, apply}
use Rattle.lie_math.specs.LinearSystem.{Unknown, has, LinearSystem, Gives}
use Rattle.lie_math.specs.Monomial.{Monomial}
use Rattle.lie_math.specs.PartialDerivative.{partial}
use Rattle.lie_math.specs.Polynomial.{WholePolynomial, 0ᴾ, ◌*ᴾ◌, constant}
use Rattle.lie_math.specs.Variables.{IsIn}
use Rattle.lie_math.specs.VectorField.{VectorField, component, IsSameField}
use Rattle.lie_math.proofs.Integer.{not_zero}
use Rattle.lie_math.proofs.LinearForm.{apply_none}
use Rattle.lie_math.proofs.Variables.{in-+ᴾ, in-*ᴾ, in-constant, in-0ᴾ, in-partial}
use Rattle.lie_geometry.specs.Commutator.{commutator_component, commutator}
use Rattle.lie_geometry.specs.Coordinates.{Space}
use Rattle.lie_geometry.specs.DeterminingEquations.{determining_equation, IsDetermining, determining_system}
use Rattle.lie_geometry.specs.Invariance.{IsInvariant, IsFieldOn}
use Rattle.lie_geometry.specs.Prolongation.{is_in_z, InZ}
use Rattle.lie_geometry.specs.SolvedEquations.{SolvedEquation, IsSolved, HaveHighLeads, reduced}
use Rattle.lie_geometry.specs.SymbolicProlongation.{unknown, field_of}
use Rattle.lie_geometry.proofs.Commutators.{commutator_invariant}
use Rattle.lie_geometry.proofs.DeterminingEquations.{determining_is}
use Rattle.lie_geometry.proofs.DeterminingLists.{listed_says}
use Rattle.lie_geometry.proofs.Ideals.{distinct_leads}
use Rattle.lie_geometry.proofs.Multiples.{applied_same, invariant_multiple}
use Rattle.lie_geometry.proofs.SymbolicProlongation.{apply_component}
use Rattle.lie_geometry.proofs.Unknowns.{apply_same, IsComponent, mentions_determining}

-- ---- lists
all_every : {X : Type 0} (P : X → Type 0) (xs : List X) → All P xs → Every P xs
all_every P [] h = tt
all_every P (x ∷ xs) h = (h 0 x (omega arith), all_every P xs (λ k d g. h (suc k) d (next g)))
  where
    next : {k : ℕ} → k < length xs → suc k < length (x ∷ xs)
    next g = omega arith

every_all : {X : Type 0} (P : X → Type 0) (xs : List X) → Every P xs → All P xs
every_all P [] h k d g = absurd (omega arith)
every_all P (x ∷ xs) h zero d g = h.0
every_all P (x ∷ xs) h (suc k) d g = every_all P xs h.1 k d (less g)
  where
    less : suc k < length (x ∷ xs) → k < length xs
    less g = omega arith

-- the numbers below n
range_has : (n v : ℕ) → list_any (eqb v) (range_with_len 0 n) ≡ ltb v n
range_has n v = go (ltb v n) refl
  where
    plain : (v : ℕ) → 0 + v ≡ v
    plain v = omega arith

    go : (t : Bool) → ltb v n ≡ t → list_any (eqb v) (range_with_len 0 n) ≡ t
    go true e = list_any_at (eqb v) (range_with_len 0 n) v 0 (subst (λ m. v < m) (sym (length-range_with_len 0 n)) (ltb-true v n e)) (eq-eqb v _ (sym (get_or-range_with_len 0 n v 0 (ltb-true v n e) ∙ plain v)))
    go false e = list_any_none (eqb v) (range_with_len 0 n) (λ k d g. ne_eqb v _ (apart k d (ltb-false v n e) (subst (λ m. k < m) (length-range_with_len 0 n) g)))
      where
        differ : (k : ℕ) → n ≤ v → k < n → v ≡ 0 + k → ⊥
        differ k f h q = omega arith

        apart : (k d : ℕ) → n ≤ v → k < n → v ≡ get_or (range_with_len 0 n) k d → ⊥
        apart k d f h q = differ k f h (q ∙ get_or-range_with_len 0 n k d h)

-- ---- components
pub component_past : (V : VectorField) (s : ℕ) → length V.parts ≤ s → component V s ≡ 0ᴾ
component_past V s h = get_or_past V.parts s 0ᴾ h

module _ (S : Space) where
  pub component_in_z : (V : VectorField) → All (InZ S) V.parts → (s : ℕ) → InZ S (component V s)
  component_in_z V h s = go (ltb s (length V.parts)) refl
    where
      go : (t : Bool) → ltb s (length V.parts) ≡ t → InZ S (component V s)
      go true e = h s 0ᴾ (ltb-true s (length V.parts) e)
      go false e = subst (InZ S) (sym (component_past V s (ltb-false s (length V.parts) e))) (in-0ᴾ (is_in_z S))

  -- ---- fields that are the same
  module _ (some_p : 0 < S.p) (some_q : 0 < S.q) (rs : List SolvedEquation) (solved : IsSolved rs) where
    pub same_field_invariant : (V W : VectorField) → 0 < V.denominator → 0 < W.denominator → IsSameField V W → IsInvariant S rs V → IsInvariant S rs W
    same_field_invariant V W v w same h =
        invariant_multiple S some_p some_q rs solved.factors (distinct_leads rs solved.leads) solved.rights (pos W.denominator) (pos V.denominator)
        (not_zero W.denominator w) (not_zero V.denominator v) (component V) (component W) (λ s g. same s) h

    -- ---- the commutator
    pub commutator_is_at : (V W : VectorField) (s : ℕ) → s < S.p + S.q → component (commutator S V W) s ≡ commutator_component (component V) (component W) s
    commutator_is_at V W s h = get_or-map-range_with_len (commutator_component (component V) (component W)) 0 (S.p + S.q) s s 0ᴾ h (plain s)
      where
        plain : (s : ℕ) → 0 + s ≡ s
        plain s = omega arith

    pub commutator_field_invariant : (V W : VectorField) → IsFieldOn S V → IsFieldOn S W → IsInvariant S rs V → IsInvariant S rs W → IsInvariant S rs (commutator S V W)
    commutator_field_invariant V W v w h g k d f =
        ap (reduced rs) (applied_same S some_p some_q (component (commutator S V W)) (commutator_component (component V) (component W)) (commutator_is_at V W) rs (slice_index_or rs k d))
        ∙ commutator_invariant S some_p some_q (component V) (component W) (component_in_z V v.in_z) (component_in_z W w.in_z) rs solved.factors (distinct_leads rs solved.leads) solved.rights h g k d f

  sum_in_z : (n : ℕ) (f : ℕ → WholePolynomial) → ((i : ℕ) → InZ S (f i)) → InZ S (sum_of (numbers_below n) f)
  sum_in_z zero f h = in-0ᴾ (is_in_z S)
  sum_in_z (suc n) f h = in-+ᴾ (is_in_z S) (f n) (sum_of (numbers_below n) f) (h n) (sum_in_z n f h)

  along_in_z : (V : ℕ → WholePolynomial) (f : WholePolynomial) → ((s : ℕ) → InZ S (V s)) → InZ S f → InZ S (derivation V f)
  unfolding derivation
  along_in_z V f h g = sum_in_z (bound f) _ (λ t. in-*ᴾ (is_in_z S) (V t) (partial t f) (h t) (in-partial (is_in_z S) t f g))

  pub commutator_is_field : (V W : VectorField) → IsFieldOn S V → IsFieldOn S W → IsFieldOn S (commutator S V W)
  commutator_is_field V W v w = record {
    positive = product V.denominator W.denominator v.positive w.positive;
    size = length-map-range_with_len (commutator_component (component V) (component W)) 0 (S.p + S.q);
    in_z = λ k d g. subst (InZ S) (sym (get_or-map-range_with_len (commutator_component (component V) (component W)) 0 (S.p + S.q) k k d (subst (λ m. k < m) (length-map-range_with_len (commutator_component (component V) (component W)) 0 (S.p + S.q)) g) (plain k))) (each k);
  }
    where
      plain : (k : ℕ) → 0 + k ≡ k
      plain k = omega arith

      product : (a b : ℕ) → 0 < a → 0 < b → 0 < a * b
      product zero b h g = absurd (omega arith)
      product (suc a) b h g = omega arith

      v_in : (s : ℕ) → InZ S (component V s)
      v_in = component_in_z V v.in_z

      w_in : (s : ℕ) → InZ S (component W s)
      w_in = component_in_z W w.in_z

      each : (k : ℕ) → InZ S (commutator_component (component V) (component W) k)
      each k = in-+ᴾ (is_in_z S) _ _ (along_in_z (component V) (component W k) v_in (w_in k)) (in-*ᴾ (is_in_z S) (constant (negsuc 0)) _ (in-constant (is_in_z S) (negsuc 0)) (along_in_z (component W) (component V k) w_in (v_in k)))

  -- ---- the determining system
  module _ (some_p : 0 < S.p) (some_q : 0 < S.q) (rs : List SolvedEquation) (solved : IsSolved rs) (high : HaveHighLeads S rs) (es : List LinearForm) (is : IsDetermining S rs es) (V : VectorField) (on : IsFieldOn S V) where
    abbrev n : ℕ
    n = S.p + S.q

    abbrev system : LinearSystem
    system = determining_system S es

    abbrev unknown_at : ℕ → Unknown
    unknown_at s = record { number = suc s; variables = range_with_len 0 n }

    plain : (s : ℕ) → 0 + s ≡ s
    plain s = omega arith

    general_says : (F : ℕ → WholePolynomial) (s : ℕ) → s < n → apply F (get_or system.general s no_form) ≡ F (suc s)
    general_says F s h = ap (apply F) (get_or-map-range_with_len unknown 0 n s s no_form h (plain s)) ∙ apply_component F s

    in_own : (p : WholePolynomial) → InZ S p → IsIn (λ v. list_any (eqb v) (range_with_len 0 n)) p
    in_own p h v e = h v (sym (range_has n v) ∙ e)

    of_own : (p : WholePolynomial) → IsIn (λ v. list_any (eqb v) (range_with_len 0 n)) p → InZ S p
    of_own p h v e = h v (range_has n v ∙ e)

    -- an invariant field is given: its components are put in
    abbrev put : ℕ → WholePolynomial
    put zero = 0ᴾ
    put (suc s) = component V s

    put_in_z : (m : ℕ) → InZ S (put m)
    put_in_z zero = in-0ᴾ (is_in_z S)
    put_in_z (suc s) = component_in_z V on.in_z s

    Own : (ℕ → WholePolynomial) → Unknown → Type 0
    Own F f = IsIn (has f) (F f.number)

    put_same : (s : ℕ) → constant (pos V.denominator) *ᴾ component V s ≡ constant (pos V.denominator) *ᴾ apply put (get_or system.general s no_form)
    put_same s = ap (λ z. constant (pos V.denominator) *ᴾ z) (go (ltb s n) refl)
      where
        go : (t : Bool) → ltb s n ≡ t → component V s ≡ apply put (get_or system.general s no_form)
        go true e = sym (general_says put s (ltb-true s n e))
        go false e =
            component_past V s (subst (λ m. m ≤ s) (sym on.size) (ltb-false s n e))
            ∙ sym (ap (apply put) (get_or_past system.general s no_form (subst (λ m. m ≤ s) (sym (length-map-range_with_len unknown 0 n)) (ltb-false s n e))) ∙ apply_none put)

    invariant_given : IsInvariant S rs V → Gives system V
    unfolding Own
    invariant_given h = record {
      solution = put;
      solves = record {
        own = all_every (Own put) system.unknowns (λ k d g. subst (Own put) (sym (get_or-map-range_with_len unknown_at 0 n k k d (subst (λ m. k < m) (length-map-range_with_len unknown_at 0 n) g) (plain k))) (in_own (put (suc k)) (put_in_z (suc k))));
        solves = all_every (λ E. apply put E ≡ 0ᴾ) es ((listed_says S rs es put is).1 ((determining_is S some_p some_q rs high solved.factors put put_in_z).1 h));
      };
      multiple = V.denominator;
      positive = on.positive;
      same = put_same;
    }

    -- a field that is given is invariant: the solution is cut off at the unknowns of the system
    module _ (g : Gives system V) where
      abbrev cut : ℕ → WholePolynomial
      cut zero = 0ᴾ
      cut (suc s) = cond (ltb s n) (g.solution (suc s)) 0ᴾ

      solution_in_z : (s : ℕ) → s < n → InZ S (g.solution (suc s))
      unfolding Own
      solution_in_z s h =
          of_own (g.solution (suc s)) (subst (Own g.solution) (get_or-map-range_with_len unknown_at 0 n s s (unknown_at 0) h (plain s))
          (every_all (Own g.solution) system.unknowns (g.solves).own s (unknown_at 0) (subst (λ m. s < m) (sym (length-map-range_with_len unknown_at 0 n)) h)))

      cut_in_z : (m : ℕ) → InZ S (cut m)
      cut_in_z zero = in-0ᴾ (is_in_z S)
      cut_in_z (suc s) = go (ltb s n) refl
        where
          go : (t : Bool) → ltb s n ≡ t → InZ S (cond t (g.solution (suc s)) 0ᴾ)
          go true e = solution_in_z s (ltb-true s n e)
          go false e = in-0ᴾ (is_in_z S)

      cut_at : (s : ℕ) → s < n → cut (suc s) ≡ g.solution (suc s)
      cut_at s h = ap (λ t. cond t (g.solution (suc s)) 0ᴾ) (lt-ltb s n h)

      cut_same : (m : ℕ) → IsComponent S some_p some_q m → cut m ≡ g.solution m
      cut_same m h = ap cut h.2 ∙ cut_at h.0 h.1 ∙ ap g.solution (sym h.2)

      cut_solves : All (λ r. (μ : Monomial) → apply cut (determining_equation S rs r μ) ≡ 0ᴾ) rs
      cut_solves k d f μ =
          apply_same (IsComponent S some_p some_q) cut g.solution cut_same (determining_equation S rs (slice_index_or rs k d) μ) (mentions_determining S some_p some_q rs (slice_index_or rs k d) μ)
          ∙ (listed_says S rs es g.solution is).0 (every_all (λ E. apply g.solution E ≡ 0ᴾ) es (g.solves).solves) k d f μ

      multiples : (s : ℕ) → s < n → constant (pos V.denominator) *ᴾ cut (suc s) ≡ constant (pos g.multiple) *ᴾ component V s
      multiples s h =
          ap (λ z. constant (pos V.denominator) *ᴾ z) (cut_at s h ∙ sym (general_says g.solution s h)) ∙ sym (g.same s)

      given_invariant : IsInvariant S rs V
      given_invariant =
          invariant_multiple S some_p some_q rs solved.factors (distinct_leads rs solved.leads) solved.rights (pos V.denominator) (pos g.multiple)
          (not_zero V.denominator on.positive) (not_zero g.multiple g.positive)
          (field_of cut) (component V) multiples ((determining_is S some_p some_q rs high solved.factors cut cut_in_z).0 cut_solves)

    -- a field is invariant exactly if the determining system gives it
    pub invariant_is_given : IsInvariant S rs V ↔ Gives system V
    invariant_is_given = (invariant_given, given_invariant)
