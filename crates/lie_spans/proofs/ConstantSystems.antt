-- A system without equations whose unknowns are constants gives the combinations of the fields of its unknowns.
use Rattle.std.specs.Prelude.{◌≡◌, ℕ, zero, suc, ◌⊎◌, true, false, T, cond, eqb, List, [], ◌∷◌, map, length, get_or, ℤ, pos}
use Rattle.std.proofs.Common.{refl, sym, ap, ap₂, subst, ◌∙◌, arith, ⊎_elim, inl, inr, true≢false, eqb→eq, eq-eqb, is_eq}
use Rattle.std.specs.List.{AllByRecursion as Every, list_any}
use Rattle.std.specs.Ordering.{eq_by_cmp}
use Rattle.std.specs.Cmp.{tied_itself}
use Rattle.std.proofs.lemmas.Bool.{cases_lt}
use Rattle.std.proofs.lemmas.List.{get_or_past, get_or-map, length-map}
use Rattle.lie_math.specs.Counts.{Derivative, derivative_cmp, derived}
use Rattle.lie_math.specs.DerivativeOrder.{derivative_cmp_total}
use Rattle.lie_math.specs.FiniteSum as finite
use Rattle.lie_math.specs.FiniteSumLaws as finite_laws
use Rattle.lie_math.specs.FiniteSumLaws.{ext, value-none, value-plus, value-term, sum_of_terms}
use Rattle.lie_math.specs.Canonical.{sum_of_entries-map}
use Rattle.lie_math.specs.LinearForm.{LinearForm, forms, no_form, ◌+ᶠ◌, form_term, apply}
use Rattle.lie_math.specs.LinearSystem.{Unknown, LinearSystem, has, Gives}
use Rattle.lie_math.specs.Monomial.{Monomial, powers, unit, exponent}
use Rattle.lie_math.specs.Polynomial.{WholePolynomial, terms, polynomials, 0ᴾ, constant, coefficient, ◌+ᴾ◌, ◌*ᴾ◌}
use Rattle.lie_math.specs.PolynomialRing.{*ᴾ_comm, 0ᴾ-*ᴾ, +ᴾ-*ᴾ}
use Rattle.lie_math.specs.Variables.{IsIn}
use Rattle.lie_math.specs.VectorField.{VectorField, component}
use Rattle.lie_math.specs.Canonical.{middle}
use Rattle.lie_math.proofs.FiniteSum.{key, sum_of_entries-same}
use Rattle.lie_math.proofs.Variables.{in-constant}
use Rattle.lie_math.proofs.Integer.{zero_or_not}
use Rattle.lie_spans.specs.Spans.{EveryTwo}
use Rattle.lie_spans.specs.Elimination.{basis_of}
use Rattle.lie_spans.specs.Fields.{Column, field_sum, IsCombination, IsFieldBasis}
use Rattle.lie_spans.specs.FieldRows.{AreColumns, field_of_row, row_of_field, IsWithinColumns}
use Rattle.lie_spans.specs.ConstantSystems.{unknown_itself, IsListedUnknown, IsConstantSystem, unknown_field, unknown_fields}
use Rattle.lie_math.proofs.EveryElement.{every-weaken}
use Rattle.lie_spans.proofs.FieldBasis.{field_basis_of_same}
use Rattle.lie_spans.proofs.FieldsOfBasis.{basis_of_fields}

-- ---- what a form says of functions, unknown by unknown
abbrev unknown_sum : (ℕ → WholePolynomial) → List Unknown → LinearForm → WholePolynomial
unknown_sum F [] E = 0ᴾ
unknown_sum F (f ∷ fs) E = finite.value forms E (unknown_itself f) *ᴾ F f.number +ᴾ unknown_sum F fs E

module _ (F : ℕ → WholePolynomial) where
  unknown_sum-none : (fs : List Unknown) → unknown_sum F fs no_form ≡ 0ᴾ
  unknown_sum-none [] = refl
  unknown_sum-none (f ∷ fs) = ap₂ ◌+ᴾ◌ (ap (λ p. p *ᴾ F f.number) (value-none forms (unknown_itself f)) ∙ 0ᴾ-*ᴾ (F f.number)) (unknown_sum-none fs) ∙ polynomials.idl 0ᴾ

  unknown_sum-plus : (fs : List Unknown) (E G : LinearForm) → unknown_sum F fs (E +ᶠ G) ≡ unknown_sum F fs E +ᴾ unknown_sum F fs G
  unknown_sum-plus [] E G = sym (polynomials.idl 0ᴾ)
  unknown_sum-plus (f ∷ fs) E G =
      ap₂ ◌+ᴾ◌ (ap (λ p. p *ᴾ F f.number) (value-plus forms E G (unknown_itself f)) ∙ +ᴾ-*ᴾ (finite.value forms E (unknown_itself f)) (finite.value forms G (unknown_itself f)) (F f.number)) (unknown_sum-plus fs E G)
      ∙ middle polynomials (finite.value forms E (unknown_itself f) *ᴾ F f.number) (finite.value forms G (unknown_itself f) *ᴾ F f.number) (unknown_sum F fs E) (unknown_sum F fs G)

  other_test : (f : Unknown) (d : Derivative) → ¬ (f.number ≡ d.unknown) → eq_by_cmp derivative_cmp (unknown_itself f) d ≡ false
  other_test f d n = elim (eq_by_cmp derivative_cmp (unknown_itself f) d) as (λ t. eq_by_cmp derivative_cmp (unknown_itself f) d ≡ t → t ≡ false) [
    | true ↦ λ e. absurd (n (ap (λ (x : Derivative). x.unknown) (key forms (unknown_itself f) d e)))
    | false ↦ λ e. refl
  ] refl

  value-other : (f : Unknown) (d : Derivative) (a : WholePolynomial) → ¬ (f.number ≡ d.unknown) → finite.value forms (form_term d a) (unknown_itself f) ≡ 0ᴾ
  value-other f d a n = value-term forms d a (unknown_itself f) ∙ ap (λ t. cond t a 0ᴾ) (other_test f d n)

  unknown_sum-others : (fs : List Unknown) (d : Derivative) (a : WholePolynomial) → Every (λ (f : Unknown). ¬ (f.number ≡ d.unknown)) fs → unknown_sum F fs (form_term d a) ≡ 0ᴾ
  unknown_sum-others [] d a h = refl
  unknown_sum-others (f ∷ fs) d a h = ap₂ ◌+ᴾ◌ (ap (λ p. p *ᴾ F f.number) (value-other f d a h.0) ∙ 0ᴾ-*ᴾ (F f.number)) (unknown_sum-others fs d a h.1) ∙ polynomials.idl 0ᴾ

  number_or_not : (a b : ℕ) → (a ≡ b) ⊎ ¬ (a ≡ b)
  number_or_not a b = elim (eqb a b) as (λ t. eqb a b ≡ t → (a ≡ b) ⊎ ¬ (a ≡ b)) [
    | true ↦ λ e. inl (eqb→eq a b (subst T (sym e) tt))
    | false ↦ λ e. inr (λ q. true≢false (sym (eq-eqb a b q) ∙ e))
  ] refl

  unknown_sum-term : (fs : List Unknown) (d : Derivative) (a : WholePolynomial) → EveryTwo (λ (f g : Unknown). ¬ (f.number ≡ g.number)) fs → IsListedUnknown fs d → unknown_sum F fs (form_term d a) ≡ a *ᴾ derived F d
  unknown_sum-term [] d a t h = absurd (h.1 tt)
  unknown_sum-term (f ∷ fs) d a t h = ⊎_elim
      (λ e. ap₂ ◌+ᴾ◌
      (ap (λ p. p *ᴾ F f.number) (value-term forms d a (unknown_itself f) ∙ ap (λ b. cond b a 0ᴾ) (ap (λ x. eq_by_cmp derivative_cmp x d) (same e) ∙ ap is_eq (tied_itself derivative_cmp_total d))) ∙ ap (λ p. a *ᴾ p) (said e))
      (unknown_sum-others fs d a (every-weaken (λ (g : Unknown). ¬ (f.number ≡ g.number)) (λ (g : Unknown). ¬ (g.number ≡ d.unknown)) (λ g n q. n (e ∙ sym q)) fs t.0))
      ∙ polynomials.comm (a *ᴾ derived F d) 0ᴾ ∙ polynomials.idl (a *ᴾ derived F d))
      (λ n. ap₂ ◌+ᴾ◌ (ap (λ p. p *ᴾ F f.number) (value-other f d a n) ∙ 0ᴾ-*ᴾ (F f.number)) (unknown_sum-term fs d a t.1 (h.0, λ q. h.1 (n, q))) ∙ polynomials.idl (a *ᴾ derived F d))
      (number_or_not f.number d.unknown)
    where
      same : f.number ≡ d.unknown → unknown_itself f ≡ d
      same e = λ i. record { unknown = e i; counts = sym h.0 i }

      said : f.number ≡ d.unknown → F f.number ≡ derived F d
      said e = ap (derived F) (same e)

  -- the sum over the unknowns is what the form says
  unknown_sum-apply : (fs : List Unknown) (E : LinearForm) → EveryTwo (λ (f g : Unknown). ¬ (f.number ≡ g.number)) fs → Every (λ (e : Derivative × WholePolynomial). IsListedUnknown fs e.0) E.list → unknown_sum F fs E ≡ apply F E
  unfolding apply
  unknown_sum-apply fs E t h =
      ap (unknown_sum F fs) (sym (sum_of_terms forms E))
      ∙ sum_of_entries-map (finite_laws.adder forms) polynomials (unknown_sum F fs) (unknown_sum-none fs) (unknown_sum-plus fs) (λ d a. form_term d a) E.list
      ∙ sum_of_entries-same polynomials (λ d a. unknown_sum F fs (form_term d a)) (λ d a. a *ᴾ derived F d) E.list
      (every-weaken (λ (e : Derivative × WholePolynomial). IsListedUnknown fs e.0) (λ (e : Derivative × WholePolynomial). unknown_sum F fs (form_term e.0 e.1) ≡ e.1 *ᴾ derived F e.0) (λ e l. unknown_sum-term fs e.0 e.1 t l) E.list h)

-- ---- functions that are these constants
abbrev Agrees : (ℕ → WholePolynomial) → (ℕ → ℤ) → List Unknown → Type 0
Agrees F c [] = Unit {0}
Agrees F c (f ∷ fs) = (F f.number ≡ constant (c 0)) × Agrees F (λ i. c (suc i)) fs

agrees_same : (F G : ℕ → WholePolynomial) (c : ℕ → ℤ) (fs : List Unknown) → Every (λ (f : Unknown). F f.number ≡ G f.number) fs → Agrees G c fs → Agrees F c fs
agrees_same F G c [] e a = tt
agrees_same F G c (f ∷ fs) e a = (e.0 ∙ a.0, agrees_same F G (λ i. c (suc i)) fs e.1 a.1)

abbrev assigned : (ℕ → ℤ) → List Unknown → ℕ → WholePolynomial
assigned c [] u = 0ᴾ
assigned c (f ∷ fs) u = cond (eqb f.number u) (constant (c 0)) (assigned (λ i. c (suc i)) fs u)

assigned_agrees : (c : ℕ → ℤ) (fs : List Unknown) → EveryTwo (λ (f g : Unknown). ¬ (f.number ≡ g.number)) fs → Agrees (assigned c fs) c fs
assigned_agrees c [] t = tt
assigned_agrees c (f ∷ fs) t = (
  ap (λ b. cond b (constant (c 0)) (assigned (λ i. c (suc i)) fs f.number)) (eq-eqb f.number f.number refl),
  agrees_same (assigned c (f ∷ fs)) (assigned (λ i. c (suc i)) fs) (λ i. c (suc i)) fs
      (every-weaken (λ (g : Unknown). ¬ (f.number ≡ g.number)) (λ (g : Unknown). assigned c (f ∷ fs) g.number ≡ assigned (λ i. c (suc i)) fs g.number)
      (λ g n. ap (λ b. cond b (constant (c 0)) (assigned (λ i. c (suc i)) fs g.number)) (apart f.number g.number n)) fs t.0)
      (assigned_agrees (λ i. c (suc i)) fs t.1),
)
  where
    apart : (a b : ℕ) → ¬ (a ≡ b) → eqb a b ≡ false
    apart a b n = elim (eqb a b) as (λ t. eqb a b ≡ t → t ≡ false) [ true ↦ λ e. absurd (n (eqb→eq a b (subst T (sym e) tt))) | false ↦ λ e. refl ] refl

agrees_own : (F : ℕ → WholePolynomial) (c : ℕ → ℤ) (fs : List Unknown) → Agrees F c fs → Every (λ (f : Unknown). IsIn (has f) (F f.number)) fs
agrees_own F c [] a = tt
agrees_own F c (f ∷ fs) a = (subst (IsIn (has f)) (sym a.0) (in-constant (has f) (c 0)), agrees_own F (λ i. c (suc i)) fs a.1)

-- a polynomial without variables is its constant term
pub no_variables : (p : WholePolynomial) → ((v : ℕ) (m : Monomial) → ¬ (coefficient p m ≡ pos 0) → exponent m v ≡ 0) → p ≡ constant (coefficient p unit)
no_variables p h = ext terms p (constant (coefficient p unit)) (λ m. ⊎_elim
    (λ z. z ∙ sym (value-term terms unit (coefficient p unit) m ∙ ⊎_elim
    (λ e. ap (λ t. cond t (coefficient p unit) (pos 0)) (true_of m e) ∙ ap (coefficient p) (sym e) ∙ z)
    (λ n. ap (λ t. cond t (coefficient p unit) (pos 0)) n)
    (unit_or_not m)))
    (λ c. let e : m ≡ unit = ext powers m unit (λ v. h v m c ∙ sym (value-none powers v)) in
    ap (coefficient p) e ∙ sym (value-term terms unit (coefficient p unit) m ∙ ap (λ t. cond t (coefficient p unit) (pos 0)) (true_of m e)))
    (zero_or_not (coefficient p m)))
  where
    true_of : (m : Monomial) → m ≡ unit → eq_by_cmp terms.order m unit ≡ true
    true_of m e = ap (λ x. eq_by_cmp terms.order x unit) e ∙ ap is_eq (tied_itself terms.total unit)

    unit_or_not : (m : Monomial) → (m ≡ unit) ⊎ (eq_by_cmp terms.order m unit ≡ false)
    unit_or_not m = elim (eq_by_cmp terms.order m unit) as (λ t. eq_by_cmp terms.order m unit ≡ t → (m ≡ unit) ⊎ (t ≡ false)) [ true ↦ λ e. inl (key terms m unit e) | false ↦ λ e. inr refl ] refl

abbrev numbers_of : (ℕ → WholePolynomial) → List Unknown → ℕ → ℤ
numbers_of F [] i = pos 0
numbers_of F (f ∷ fs) zero = coefficient (F f.number) unit
numbers_of F (f ∷ fs) (suc i) = numbers_of F fs i

numbers_agree : (F : ℕ → WholePolynomial) (fs : List Unknown) → Every (λ (f : Unknown). f.variables ≡ []) fs → Every (λ (f : Unknown). IsIn (has f) (F f.number)) fs → Agrees F (numbers_of F fs) fs
numbers_agree F [] v o = tt
numbers_agree F (f ∷ fs) v o = (no_variables (F f.number) (λ w m c. o.0 w (ap (list_any (eqb w)) v.0) m c), numbers_agree F fs v.1 o.1)

nothing_listed : (P : Derivative × WholePolynomial → Type 0) → Every P no_form.list
unfolding finite.none finite.of
nothing_listed P = tt

module _ (S : LinearSystem) (h : IsConstantSystem S) where
  part_of : (f : Unknown) (s : ℕ) → component (unknown_field S f) s ≡ finite.value forms (get_or S.general s no_form) (unknown_itself f)
  part_of f s = ⊎_elim
      (λ l. get_or-map (λ E. finite.value forms E (unknown_itself f)) S.general s no_form 0ᴾ l)
      (λ l. get_or_past (map (λ E. finite.value forms E (unknown_itself f)) S.general) s 0ᴾ (omega (arith, length-map S.general (λ E. finite.value forms E (unknown_itself f))))
      ∙ sym (ap (λ E. finite.value forms E (unknown_itself f)) (get_or_past S.general s no_form l) ∙ value-none forms (unknown_itself f)))
      (cases_lt s (length S.general))

  sum_agreeing : (F : ℕ → WholePolynomial) (c : ℕ → ℤ) (fs : List Unknown) (s : ℕ) → Agrees F c fs → unknown_sum F fs (get_or S.general s no_form) ≡ field_sum c (map (unknown_field S) fs) s
  sum_agreeing F c [] s a = refl
  sum_agreeing F c (f ∷ fs) s a =
      ap₂ ◌+ᴾ◌ (ap₂ ◌*ᴾ◌ (sym (part_of f s)) a.0 ∙ *ᴾ_comm (component (unknown_field S f) s) (constant (c 0))) (sum_agreeing F (λ i. c (suc i)) fs s a.1)

  element_of : (Es : List LinearForm) (P : LinearForm → Type 0) → Every P Es → P no_form → (s : ℕ) → P (get_or Es s no_form)
  element_of [] P a z s = z
  element_of (E ∷ Es) P a z zero = a.0
  element_of (E ∷ Es) P a z (suc s) = element_of Es P a.1 z s

  said_is : (F : ℕ → WholePolynomial) (s : ℕ) → apply F (get_or S.general s no_form) ≡ unknown_sum F S.unknowns (get_or S.general s no_form)
  said_is F s = element_of S.general (λ E. apply F E ≡ unknown_sum F S.unknowns E)
      (every-weaken (λ E. Every (λ (e : Derivative × WholePolynomial). IsListedUnknown S.unknowns e.0) E.list) (λ E. apply F E ≡ unknown_sum F S.unknowns E) (λ E l. sym (unknown_sum-apply F S.unknowns E h.distinct l)) S.general h.listed)
      (sym (unknown_sum-apply F S.unknowns no_form h.distinct (nothing_listed (λ e. IsListedUnknown S.unknowns e.0)))) s

  said_agreeing : (F : ℕ → WholePolynomial) (c : ℕ → ℤ) → Agrees F c S.unknowns → (s : ℕ) → apply F (get_or S.general s no_form) ≡ field_sum c (unknown_fields S) s
  said_agreeing F c a s = said_is F s ∙ sum_agreeing F c S.unknowns s a

  pub gives_combination : (W : VectorField) → Gives S W → IsCombination (unknown_fields S) W
  gives_combination W g = record {
    multiple = g.multiple;
    positive = g.positive;
    numbers = numbers_of g.solution S.unknowns;
    same = λ s. g.same s ∙ ap (λ p. constant (pos W.denominator) *ᴾ p) (said_agreeing g.solution (numbers_of g.solution S.unknowns) (numbers_agree g.solution S.unknowns h.constants g.solves.own) s);
  }

  pub combination_given : (W : VectorField) → IsCombination (unknown_fields S) W → Gives S W
  combination_given W c =
      let a : Agrees (assigned c.numbers S.unknowns) c.numbers S.unknowns = assigned_agrees c.numbers S.unknowns h.distinct in
      record {
        solution = assigned c.numbers S.unknowns;
        solves = record { own = agrees_own (assigned c.numbers S.unknowns) c.numbers S.unknowns a; solves = subst (Every (λ E. apply (assigned c.numbers S.unknowns) E ≡ 0ᴾ)) (sym h.nothing) tt };
        multiple = c.multiple;
        positive = c.positive;
        same = λ s. c.same s ∙ ap (λ p. constant (pos W.denominator) *ᴾ p) (sym (said_agreeing (assigned c.numbers S.unknowns) c.numbers a s));
      }

  -- its reduced basis, by elimination of the rows of the fields of its unknowns
  pub basis_of_system : (n : ℕ) (ks : List Column) → AreColumns n ks → Every (IsWithinColumns ks) (unknown_fields S) → IsFieldBasis n (Gives S) (map (field_of_row n ks) (basis_of (length ks) (map (row_of_field ks) (unknown_fields S))))
  basis_of_system n ks a w =
      field_basis_of_same n (IsCombination (unknown_fields S)) (Gives S) (map (field_of_row n ks) (basis_of (length ks) (map (row_of_field ks) (unknown_fields S))))
      (λ W f. (combination_given W, gives_combination W)) (basis_of_fields n ks a (unknown_fields S) w)
