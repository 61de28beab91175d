-- The rule for the lowest derivative: it is the last one of the equation.
use Rattle.std.specs.Prelude.{◌≡◌, ℕ, zero, suc, ◌+◌, ◌<◌, ◌≤◌, ◌⊎◌, Bool, true, false, MatchBool, eqb, ltb, not, T, List, [], ◌∷◌}
use Rattle.std.specs.Prelude.{length, get_or, map, ℤ}
use Rattle.std.proofs.Common.{refl, sym, ap, ap₂, subst, ◌∙◌, arith, inl, inr, Less, eq-eqb, true≢false}
use Rattle.std.specs.Cmp.{ranks, tied_itself}
use Rattle.std.specs.Ordering.{nat_cmp}
use Rattle.std.specs.List.{AllByRecursion as Every, Contains}
use Rattle.lie_math.specs.Canonical.{first}
use Rattle.lie_math.specs.Counts.{Derivative, derivative_cmp, order, trimmed}
use Rattle.lie_math.specs.DerivativeOrder.{derivative_cmp_total}
use Rattle.lie_math.specs.FiniteSum as finite
use Rattle.lie_math.specs.FiniteSum.{IsCanonical, list_is_empty}
use Rattle.lie_math.specs.FiniteSumLaws.{none_of_is}
use Rattle.lie_math.specs.Integer.{coefficients}
use Rattle.lie_math.specs.LinearForm.{LinearForm, forms}
use Rattle.lie_math.specs.LinearSystem.{LinearSystem}
use Rattle.lie_math.specs.Monomial.{Monomial, monomial_cmp, powers, unit}
use Rattle.lie_math.specs.MonomialOrder.{monomial_cmp_total}
use Rattle.lie_math.specs.Polynomial.{WholePolynomial, terms, 0ᴾ}
use Rattle.lie_math.specs.SortedSum.{below_all}
use Rattle.lie_math.specs.Variables.{IsIn}
use Rattle.lie_math.proofs.CanonicalLists.{canonical_value, canonical_below, canonical_tail}
use Rattle.lie_math.proofs.ContainedElements.{contained_cons, contains_nothing}
use Rattle.lie_math.proofs.EveryElement.{every-append, every-weaken, every_both, every_of_contained}
use Rattle.lie_math.proofs.FiniteSum.{entries_of}
use Rattle.lie_math.proofs.Rising.{is_less}
use Rattle.lie_math.proofs.SortedLists.{less_equal}
use Rattle.lie_math.proofs.Tests.{same_number}
use Rattle.lie_systems.specs.Leads.{Occurs}
use Rattle.lie_systems.specs.Normalised.{derivative_alone, primitive, primitive_of}
use Rattle.lie_systems.specs.Triples.{Triple, triples, triples_in, triples_with}
use Rattle.lie_systems.specs.ValidSystems.{IsFormOf, IsOwned, IsValid}
use Rattle.lie_jet.specs.Derivatives.{derivative_of}
use Rattle.lie_jet.specs.declared.derivative.Der.{Der}
use Rattle.lie_lin.specs.Forms.{coefficients_of, AreCoefficients}
use Rattle.lie_steps.specs.Derivatives.{missing}
use Rattle.lie_steps.specs.Equations.{equation, IsPlace, Divides}
use Rattle.lie_steps.specs.Lowest.{IsLowestAt, AppliesLowest, lowered}
use Rattle.lie_steps.specs.Rules.{Lowest}
use Rattle.lie_steps.specs.Tidying.{IsTidySystem}
use Rattle.lie_steps.proofs.CountLists.{IsUnder, some_missing, under_both}
use Rattle.lie_steps.proofs.Descents.{first_less}
use Rattle.lie_steps.proofs.LowestRule.{entries_of_triples, divides_lowest, lowest_keeps}
use Rattle.lie_steps.proofs.Rests.{coefficient_has}
use Rattle.lie_steps.proofs.Tidied.{sound_of_valid}
use Rattle.lie_steps.proofs.ZeroRule.{list-derivative_alone}
use Rattle.lie_change.specs.Ends.{StaysValid}
use Rattle.lie_rules.specs.LowestTerms.{IsConstant, IsConstantOver}
use Rattle.lie_change.specs.Tried.{at}
use Rattle.lie_integral.proofs.KeptTerms.{kept_entries, entry_at}
use Rattle.lie_rules.proofs.Steps.{IsStep}

abbrev Entry : Type 0
Entry = Derivative × WholePolynomial

-- ---- a derivative that divides another is printed behind it
order_under : (J K : List ℕ) → IsUnder J K → order J ≤ order K
order_under [] K h = omega arith
order_under (j ∷ J) [] h = let a : j ≤ 0 = h 0 in let b : order J ≤ 0 = order_under J [] (λ v. h (suc v)) in omega arith
order_under (j ∷ J) (k ∷ K) h = let a : j ≤ k = h 0 in let b : order J ≤ order K = order_under J K (λ v. h (suc v)) in omega arith

order_missing : (J K : List ℕ) → IsUnder J K → order J + order (missing J K) ≡ order K
order_missing J [] h = let a : order J ≤ 0 = order_under J [] h in omega arith
order_missing [] (k ∷ K) h = omega arith
order_missing (j ∷ J) (k ∷ K) h =
    let a : j ≤ k = h 0 in
    let b : order J + order (missing J K) ≡ order K = order_missing J K (λ v. h (suc v)) in
    omega arith

not_before : (d e : Derivative) → trimmed d.counts ≡ d.counts → trimmed e.counts ≡ e.counts → Divides d e → ¬ (derivative_cmp d e ≡ Less)
not_before d e s t h l =
    let apart : ¬ (d.counts ≡ e.counts) = λ k. less_equal l
    (ap (derivative_cmp d) (λ i. record { unknown = (sym h.unknown) i; counts = (sym k) i }) ∙ tied_itself derivative_cmp_total d) in
    let some = some_missing d.counts e.counts s t h.counts apart in
    let sum = order_missing d.counts e.counts h.counts in
    first_less (order e.counts) (order d.counts) _ (nat_cmp (order e.counts) (order d.counts)) (ranks (order e.counts) (order d.counts)) l
    (λ k. absurd (omega arith)) (λ k m. absurd (omega arith))

-- ---- so the one that divides all others is the last
module _ (d : Derivative) (short : trimmed d.counts ≡ d.counts) where
  abbrev IsOver : Entry → Type 0
  IsOver e = Divides d e.0 × (trimmed (e.0).counts ≡ (e.0).counts)

  first_below : (e f : Entry) (es : List Entry) → IsCanonical forms (e ∷ f ∷ es) → derivative_cmp e.0 f.0 ≡ Less
  first_below e f es c =
      is_less (derivative_cmp e.0 f.0) (first _ (below_all derivative_cmp forms.values e.0 es) (canonical_below forms e (f ∷ es) c))

  last_is : (ts : List (Der × WholePolynomial)) (k : ℕ) (x : Der × WholePolynomial) (a : WholePolynomial) → AreCoefficients ts
      → suc k ≡ length ts → x ≡ get_or ts k x → Every IsOver (coefficients_of ts) → Contains {X = Entry} (coefficients_of ts) (d, a)
      → derivative_of x.0 ≡ d
  last_is [] k x a c l e h m = absurd (omega arith)
  last_is (t ∷ []) zero x a c l e h m = go (contained_cons (derivative_of t.0, t.1) [] (d, a) m)
    where
      go : ◌≡◌ {A = Entry} (derivative_of t.0, t.1) (d, a) ⊎ Contains {X = Entry} [] (d, a) → derivative_of x.0 ≡ d
      go (inl q) = ap (λ (y : Der × WholePolynomial). derivative_of y.0) e ∙ ap (λ (y : Entry). y.0) q
      go (inr q) = absurd (contains_nothing (d, a) q)
  last_is (t ∷ []) (suc k) x a c l e h m = absurd (omega arith)
  last_is (t ∷ u ∷ ts) zero x a c l e h m = absurd (omega arith)
  last_is (t ∷ u ∷ ts) (suc k) x a c l e h m =
      go (contained_cons (derivative_of t.0, t.1) (coefficients_of (u ∷ ts)) (d, a) m)
      (last_is (u ∷ ts) k x a (canonical_tail forms (derivative_of t.0, t.1) (coefficients_of (u ∷ ts)) c) (omega arith) e h.1)
    where
      go : ◌≡◌ {A = Entry} (derivative_of t.0, t.1) (d, a) ⊎ Contains {X = Entry} (coefficients_of (u ∷ ts)) (d, a)
          → (Contains {X = Entry} (coefficients_of (u ∷ ts)) (d, a) → derivative_of x.0 ≡ d) → derivative_of x.0 ≡ d
      go (inl q) later =
          absurd (not_before d (derivative_of u.0) short ((h.1).0).1 ((h.1).0).0
          (ap (λ (y : Derivative). derivative_cmp y (derivative_of u.0)) (sym (ap (λ (y : Entry). y.0) q))
          ∙ first_below (derivative_of t.0, t.1) (derivative_of u.0, u.1) (coefficients_of ts) c))
      go (inr q) later = later q

-- ---- triples and the terms as they are kept
triples_have : (Q : Triple → Type 0) (d : Derivative) (es : List (Monomial × ℤ)) → Every (λ (x : Monomial × ℤ). Q (d, x.0, x.1)) es
    → Every Q (triples_with d es)
triples_have Q d [] h = tt
triples_have Q d (x ∷ es) h = (h.0, triples_have Q d es h.1)

triples_of_entries : (Q : Triple → Type 0) (es : List Entry)
    → Every (λ (e : Entry). Every (λ (x : Monomial × ℤ). Q (e.0, x.0, x.1)) e.1.list) es → Every Q (triples_in es)
triples_of_entries Q [] h = tt
triples_of_entries Q (e ∷ es) h =
    every-append Q (triples_with e.0 e.1.list) (triples_in es) (triples_have Q e.0 e.1.list h.0) (triples_of_entries Q es h.1)

every_one : {X : Type 0} (A : Type 0) (xs : List X) → A → Every (λ x. A) xs
every_one A [] a = tt
every_one A (x ∷ xs) a = (a, every_one A xs a)

some_one : {X : Type 0} (A : Type 0) (xs : List X) → T (not (list_is_empty xs)) → Every (λ x. A) xs → A
some_one A [] t h = absurd t
some_one A (x ∷ xs) t h = h.0

every_some : (A : Entry → Type 0) (es : List Entry) → IsCanonical forms es
    → Every (λ (e : Entry). Every (λ (x : Monomial × ℤ). A e) e.1.list) es → Every A es
every_some A [] c h = tt
every_some A (e ∷ es) c h = (some_one (A e) e.1.list (canonical_value forms e es c) h.0, every_some A es (canonical_tail forms e es c) h.1)

-- an equation of several triples has a term, and no coefficient is 0
pub some_terms : (E : LinearForm) (ts : List (Der × WholePolynomial)) → coefficients_of ts ≡ E.list → 2 ≤ length (triples E) → 0 < length ts
some_terms E [] is le = let z : length (triples E) ≡ 0 = ap (λ es. length (triples_in es)) (sym is) in absurd (omega arith)
some_terms E (t ∷ ts) is le = omega arith

pub apart_at : (E : LinearForm) (ts : List (Der × WholePolynomial)) → coefficients_of ts ≡ E.list → (k : ℕ) (x : Der × WholePolynomial)
    → k < length ts → x ≡ get_or ts k x → ¬ (x.1 ≡ 0ᴾ)
apart_at E ts is k x lt e =
    entry_at (λ y. ¬ (y.1 ≡ 0ᴾ)) ts k x lt e (subst (Every (λ (y : Entry). ¬ (y.1 ≡ 0ᴾ))) (sym is)
    (entries_of forms E (λ (y : Entry). ¬ (y.1 ≡ 0ᴾ)) (λ y v a. a)))

module _ (n : ℕ) (S : LinearSystem) (i : ℕ) (place : IsPlace S i) (E : LinearForm) (same : E ≡ equation S i)
    (form : IsFormOf n S.unknowns E) (ts : List (Der × WholePolynomial)) (is : coefficients_of ts ≡ E.list)
    (kept : AreCoefficients ts) where
  -- the last derivative divides all, and the coefficients are constant
  pub lowest_is : (x : Der × WholePolynomial) (k : ℕ) → k < length ts → x ≡ get_or ts k x → 1 < length (triples E)
      → Every (IsConstantOver (derivative_of x.0)) ts → IsLowestAt S i (derivative_of x.0)
  lowest_is x k lt e several h =
      subst (λ (G : LinearForm). (1 < length (triples G)) → Every (λ (t : Triple). t.1 ≡ unit) (triples G) → Occurs (derivative_of x.0) G
      → Every (λ (t : Triple). Divides (derivative_of x.0) t.0) (triples G) → IsLowestAt S i (derivative_of x.0)) (sym same)
      (λ s c o l. record { place = place; several = s; constant = c; occurs = o; lowest = l }) several constant occurs lowest
    where
      entries : Every (λ (y : Entry). Divides (derivative_of x.0) y.0 × Every (λ (m : Monomial × ℤ). m.0 ≡ unit) y.1.list) E.list
      entries =
          subst (Every (λ (y : Entry). Divides (derivative_of x.0) y.0 × Every (λ (m : Monomial × ℤ). m.0 ≡ unit) y.1.list)) is
          (kept_entries _ ts h)

      constant : Every (λ (t : Triple). t.1 ≡ unit) (triples E)
      constant = triples_of_entries (λ (t : Triple). t.1 ≡ unit) E.list (every-weaken _ _ (λ y p. p.1) E.list entries)

      lowest : Every (λ (t : Triple). Divides (derivative_of x.0) t.0) (triples E)
      lowest =
          triples_of_entries (λ (t : Triple). Divides (derivative_of x.0) t.0) E.list
          (every-weaken _ _ (λ y p. every_one (Divides (derivative_of x.0) y.0) y.1.list p.0) E.list entries)

      occurs : Occurs (derivative_of x.0) E
      occurs =
          entry_at (λ y. Occurs y.0 E) ts k x lt e (subst (Every (λ (y : Entry). Occurs y.0 E)) (sym is)
          (entries_of forms E (λ (y : Entry). Occurs y.0 E) (λ y v a z. a (sym v ∙ z))))

  -- a lowest derivative is the last one
  module _ (d : Derivative) (l : IsLowestAt S i d) where
    dividing : Every (λ (y : Entry). Divides d y.0) E.list
    dividing =
        every_some (λ y. Divides d y.0) E.list E.canonical
        (entries_of_triples (λ (t : Triple). Divides d t.0) E.list
        (subst (λ (G : LinearForm). Every (λ (t : Triple). Divides d t.0) (triples G)) (sym same) l.lowest))

    over : Every (λ (y : Entry). Divides d y.0 × (trimmed (y.0).counts ≡ (y.0).counts)) (coefficients_of ts)
    over =
        subst (Every (λ (y : Entry). Divides d y.0 × (trimmed (y.0).counts ≡ (y.0).counts))) (sym is)
        (every_both (λ (y : Entry). Divides d y.0) (λ (y : Entry). IsOwned S.unknowns y.0 × IsIn (λ v. ltb v n) y.1) _
        (λ y p q. (p, (q.0).short)) E.list dividing form)

    occurs : Occurs d E
    occurs = subst (Occurs d) (sym same) l.occurs

    pub lowest_last : (x : Der × WholePolynomial) (k : ℕ) → suc k ≡ length ts → x ≡ get_or ts k x → derivative_of x.0 ≡ d
    lowest_last x k e g =
        let o : IsOwned S.unknowns d =
        (coefficient_has (λ (y : Entry). IsOwned S.unknowns y.0 × IsIn (λ v. ltb v n) y.1) E form d occurs).0
        in
        last_is d o.short ts k x (finite.value forms E d) kept e g over
        (subst (λ es. Contains {X = Entry} es (d, finite.value forms E d)) (sym is)
        (coefficient_has (Contains E.list) E (every_of_contained (Contains E.list) E.list (λ y c. c)) d occurs))

  -- where the rule applies each term is one over the last derivative
  pub lowest_over : (last : Der × WholePolynomial) (j : ℕ) → suc j ≡ length ts → last ≡ get_or ts j last
      → (k : ℕ) (x : Der × WholePolynomial) → k < length ts → x ≡ get_or ts k x → AppliesLowest S i
      → IsConstantOver (derivative_of last.0) x
  lowest_over last j l e k x lt g a = (
    subst (λ d. Divides d (derivative_of x.0)) (sym (lowest_last a.0 a.1 last j l e)) (entry_at _ ts k x lt g (over a.0 a.1)).0,
    entry_at (λ y. IsConstant y.1) ts k x lt g
        (subst (Every (λ (y : Entry). IsConstant y.1)) (sym is)
        (entries_of_triples (λ (t : Triple). t.1 ≡ unit) E.list
        (subst (λ (G : LinearForm). Every (λ (t : Triple). t.1 ≡ unit) (triples G)) (sym same) (a.1).constant))),
  )

-- ---- the step
module _ (n : ℕ) (S : LinearSystem) (valid : IsValid n S) (i : ℕ) (d : Derivative) (a : IsLowestAt S i d) where
  same_lowest : (e : Derivative) → IsLowestAt S i e → e ≡ d
  same_lowest e b =
      let s = sound_of_valid n S valid in
      let x = divides_lowest n S s i d a e b in
      let y = divides_lowest n S s i e b d a in
      let u = sym (x.divides).unknown in
      let c = sym (under_both d.counts e.counts y.short x.short (x.divides).counts (y.divides).counts) in
      λ j. record { unknown = u j; counts = c j }

  pub lowest_step : IsStep Lowest S (at i) (lowered S i d) []
  lowest_step = record {
    untested = λ b t. t;
    leaves = λ T t. (d, a, t);
    left = λ T r. subst (λ e. IsTidySystem (lowered S i e) T) (same_lowest r.0 r.1) r.2;
    made = λ b m. absurd m;
    makes = λ b c. absurd (contains_nothing b c);
  }

  pub lowest_stays : StaysValid n (lowered S i d)
  lowest_stays T t = (lowest_keeps n S T i valid (d, a, t)).0

-- a derivative alone has one triple, and is normalised
one_triple : (d : Derivative) → length (triples (derivative_alone d)) ≡ 1
unfolding finite.term finite.of
one_triple d = refl

primitive-alone : (d : Derivative) → primitive (derivative_alone d) ≡ derivative_alone d
unfolding primitive
primitive-alone d = ap (λ es. primitive_of es (triples (derivative_alone d))) (list-derivative_alone d)

pub lowest_apart : (S : LinearSystem) (i : ℕ) (d : Derivative) → IsLowestAt S i d
    → ¬ (Contains (map primitive (derivative_alone d ∷ [])) (equation S i))
lowest_apart S i d a c = go (contained_cons (primitive (derivative_alone d)) [] (equation S i) c)
  where
    go : (primitive (derivative_alone d) ≡ equation S i) ⊎ Contains [] (equation S i) → ⊥
    go (inl e) =
        let s : 1 < length (triples (equation S i)) = a.several in
        let o : length (triples (equation S i)) ≡ 1 =
        ap (λ (G : LinearForm). length (triples G)) (sym e ∙ primitive-alone d) ∙ one_triple d
        in
        absurd (omega arith)
    go (inr k) = absurd (contains_nothing (equation S i) k)

-- ---- constant polynomials
pub one_constant : (p : WholePolynomial) → ¬ (p ≡ 0ᴾ) → IsConstant p → length p.list ≡ 1
one_constant p n h = go p.list refl p.canonical h
  where
    go : (es : List (Monomial × ℤ)) → p.list ≡ es → IsCanonical terms es → Every (λ (x : Monomial × ℤ). x.0 ≡ unit) es → length es ≡ 1
    go [] e c k = absurd (n (none_of_is terms p (ap list_is_empty e)))
    go (x ∷ []) e c k = refl
    go (x ∷ y ∷ es) e c k =
        absurd (less_equal (is_less (monomial_cmp x.0 y.0)
        (first _ (below_all monomial_cmp coefficients x.0 es) (canonical_below terms x (y ∷ es) c)))
        (ap₂ monomial_cmp k.0 (k.1).0 ∙ tied_itself monomial_cmp_total unit))

pub is_unit : (m : Monomial) → length m.list ≡ 0 → m ≡ unit
is_unit m e = none_of_is powers m (go m.list e)
  where
    go : (es : List (ℕ × ℕ)) → length es ≡ 0 → list_is_empty es ≡ true
    go [] e = refl
    go (x ∷ es) e = absurd (omega arith)

unit_list : length unit.list ≡ 0
unfolding finite.none finite.of
unit_list = refl

pub first_constant : (es : List (Monomial × ℤ)) (x : Monomial × ℤ) → length es ≡ 1 → x ≡ get_or es 0 x → (b : Bool)
    → eqb (length x.0.list) 0 ≡ b → MatchBool b (Every (λ (y : Monomial × ℤ). y.0 ≡ unit) es)
    (¬ (Every (λ (y : Monomial × ℤ). y.0 ≡ unit) es))
first_constant [] x l e b t = absurd (omega arith)
first_constant (y ∷ z ∷ es) x l e b t = absurd (omega arith)
first_constant (y ∷ []) x l e true t = (ap (λ (z : Monomial × ℤ). z.0) (sym e) ∙ is_unit x.0 (same_number (length x.0.list) 0 t), tt)
first_constant (y ∷ []) x l e false t =
    λ h. true≢false (sym (eq-eqb (length x.0.list) 0
    (ap (λ (m : Monomial). length m.list) (ap (λ (z : Monomial × ℤ). z.0) e ∙ h.0) ∙ unit_list)) ∙ t)
