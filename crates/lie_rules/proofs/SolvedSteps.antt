-- Whether a form is solved for a derivative: numbers as polynomials, the form without the derivative, and the variables that occur in it.
use Rattle.std.specs.Prelude.{◌≡◌, ℕ, zero, suc, ◌+◌, ◌<◌, ◌≤◌, Bool, true, false, cond, not, T, ltb, List, [], ◌∷◌, ◌++◌, filter, length}
use Rattle.std.specs.Prelude.{get_or, take, ℤ, pos}
use Rattle.std.proofs.Common.{refl, sym, ap, subst, ◌∙◌, arith, is_lt, true≢false, ltb-true, ltb-false, eqb-true, eq-eqb, eqb}
use Rattle.std.specs.List.{AllByRecursion as Every}
use Rattle.std.specs.Ordering.{eq_by_cmp}
use Rattle.lie_math.specs.Canonical.{both, first, second}
use Rattle.lie_math.specs.Counts.{Derivative, derivative_cmp}
use Rattle.lie_math.specs.FiniteSum as finite
use Rattle.lie_math.specs.FiniteSum.{IsCanonical, list_is_empty}
use Rattle.lie_math.specs.FiniteSumLaws as finite_laws
use Rattle.lie_math.specs.LinearForm.{LinearForm, forms}
use Rattle.lie_math.specs.LinearSystem.{Unknown, LinearSystem}
use Rattle.lie_math.specs.Monomial.{Monomial, exponent, powers, unit}
use Rattle.lie_math.specs.Polynomial.{WholePolynomial, terms, constant, 0ᴾ, ◌+ᴾ◌}
use Rattle.lie_math.specs.SortedSum.{below_all, value_at}
use Rattle.lie_math.specs.Variables.{FreeOf, IsIn}
use Rattle.lie_math.proofs.CanonicalLists.{canonical_value, canonical_below, canonical_tail, canonical_cons, value_has}
use Rattle.lie_math.proofs.EveryElement.{every-append, every-front, every-back, every-weaken, every_contained}
use Rattle.lie_math.proofs.FiniteSum.{entries_of}
use Rattle.lie_math.proofs.Limits.{term_is}
use Rattle.lie_math.proofs.TermWise.{not_zero_test, test_not_zero}
use Rattle.lie_systems.specs.Triples.{Triple, triples, triples_in, triples_with}
use Rattle.lie_systems.specs.ValidSystems.{IsOwned, IsFormOf, IsValid, HasVariablesBelow}
use Rattle.lie_jet.specs.Derivatives.{derivative_of}
use Rattle.lie_jet.specs.declared.derivative.Der.{Der}
use Rattle.lie_lin.specs.Forms.{coefficients_of, AreCoefficients, triples_of}
use Rattle.lie_lin.proofs.Forms.{coefficients_of-append, triples_of-append}
use Rattle.lie_ring.proofs.Fronts.{take_more}
use Rattle.lie_steps.specs.Equations.{rest_of, depends, Lacks}
use Rattle.lie_steps.proofs.FreshPowers.{has_below}
use Rattle.lie_steps.proofs.Rests.{each-rest}
use Rattle.lie_steps.proofs.SolvedForms.{triples_both}
use Rattle.lie_steps.proofs.Unknowns.{dependent_of}
use Rattle.lie_rules.specs.Solutions.{IsFormIn, IsNumber}

-- ---- numbers as polynomials
constant_list : (c : ℤ) → ¬ (c ≡ pos 0) → (constant c).list ≡ (unit, c) ∷ []
constant_list c n = ap (λ (p : WholePolynomial). p.list) (term_is unit c)
    ∙ finite_laws.list-of terms ((unit, c) ∷ []) (canonical_cons terms (unit, c) [] (not_zero_test c n) tt tt)

pub number_list : (c : ℤ) (P : WholePolynomial) → IsNumber c P → P.list ≡ (unit, c) ∷ []
number_list c P h = ap (λ (p : WholePolynomial). p.list) h.1 ∙ constant_list c h.0

unit_list : unit.list ≡ []
unfolding finite.none finite.of
unit_list = refl

no_powers : (m : Monomial) → m.list ≡ [] → m ≡ unit
no_powers m e = finite_laws.same_list powers m unit (e ∙ sym unit_list)

pub is_number : (P : WholePolynomial) (x : Monomial × ℤ) → P.list ≡ x ∷ [] → (x.0).list ≡ [] → IsNumber x.1 P
is_number P x e m =
    let n : ¬ (x.1 ≡ pos 0) = test_not_zero x.1 (canonical_value terms x [] (subst (IsCanonical terms) e P.canonical)) in (
      n,
      finite_laws.same_list terms P (constant x.1)
          (e ∙ ap (λ (k : Monomial). (k, x.1) ∷ []) (no_powers x.0 m) ∙ sym (constant_list x.1 n)),
    )

-- of other terms it is none
pub no_number : (P : WholePolynomial) (ts : List (Monomial × ℤ)) → P.list ≡ ts → ¬ (length ts ≡ 1) → (c : ℤ) → ¬ (IsNumber c P)
no_number P ts e n c h = n (ap length (sym e ∙ number_list c P h))

pub no_power : (P : WholePolynomial) (x : Monomial × ℤ) → P.list ≡ x ∷ [] → ¬ (length (x.0).list ≡ 0) → (c : ℤ) → ¬ (IsNumber c P)
no_power P x e n c h = n (ap (λ (es : List (Monomial × ℤ)). length ((get_or es 0 x).0).list) (sym e ∙ number_list c P h)
    ∙ ap length unit_list)

-- ---- the form without a derivative
module _ (d : Derivative) where
  abbrev pub others : List (Derivative × WholePolynomial) → List (Derivative × WholePolynomial)
  others es = filter (λ (e : Derivative × WholePolynomial). not (eq_by_cmp derivative_cmp d e.0)) es

  below_others : (q : Derivative) (es : List (Derivative × WholePolynomial)) → T (below_all derivative_cmp forms.values q es)
      → T (below_all derivative_cmp forms.values q (others es))
  below_others q [] h = tt
  below_others q (e ∷ es) h = go (not (eq_by_cmp derivative_cmp d e.0)) (below_others q es (second (is_lt (derivative_cmp q e.0)) _ h))
    where
      go : (t : Bool) → T (below_all derivative_cmp forms.values q (others es))
          → T (below_all derivative_cmp forms.values q (cond t (e ∷ others es) (others es)))
      go true k = both _ (below_all derivative_cmp forms.values q (others es)) (first _ (below_all derivative_cmp forms.values q es) h) k
      go false k = k

  canonical_others : (es : List (Derivative × WholePolynomial)) → IsCanonical forms es → IsCanonical forms (others es)
  canonical_others [] h = tt
  canonical_others (e ∷ es) h = go (not (eq_by_cmp derivative_cmp d e.0)) (canonical_others es (canonical_tail forms e es h))
    where
      go : (t : Bool) → IsCanonical forms (others es) → IsCanonical forms (cond t (e ∷ others es) (others es))
      go true k = canonical_cons forms e (others es) (canonical_value forms e es h) (below_others e.0 es (canonical_below forms e es h)) k
      go false k = k

  rest_is : (E : LinearForm) → rest_of d E ≡ finite.of forms (others E.list)
  unfolding finite.put
  rest_is E = finite_laws.of_same forms ((d, 0ᴾ) ∷ others E.list) (others E.list) (λ q. nothing q (eq_by_cmp derivative_cmp q d))
    where
      nothing : (q : Derivative) (t : Bool)
          → cond t 0ᴾ 0ᴾ +ᴾ value_at derivative_cmp forms.values q (others E.list) ≡ value_at derivative_cmp forms.values q (others E.list)
      nothing q true = finite_laws.plus_idl terms _
      nothing q false = finite_laws.plus_idl terms _

  pub rest_kept : (E : LinearForm) (out : List (Der × WholePolynomial)) → coefficients_of out ≡ others E.list → AreCoefficients out
  rest_kept E out e = subst (IsCanonical forms) (sym e) (canonical_others E.list E.canonical)

  pub rest_made : (E F : LinearForm) (out : List (Der × WholePolynomial)) → F ≡ finite.of forms (coefficients_of out)
      → coefficients_of out ≡ others E.list → F ≡ rest_of d E
  rest_made E F out h e = h ∙ ap (finite.of forms) e ∙ sym (rest_is E)

  pub others-append : (xs ys : List (Derivative × WholePolynomial)) → others (xs ++ ys) ≡ others xs ++ others ys
  others-append [] ys = refl
  others-append (x ∷ xs) ys = go (not (eq_by_cmp derivative_cmp d x.0)) (others-append xs ys)
    where
      go : (t : Bool) → others (xs ++ ys) ≡ others xs ++ others ys
          → cond t (x ∷ others (xs ++ ys)) (others (xs ++ ys)) ≡ cond t (x ∷ others xs) (others xs) ++ others ys
      go true k = ap (λ zs. x ∷ zs) k
      go false k = k

-- ---- variables that occur
module _ (us : List Unknown) (v : ℕ) where
  abbrev pub TripleLacks : Triple → Type 0
  TripleLacks t = (depends us (t.0).unknown v ≡ false) × (exponent t.1 v ≡ 0)

  pub lacks_triples : (E : LinearForm) → Lacks us v E → Every TripleLacks (triples E)
  lacks_triples E h = triples_both (λ d. depends us d.unknown v ≡ false) (λ m. exponent m v ≡ 0) E.list
      (every-weaken (λ (e : Derivative × WholePolynomial). FreeOf v e.1 × (depends us (e.0).unknown v ≡ false)) _
      (λ e k. (k.1, free e.1 k.0)) E.list h)
    where
      free : (p : WholePolynomial) → FreeOf v p → Every (λ (x : Monomial × ℤ). exponent x.0 v ≡ 0) p.list
      free p k = entries_of terms p (λ (x : Monomial × ℤ). exponent x.0 v ≡ 0) (λ x is n. k x.0 (λ z. n (sym is ∙ z)))

  exponents_with : (d : Derivative) (es : List (Monomial × ℤ)) → Every TripleLacks (triples_with d es)
      → Every (λ (x : Monomial × ℤ). exponent x.0 v ≡ 0) es
  exponents_with d [] h = tt
  exponents_with d (e ∷ es) h = ((h.0).1, exponents_with d es h.1)

  unknown_with : (d : Derivative) (es : List (Monomial × ℤ)) → T (not (list_is_empty es)) → Every TripleLacks (triples_with d es)
      → depends us d.unknown v ≡ false
  unknown_with d [] n h = absurd n
  unknown_with d (e ∷ es) n h = (h.0).0

  pub lacks_of_triples : (E : LinearForm) → Every TripleLacks (triples E) → Lacks us v E
  lacks_of_triples E h = go E.list E.canonical h
    where
      go : (es : List (Derivative × WholePolynomial)) → IsCanonical forms es → Every TripleLacks (triples_in es)
          → Every (λ (e : Derivative × WholePolynomial). FreeOf v e.1 × (depends us (e.0).unknown v ≡ false)) es
      go [] c k = tt
      go (e ∷ es) c k =
          let here : Every TripleLacks (triples_with e.0 e.1.list) =
          every-front TripleLacks (triples_with e.0 e.1.list) (triples_in es) k in (
            (
              λ m n. value_has terms (λ (x : Monomial × ℤ). exponent x.0 v ≡ 0) m e.1.list e.1.canonical (exponents_with e.0 e.1.list here) n,
              unknown_with e.0 e.1.list (canonical_value forms e es c) here,
            ),
            go es (canonical_tail forms e es c)
                (every-back TripleLacks (triples_with e.0 e.1.list) (triples_in es) k),
          )

  -- a variable of no form in at most 8 variables occurs nowhere
  pub lacks_outside : (E : LinearForm) → IsFormIn us E → 8 ≤ v → Lacks us v E
  lacks_outside E h le = every-weaken (λ (e : Derivative × WholePolynomial). IsOwned us e.0 × IsIn (λ w. ltb w h.variable_count) e.1) _
      (λ e k. (k.1 v outside, none (e.0).unknown (depends us (e.0).unknown v) refl)) E.list h.form
    where
      outside : ltb v h.variable_count ≡ false
      outside = go (ltb v h.variable_count) refl
        where
          go : (t : Bool) → ltb v h.variable_count ≡ t → t ≡ false
          go true e = absurd (let k = ltb-true v h.variable_count e in let f = h.few in omega arith)
          go false e = refl

      none : (f : ℕ) (t : Bool) → depends us f v ≡ t → t ≡ false
      none f true e =
          let p = dependent_of us f v e in
          absurd (let lt : v < h.variable_count =
          has_below h.variable_count v (p.0).variables p.3
          (every_contained (HasVariablesBelow h.variable_count) us p.0 h.variables p.1).1 in let f = h.few in omega arith)
      none f false e = refl

pub rest_in : (us : List Unknown) (d : Derivative) (E : LinearForm) → IsFormIn us E → IsFormIn us (rest_of d E)
rest_in us d E h = record {
  variable_count = h.variable_count;
  few = h.few;
  variables = h.variables;
  form = every-weaken (λ (e : Derivative × WholePolynomial). (IsOwned us e.0 × IsIn (λ w. ltb w h.variable_count) e.1) × ¬ (e.0 ≡ d)) _
      (λ e k. k.0) (rest_of d E).list
      (each-rest (λ (e : Derivative × WholePolynomial). IsOwned us e.0 × IsIn (λ w. ltb w h.variable_count) e.1) d E h.form);
}

-- an equation of a system over a small space
pub equation_in : (n : ℕ) (S : LinearSystem) (E : LinearForm) → IsValid n S → n ≤ 8 → IsFormOf n S.unknowns E → IsFormIn S.unknowns E
equation_in n S E v le form = record { variable_count = n; few = le; variables = v.variables; form = form }

pub one_term : {X : Type 0} (xs : List X) (x : X) → length xs ≡ 1 → x ≡ get_or xs 0 x → xs ≡ x ∷ []
one_term [] x e is = absurd (omega arith)
one_term (y ∷ []) x e is = ap (λ z. z ∷ []) (sym is)
one_term (y ∷ z ∷ xs) x e is = absurd (omega arith)

-- ---- one derivative more
pub others_more : (d : Derivative) (old new ts : List (Der × WholePolynomial)) (i : ℕ) (t : Der × WholePolynomial) → i < length ts
    → t ≡ get_or ts i t → coefficients_of new ≡ coefficients_of old ++ others d (coefficients_of (t ∷ []))
    → coefficients_of old ≡ others d (coefficients_of (take i ts)) → coefficients_of new ≡ others d (coefficients_of (take (i + 1) ts))
others_more d old new ts i t h is e g =
    e ∙ ap (λ es. es ++ others d (coefficients_of (t ∷ []))) g
    ∙ sym (others-append d (coefficients_of (take i ts)) (coefficients_of (t ∷ [])))
    ∙ ap (others d) (sym (coefficients_of-append (take i ts) (t ∷ [])) ∙ ap coefficients_of (take_more ts i t h is))

pub other_pushed : (d : Derivative) (old new : List (Der × WholePolynomial)) (t : Der × WholePolynomial) (q : WholePolynomial)
    → new ≡ old ++ (t.0, q) ∷ [] → q ≡ t.1 → eq_by_cmp derivative_cmp d (derivative_of t.0) ≡ false
    → coefficients_of new ≡ coefficients_of old ++ others d (coefficients_of (t ∷ []))
other_pushed d old new t q e s n =
    ap coefficients_of e ∙ coefficients_of-append old ((t.0, q) ∷ [])
    ∙ ap (λ (a : WholePolynomial). coefficients_of old ++ (derivative_of t.0, a) ∷ []) s
    ∙ ap (λ b. coefficients_of old ++ cond (not b) ((derivative_of t.0, t.1) ∷ []) []) (sym n)

-- ---- triples one after the other
pub triples_every : (P : Triple → Type 0) (list : List (Der × Monomial × ℤ)) (i : ℕ) (t : Der × Monomial × ℤ) → i < length list
    → t ≡ get_or list i t → Every P (triples_of list) → P (derivative_of t.0, t.1, t.2)
triples_every P [] i t h is q = absurd (omega arith)
triples_every P (x ∷ list) zero t h is q = subst (λ (y : Der × Monomial × ℤ). P (derivative_of y.0, y.1, y.2)) (sym is) q.0
triples_every P (x ∷ list) (suc i) t h is q = triples_every P list i t (omega arith) is q.1

pub triples_more : (P : Triple → Type 0) (list : List (Der × Monomial × ℤ)) (i : ℕ) (t : Der × Monomial × ℤ) → i < length list
    → t ≡ get_or list i t → Every P (triples_of (take i list)) → P (derivative_of t.0, t.1, t.2) → Every P (triples_of (take (i + 1) list))
triples_more P list i t h is q p =
    subst (λ xs. Every P (triples_of xs)) (take_more list i t h is)
    (subst (Every P) (sym (triples_of-append (take i list) (t ∷ [])))
    (every-append P (triples_of (take i list)) ((derivative_of t.0, t.1, t.2) ∷ []) q (p, tt)))

-- ---- variables one after the other
pub within_next : (P : ℕ → Type 0) (i : ℕ) → ((v : ℕ) → v < i → P v) → P i → (v : ℕ) → v < i + 1 → P v
within_next P i h p v lt = go (eqb v i) refl
  where
    go : (t : Bool) → eqb v i ≡ t → P v
    go true e = subst P (sym (eqb-true v i e)) p
    go false e = h v (let n : ¬ (v ≡ i) = (λ s. true≢false (sym (eq-eqb v i s) ∙ e)) in omega arith)

pub within_all : (us : List Unknown) (f : ℕ) (E : LinearForm) (i : ℕ) → IsFormIn us E → 8 ≤ i
    → ((v : ℕ) → v < i → depends us f v ≡ false → Lacks us v E) → (v : ℕ) → depends us f v ≡ false → Lacks us v E
within_all us f E i form le h v e = go (ltb v i) refl
  where
    go : (t : Bool) → ltb v i ≡ t → Lacks us v E
    go true k = h v (ltb-true v i k) e
    go false k = lacks_outside us v E form (let l = ltb-false v i k in omega arith)

pub no_elements : {X : Type 0} (xs : List X) → length xs ≡ 0 → xs ≡ []
no_elements [] e = refl
no_elements (x ∷ xs) e = absurd (omega arith)
