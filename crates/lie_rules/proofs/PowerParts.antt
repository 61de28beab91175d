-- The coefficients of the powers of a variable in sums of triples, and the degree of a form.
use Rattle.std.specs.Prelude.{◌≡◌, ℕ, ◌<◌, ◌≤◌, max, length, drop, Bool, true, false, cond, eqb, List, []}
use Rattle.std.specs.Prelude.{◌∷◌, ◌++◌, ℤ, pos, ◌+ℤ◌, unsigned_abs}
use Rattle.std.proofs.Common.{refl, sym, ap, ap₂, ◌∙◌, arith, inl, inr}
use Rattle.std.specs.List.{AllByRecursion as Every, Any}
use Rattle.std.proofs.lemmas.List.{drop_all}
use Rattle.lie_math.specs.Canonical.{Additive}
use Rattle.lie_math.specs.Counts.{Derivative}
use Rattle.lie_math.specs.FiniteSumLaws as finite_laws
use Rattle.lie_math.specs.FiniteSumLaws.{list-of, plus_idl, sum-none, sum-plus, sum-term, term_additive}
use Rattle.lie_math.specs.Limits.{absolute, absolutes}
use Rattle.lie_math.specs.LinearForm.{LinearForm, forms, ◌+ᶠ◌, form_term}
use Rattle.lie_math.specs.Monomial.{Monomial, exponent}
use Rattle.lie_math.specs.Natural.{maxima}
use Rattle.lie_math.specs.Polynomial.{WholePolynomial, polynomials, terms, term, 0ᴾ, ◌+ᴾ◌}
use Rattle.lie_math.specs.PolynomialRing.{AdditiveOnTerms}
use Rattle.lie_math.specs.Powers.{degree_in, power_coefficient}
use Rattle.lie_math.specs.SortedSum.{sum_of_entries}
use Rattle.lie_math.proofs.Decisions.{Decided, any_with, less_decided}
use Rattle.lie_math.proofs.EveryElement.{every-append}
use Rattle.lie_math.proofs.Limits.{canonical_absolutes}
use Rattle.lie_math.proofs.Monomial.{bare}
use Rattle.lie_math.proofs.PowerCoefficients.{power_coefficient-plus}
use Rattle.lie_math.proofs.Powers.{power_coefficient-0ᴾ}
use Rattle.lie_math.proofs.SomeElement.{any_head, any_left, any_right, any_tail}
use Rattle.lie_systems.specs.Bulk.{absolute_triples, bulk}
use Rattle.lie_systems.specs.Triples.{Triple, triples, triples_in, triples_with, form_of_triple, sum_of_triples}
use Rattle.lie_geometry.proofs.AbsoluteForms.{entry_absolutes}
use Rattle.lie_jet.specs.declared.derivative.Der.{Der}
use Rattle.lie_lin.specs.Forms.{coefficients_of}
use Rattle.lie_steps.specs.Bulks.{absolute_form}
use Rattle.lie_steps.specs.Split.{coefficient_of_power, form_degree}
use Rattle.lie_normal.proofs.AbsoluteForms.{list-absolute_form}
use Rattle.lie_rules.specs.Powers.{with_power}

-- ---- the coefficient of a power in a sum of triples
module _ (v e : ℕ) where
  abbrev taken : Monomial → ℤ → WholePolynomial
  taken m a = cond (eqb (exponent m v) e) (term (bare v m) a) 0ᴾ

  taken_additive : AdditiveOnTerms taken
  taken_additive = record {
    on_nil =
        λ m. elim (eqb (exponent m v) e) as (λ t. cond t (term (bare v m) (pos 0)) 0ᴾ ≡ 0ᴾ)
        [ true ↦ (term_additive terms).on_nil (bare v m) | false ↦ refl ];
    on_plus =
        λ m a b. elim (eqb (exponent m v) e) as (λ t. cond t (term (bare v m) (a +ℤ b)) 0ᴾ ≡ cond t (term (bare v m) a) 0ᴾ +ᴾ cond t
        (term (bare v m) b) 0ᴾ) [ true ↦ (term_additive terms).on_plus (bare v m) a b | false ↦ sym (plus_idl terms 0ᴾ) ];
  }

  power_coefficient-term : (m : Monomial) (a : ℤ) → power_coefficient v e (term m a) ≡ taken m a
  unfolding power_coefficient
  power_coefficient-term m a = sum-term terms polynomials taken taken_additive m a

  coefficients_additive : Additive polynomials (finite_laws.adder forms) (λ d a. form_term d (power_coefficient v e a))
  coefficients_additive = record {
    on_nil = λ d. ap (form_term d) (power_coefficient-0ᴾ v e) ∙ (term_additive forms).on_nil d;
    on_plus =
        λ d a b. ap (form_term d) (power_coefficient-plus v e a b)
        ∙ (term_additive forms).on_plus d (power_coefficient v e a) (power_coefficient v e b);
  }

  of_triple : (t : Triple) (F : LinearForm)
      → coefficient_of_power v e (form_of_triple t) +ᶠ F ≡ cond (eqb (exponent t.1 v) e) (form_term t.0 (term (bare v t.1) t.2) +ᶠ F) F
  of_triple t F =
      ap (λ G. G +ᶠ F) (sum-term forms (finite_laws.adder forms) _ coefficients_additive t.0 (term t.1 t.2)
      ∙ ap (form_term t.0) (power_coefficient-term t.1 t.2)) ∙ go (eqb (exponent t.1 v) e)
    where
      go : (b : Bool) → form_term t.0 (cond b (term (bare v t.1) t.2) 0ᴾ) +ᶠ F ≡ cond b (form_term t.0 (term (bare v t.1) t.2) +ᶠ F) F
      go true = refl
      go false = ap (λ G. G +ᶠ F) ((term_additive forms).on_nil t.0) ∙ plus_idl forms F

  pub coefficient_of_triples : (ts : List Triple) → coefficient_of_power v e (sum_of_triples ts) ≡ sum_of_triples (with_power v e ts)
  coefficient_of_triples [] = sum-none forms (finite_laws.adder forms) _ coefficients_additive
  coefficient_of_triples (t ∷ ts) =
      sum-plus forms (finite_laws.adder forms) _ coefficients_additive (form_of_triple t) (sum_of_triples ts)
      ∙ ap (λ G. coefficient_of_power v e (form_of_triple t) +ᶠ G) (coefficient_of_triples ts)
      ∙ of_triple t (sum_of_triples (with_power v e ts)) ∙ go (eqb (exponent t.1 v) e)
    where
      go : (b : Bool) → cond b (form_term t.0 (term (bare v t.1) t.2) +ᶠ sum_of_triples (with_power v e ts))
          (sum_of_triples (with_power v e ts)) ≡ sum_of_triples (cond b ((t.0, bare v t.1, t.2) ∷ with_power v e ts) (with_power v e ts))
      go true = refl
      go false = refl

  absolutes_with_power : (ts : List Triple) → absolute_triples (with_power v e ts) ≡ with_power v e (absolute_triples ts)
  absolutes_with_power [] = refl
  absolutes_with_power (t ∷ ts) = go (eqb (exponent t.1 v) e) (absolutes_with_power ts)
    where
      go : (b : Bool) → absolute_triples (with_power v e ts) ≡ with_power v e (absolute_triples ts)
          → absolute_triples (cond b ((t.0, bare v t.1, t.2) ∷ with_power v e ts) (with_power v e ts)) ≡ cond b
          ((t.0, bare v t.1, pos (unsigned_abs t.2)) ∷ with_power v e (absolute_triples ts)) (with_power v e (absolute_triples ts))
      go true h = ap (λ us. (t.0, bare v t.1, pos (unsigned_abs t.2)) ∷ us) h
      go false h = h

  pub bulk_of_power : (ts : List Triple) → coefficient_of_power v e (bulk ts) ≡ bulk (with_power v e ts)
  bulk_of_power ts = coefficient_of_triples (absolute_triples ts) ∙ ap sum_of_triples (sym (absolutes_with_power ts))

  pub with_power-append : (ts us : List Triple) → with_power v e (ts ++ us) ≡ with_power v e ts ++ with_power v e us
  with_power-append [] us = refl
  with_power-append (t ∷ ts) us = go (eqb (exponent t.1 v) e) (with_power-append ts us)
    where
      go : (b : Bool) → with_power v e (ts ++ us) ≡ with_power v e ts ++ with_power v e us
          → cond b ((t.0, bare v t.1, t.2) ∷ with_power v e (ts ++ us)) (with_power v e (ts ++ us)) ≡ cond b
          ((t.0, bare v t.1, t.2) ∷ with_power v e ts) (with_power v e ts) ++ with_power v e us
      go true h = ap (λ xs. (t.0, bare v t.1, t.2) ∷ xs) h
      go false h = h

-- ---- the degree
module _ (v : ℕ) where
  abbrev Has : Triple → Type 0
  Has t = 0 < exponent t.1 v

  abbrev term_degree : List (Monomial × ℤ) → ℕ
  term_degree es = sum_of_entries maxima (λ m (a : ℤ). exponent m v) es

  abbrev entry_degree : List (Derivative × WholePolynomial) → ℕ
  entry_degree es = sum_of_entries maxima (λ (d : Derivative) a. degree_in v a) es

  some_term : (d : Derivative) (es : List (Monomial × ℤ)) → 0 < term_degree es → Any Has (triples_with d es)
  some_term d [] h = absurd (omega arith)
  some_term d (x ∷ es) h = go (less_decided 0 (exponent x.0 v)) (some_term d es)
    where
      go : Decided (0 < exponent x.0 v) → (0 < term_degree es → Any Has (triples_with d es)) → Any Has (triples_with d (x ∷ es))
      go (inl k) later = any_head Has (d, x.0, x.1) (triples_with d es) k
      go (inr k) later =
          any_tail Has (d, x.0, x.1) (triples_with d es)
          (later (let m : 0 < max (exponent x.0 v) (term_degree es) = h in let z : ¬ (0 < exponent x.0 v) = k in omega arith))

  some_entry : (es : List (Derivative × WholePolynomial)) → 0 < entry_degree es → Any Has (triples_in es)
  some_entry [] h = absurd (omega arith)
  some_entry (x ∷ es) h = go (less_decided 0 (degree_in v x.1)) (some_entry es)
    where
      go : Decided (0 < degree_in v x.1) → (0 < entry_degree es → Any Has (triples_in es)) → Any Has (triples_in (x ∷ es))
      go (inl k) later = any_left Has (triples_with x.0 x.1.list) (triples_in es) (some_term x.0 x.1.list k)
      go (inr k) later =
          any_right Has (triples_with x.0 x.1.list) (triples_in es)
          (later (let m : 0 < max (degree_in v x.1) (entry_degree es) = h in let z : ¬ (0 < degree_in v x.1) = k in omega arith))

  no_term : (d : Derivative) (es : List (Monomial × ℤ)) → term_degree es ≡ 0
      → Every (λ (t : Triple). exponent t.1 v ≡ 0) (triples_with d es)
  no_term d [] h = tt
  no_term d (x ∷ es) h =
      let m : max (exponent x.0 v) (term_degree es) ≡ 0 = h in ((let z : exponent x.0 v ≡ 0 = omega arith in z), no_term d es (omega arith))

  no_entry : (es : List (Derivative × WholePolynomial)) → entry_degree es ≡ 0 → Every (λ (t : Triple). exponent t.1 v ≡ 0) (triples_in es)
  no_entry [] h = tt
  no_entry (x ∷ es) h =
      let m : max (degree_in v x.1) (entry_degree es) ≡ 0 = h in
      every-append (λ (t : Triple). exponent t.1 v ≡ 0) (triples_with x.0 x.1.list) (triples_in es) (no_term x.0 x.1.list (omega arith))
      (no_entry es (omega arith))

  pub occurs_of_degree : (E : LinearForm) → 0 < form_degree v E → Any (λ (t : Triple). 0 < exponent t.1 v) (triples E)
  occurs_of_degree E h = some_entry E.list h

  pub degree_of_occurs : (E : LinearForm) → Any (λ (t : Triple). 0 < exponent t.1 v) (triples E) → 0 < form_degree v E
  degree_of_occurs E a = go (less_decided 0 (form_degree v E))
    where
      go : Decided (0 < form_degree v E) → 0 < form_degree v E
      go (inl h) = h
      go (inr n) =
          let none = no_entry E.list (let z : ¬ (0 < form_degree v E) = n in omega arith) in
          let r = any_with Has (λ (t : Triple). exponent t.1 v ≡ 0) (triples E) none a in
          let p : 0 < exponent (r.0).1 v = r.2 in
          let q : exponent (r.0).1 v ≡ 0 = r.1 in
          absurd (omega arith)

  -- the form with absolute values has the same
  term_absolutes : (es : List (Monomial × ℤ)) → term_degree (absolutes es) ≡ term_degree es
  term_absolutes [] = refl
  term_absolutes (x ∷ es) = ap (max (exponent x.0 v)) (term_absolutes es)

  degree-absolute : (p : WholePolynomial) → degree_in v (absolute p) ≡ degree_in v p
  unfolding absolute
  degree-absolute p = ap term_degree (list-of terms (absolutes p.list) (canonical_absolutes p.list p.canonical)) ∙ term_absolutes p.list

  entries_absolutes : (es : List (Derivative × WholePolynomial)) → entry_degree (entry_absolutes es) ≡ entry_degree es
  entries_absolutes [] = refl
  entries_absolutes (x ∷ es) = ap₂ max (degree-absolute x.1) (entries_absolutes es)

  pub degree_of_absolutes : (E : LinearForm) → form_degree v (absolute_form E) ≡ form_degree v E
  degree_of_absolutes E = ap entry_degree (list-absolute_form E) ∙ entries_absolutes E.list

  -- no exponent is greater
  term_bounds : (d : Derivative) (es : List (Monomial × ℤ)) (n : ℕ) → term_degree es ≤ n
      → Every (λ (t : Triple). exponent t.1 v ≤ n) (triples_with d es)
  term_bounds d [] n h = tt
  term_bounds d (x ∷ es) n h =
      let m : max (exponent x.0 v) (term_degree es) ≤ n = h in
      ((let z : exponent x.0 v ≤ n = omega arith in z), term_bounds d es n (omega arith))

  entry_bounds : (es : List (Derivative × WholePolynomial)) (n : ℕ) → entry_degree es ≤ n
      → Every (λ (t : Triple). exponent t.1 v ≤ n) (triples_in es)
  entry_bounds [] n h = tt
  entry_bounds (x ∷ es) n h =
      let m : max (degree_in v x.1) (entry_degree es) ≤ n = h in
      every-append (λ (t : Triple). exponent t.1 v ≤ n) (triples_with x.0 x.1.list) (triples_in es)
      (term_bounds x.0 x.1.list n (omega arith)) (entry_bounds es n (omega arith))

  pub degree_bounds : (E : LinearForm) → Every (λ (t : Triple). exponent t.1 v ≤ form_degree v E) (triples E)
  degree_bounds E = entry_bounds E.list (form_degree v E) (omega arith)

  -- ---- the terms as they are kept
  pub kept_degree : (es : List (Der × WholePolynomial))
      → sum_of_entries maxima (λ (d : Der) a. degree_in v a) es ≡ entry_degree (coefficients_of es)
  kept_degree [] = refl
  kept_degree (x ∷ es) = ap (max (degree_in v x.1)) (kept_degree es)

-- ---- the greatest number, one after the other
module _ {K A : Type 0} (φ : K → A → ℕ) where
  abbrev pub most : List (K × A) → ℕ
  most es = sum_of_entries maxima φ es

  pub most_end : (es : List (K × A)) (k d t : ℕ) → length es ≤ k → max d (most (drop k es)) ≡ t → d ≡ t
  most_end es k d t le h = let z : most (drop k es) ≡ 0 = ap most (drop_all k es le) in omega arith
