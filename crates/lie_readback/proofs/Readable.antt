-- The terms of forms of well formed systems can be read, and their unknowns have the numbers by which they are shown.
use Rattle.std.specs.Prelude.{ℕ, zero, suc, ◌≡◌, ◌+◌, ◌-◌, ◌<◌, ◌≤◌, ◌^◌, ltb, eqb, cond, Bool, true, false, ◌||◌, T, List, [], ◌∷◌, ◌++◌, length, map, filter, get_or, ℤ, pos, Some, refl}
use Rattle.std.specs.List.{list_any, Contains, AllByRecursion as Every}
use Rattle.std.proofs.Common.{sym, ap, ap₂, ◌∙◌, subst, arith}
use Rattle.std.proofs.lemmas.Bool.Decides.{nat_tests}
use Rattle.lie_math.specs.Counts.{Derivative, trimmed, before_counts}
use Rattle.lie_math.specs.LinearForm.{LinearForm}
use Rattle.lie_math.specs.LinearSystem.{Unknown, LinearSystem, has}
use Rattle.lie_math.specs.Limits.{HasLowExponents}
use Rattle.lie_math.specs.Monomial.{Monomial, powers, exponent}
use Rattle.lie_math.specs.Polynomial.{WholePolynomial, terms}
use Rattle.lie_math.specs.Variables.{IsIn}
use Rattle.lie_math.proofs.EveryElement.{every-append, every-map, every_both, every_contained}
use Rattle.lie_math.proofs.FiniteSum.{entries_of}
use Rattle.lie_system.specs.Written.{AreDistinctLetters}
use Rattle.lie_systems.specs.Triples.{Triple, triples, triples_in, triples_with}
use Rattle.lie_systems.specs.ValidSystems.{IsValid, IsOwned, IsFormOf, HasVariablesBelow, count}
use Rattle.lie_print.specs.Printing.{PrintedTerm, of_unknown}
use Rattle.lie_report.specs.Terms.{shown_number, shown_term, form_terms}
use Rattle.lie_readback.specs.Groups.{written_term, written_terms}
use Rattle.lie_readback.specs.WellFormed.{IsKept, IsReportedForm, AreNumberedFrom}
use Rattle.lie_readback.proofs.FactorTexts.{IsPower, IsNamedDerivative}
use Rattle.lie_readback.proofs.SumTexts.{Written, written, IsReadable, derivative_readable}

-- ---- exponents
-- no variable from n on
abbrev pub HasLowVariables : ℕ → Monomial → Type 0
HasLowVariables n m = (v : ℕ) → ltb v n ≡ false → exponent m v ≡ 0

pub readable_powers : (n : ℕ) (m : Monomial) → HasLowVariables n m → HasLowExponents m → Every (IsPower n) m.list
readable_powers n m below low = entries_of powers m (IsPower n) (λ p is apart. record { variable = in_range p.0 p.1 is apart; low = fits p.0 p.1 is })
  where
    in_range : (v e : ℕ) → exponent m v ≡ e → ¬ (e ≡ 0) → v < n
    in_range v e is some = go (ltb v n) refl
      where
        go : (b : Bool) → ltb v n ≡ b → v < n
        go true t = grind (arith, nat_tests, t)
        go false t = absurd (some (sym is ∙ below v t))

    fits : (v e : ℕ) → exponent m v ≡ e → e < 2 ^ 32
    fits v e is = let h = low v in omega arith

-- ---- counts
all_zero : (J : List ℕ) → ((v : ℕ) → get_or J v 0 ≡ 0) → trimmed J ≡ []
all_zero [] h = refl
all_zero (c ∷ J) h = let z : c ≡ 0 = h 0 in rw (all_zero J (λ v. h (suc v)), z) refl

tail_short : (c : ℕ) (J K : List ℕ) → before_counts c K ≡ c ∷ J → trimmed J ≡ K → trimmed J ≡ J
tail_short c J [] e is = go (eqb c 0) e
  where
    go : (b : Bool) → cond b [] (c ∷ []) ≡ c ∷ J → trimmed J ≡ J
    go true e = cc
    go false e = let none : [] ≡ J = cc in is ∙ none
tail_short c J (d ∷ K) e is = let same : d ∷ K ≡ J = cc in is ∙ same

pub short_counts : (n : ℕ) (J : List ℕ) → trimmed J ≡ J → ((v : ℕ) → ¬ (get_or J v 0 ≡ 0) → v < n) → length J ≤ n
short_counts n [] short own = omega arith
short_counts zero (c ∷ J) short own =
    let none : trimmed (c ∷ J) ≡ [] = all_zero (c ∷ J) (λ v. zero_at (get_or (c ∷ J) v 0) (λ some. let lt = own v some in omega arith)) in
    absurd (no_cons (sym none ∙ short))
  where
    zero_at : (k : ℕ) → ¬ (¬ (k ≡ 0)) → k ≡ 0
    zero_at zero h = refl
    zero_at (suc k) h = absurd (h (λ e. omega arith))

    no_cons : ◌≡◌ {A = List ℕ} [] (c ∷ J) → ⊥
    no_cons e = cc
short_counts (suc n) (c ∷ J) short own =
    let k = short_counts n J (tail_short c J (trimmed J) short refl) (λ v some. let lt = own (suc v) some in omega arith) in omega arith

among : (n v : ℕ) (vs : List ℕ) → Every (λ v. v < n) vs → list_any (eqb v) vs ≡ true → v < n
among n v [] below h = cc
among n v (w ∷ vs) below h = go (eqb v w) refl h (among n v vs below.1)
  where
    go : (b : Bool) → eqb v w ≡ b → (b || list_any (eqb v) vs) ≡ true → (list_any (eqb v) vs ≡ true → v < n) → v < n
    go true e f k = let same : v ≡ w = grind (arith, nat_tests, e) in let lt = below.0 in omega arith
    go false e f k = k f

-- ---- triples
-- what validity says of a triple
record IsValidTriple (n : ℕ) (us : List Unknown) (t : Triple) : Type 0 where
  owned : IsOwned us t.0
  low : HasLowVariables n t.1

valid_with : (n : ℕ) (us : List Unknown) (d : Derivative) (es : List (Monomial × ℤ)) → IsOwned us d → Every (λ (e : Monomial × ℤ). HasLowVariables n e.0) es → Every (IsValidTriple n us) (triples_with d es)
valid_with n us d [] o h = tt
valid_with n us d (e ∷ es) o h = (record { owned = o; low = h.0 }, valid_with n us d es o h.1)

pub low_entries : (n : ℕ) (P : WholePolynomial) → IsIn (λ v. ltb v n) P → Every (λ (e : Monomial × ℤ). HasLowVariables n e.0) P.list
low_entries n P h = entries_of terms P (λ e. HasLowVariables n e.0) (λ e is apart v high. h v high e.0 (λ z. apart (sym is ∙ z)))

valid_in : (n : ℕ) (us : List Unknown) (es : List (Derivative × WholePolynomial)) → Every (λ (e : Derivative × WholePolynomial). IsOwned us e.0 × IsIn (λ v. ltb v n) e.1) es → Every (IsValidTriple n us) (triples_in es)
valid_in n us [] h = tt
valid_in n us (e ∷ es) h =
    every-append (IsValidTriple n us) (triples_with e.0 e.1.list) (triples_in es) (valid_with n us e.0 e.1.list h.0.0 (low_entries n e.1 h.0.1)) (valid_in n us es h.1)

-- a triple as its number, its monomial and its derivative
abbrev pub triple_written : Triple → Written
triple_written t = (t.2, t.1, of_unknown t.0)

pub terms_written : (ts : List Triple) → map written_term ts ≡ map written (map triple_written ts)
terms_written [] = refl
terms_written (t ∷ ts) = ap (λ (l : List PrintedTerm). written_term t ∷ l) (terms_written ts)

module _ (names : List ℕ) (letters : AreDistinctLetters names) (n : ℕ) (many : length names ≡ n) (us : List Unknown) (variables : Every (HasVariablesBelow n) us) where
  triple_readable : (t : Triple) → IsValidTriple n us t → IsKept t → IsReadable n names (triple_written t)
  triple_readable t valid kept =
      let o = valid.owned in
      let below = (every_contained (HasVariablesBelow n) us o.unknown variables o.listed).1 in
      record {
        number = kept.number;
        powers = readable_powers n t.1 valid.low kept.exponents;
        last = derivative_readable names letters t.0 (subst (λ k. IsNamedDerivative k t.0) (sym many) (record {
          number = kept.unknown;
          short = o.short;
          few = short_counts n t.0.counts o.short (λ v some. among n v o.unknown.variables below (o.own v some));
          low = kept.counts;
        }));
      }

  pub form_readable : (E : LinearForm) → IsFormOf n us E → IsReportedForm E → Every (IsReadable n names) (map triple_written (triples E))
  form_readable E form reported =
      every-map (IsReadable n names) triple_written (triples E)
      (every_both (IsValidTriple n us) IsKept (λ t. IsReadable n names (triple_written t)) triple_readable (triples E) (valid_in n us E.list form) reported.each)

-- ---- shown numbers
none_counted : (k n : ℕ) (us : List Unknown) → AreNumberedFrom k us → n ≤ k → length (filter (λ (f : Unknown). ltb f.number n) us) ≡ 0
none_counted k n [] h le = refl
none_counted k n (f ∷ us) h le =
    let is = h.0 in
    let high : n ≤ f.number = omega arith in
    let no : ltb f.number n ≡ false = grind (arith, nat_tests, high) in
    ap (λ b. length (cond b (f ∷ filter (λ (f : Unknown). ltb f.number n) us) (filter (λ (f : Unknown). ltb f.number n) us))) no ∙ none_counted (k + 1) n us h.1 (omega arith)

counted : (k n : ℕ) (us : List Unknown) → AreNumberedFrom k us → k ≤ n → n ≤ k + length us → length (filter (λ (f : Unknown). ltb f.number n) us) ≡ n - k
counted k n [] h low high = omega arith
counted k n (f ∷ us) h low high = go (ltb f.number n) refl (counted (k + 1) n us h.1)
  where
    go : (b : Bool) → ltb f.number n ≡ b → (k + 1 ≤ n → n ≤ k + 1 + length us → length (filter (λ (f : Unknown). ltb f.number n) us) ≡ n - (k + 1))
        → length (cond b (f ∷ filter (λ (f : Unknown). ltb f.number n) us) (filter (λ (f : Unknown). ltb f.number n) us)) ≡ n - k
    go true e next =
        let lt : f.number < n = grind (arith, nat_tests, e) in
        let is = h.0 in
        let more = next (omega arith) (omega arith) in
        omega arith
    go false e next =
        let le : n ≤ f.number = grind (arith, nat_tests, e) in
        let is = h.0 in
        let none = none_counted (k + 1) n us h.1 (omega arith) in
        omega arith

numbers_between : (k : ℕ) (us : List Unknown) → AreNumberedFrom k us → Every (λ (f : Unknown). (k ≤ f.number) × (f.number < k + length us)) us
numbers_between k [] h = tt
numbers_between k (f ∷ us) h = (let is = h.0 in (omega arith, omega arith), wider us (numbers_between (k + 1) us h.1))
  where
    wider : (vs : List Unknown) → Every (λ (g : Unknown). (k + 1 ≤ g.number) × (g.number < k + 1 + length us)) vs → Every (λ (g : Unknown). (k ≤ g.number) × (g.number < k + suc (length us))) vs
    wider [] h = tt
    wider (g ∷ vs) h = ((let a = h.0.0 in let b = h.0.1 in (omega arith, omega arith)), wider vs h.1)

module _ (n : ℕ) (us : List Unknown) (numbered : AreNumberedFrom 1 us) where
  shown_same : (d : Derivative) → IsOwned us d → shown_number us d.unknown ≡ d.unknown
  shown_same d o =
      let r = every_contained (λ (f : Unknown). (1 ≤ f.number) × (f.number < 1 + length us)) us o.unknown (numbers_between 1 us numbered) o.listed in
      let low = r.0 in
      let high = r.1 in
      let is = o.number in
      let c = counted 1 d.unknown us numbered (omega arith) (omega arith) in
      omega arith

  shown_terms : (ts : List Triple) → Every (IsValidTriple n us) ts → map (shown_term us) ts ≡ map written_term ts
  shown_terms [] h = refl
  shown_terms (t ∷ ts) h =
      ap₂ (λ (k : ℕ) (l : List PrintedTerm). (t.2, t.1, Some (of_unknown (record { unknown = k; counts = t.0.counts }))) ∷ l) (shown_same t.0 (h.0).owned) (shown_terms ts h.1)

  -- the terms that are printed of a form are those that are written of it
  pub form_terms_are : (E : LinearForm) → IsFormOf n us E → form_terms us E ≡ written_terms E
  form_terms_are E form = shown_terms (triples E) (valid_in n us E.list form)
