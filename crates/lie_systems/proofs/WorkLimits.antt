-- What an action makes is within the limits or past one of them, and not both; so is a work of listed actions.
use Rattle.std.specs.Prelude.{◌≡◌, ℕ, ◌<◌, ◌≤◌, ◌⊎◌, List, length, ℤ, pos, unsigned_abs}
use Rattle.std.proofs.Common.{sym, subst, ◌∙◌, arith, inl, inr}
use Rattle.std.proofs.lemmas.List.Elements.{All-from_recursion, recursion_from_All}
use Rattle.std.specs.List.{All, Any, Contains, AllByRecursion as Every}
use Rattle.lie_math.specs.Counts.{order}
use Rattle.lie_math.specs.LinearForm.{LinearForm}
use Rattle.lie_math.specs.Limits.{number_limit, greatest_exponent, greatest_term_count, FitsNumber, HasLowExponents, HasWideCoefficient, HasHighExponent}
use Rattle.lie_math.specs.Monomial.{Monomial, exponent, powers}
use Rattle.lie_math.specs.Polynomial.{WholePolynomial, coefficient, terms}
use Rattle.lie_math.proofs.CanonicalLists.{value_has}
use Rattle.lie_math.proofs.Decisions.{at_most_or_greater, every_or_any, any_with}
use Rattle.lie_math.proofs.EveryElement.{every_contained, every_of_contained}
use Rattle.lie_math.proofs.FiniteSum.{entries_of}
use Rattle.lie_systems.specs.Bulk.{greatest_form_order}
use Rattle.lie_systems.specs.Triples.{Triple, triples}
use Rattle.lie_systems.specs.Works.{Limit, OnCoefficients, OnExponents, OnTerms, OnOrders, OnUnknowns, OnWidth, Made, APolynomial, AForm, ANumber, Triples, AnUnknown, ABasis, greatest_unknown, greatest_basis_unknown_count, greatest_column_count, IsMadeWithin, IsMadePast, IsWorkWithin, IsWorkPast}

-- ---- numbers and monomials
fits_or_wide : (n : ℕ) → (n < number_limit) ⊎ (number_limit ≤ n)
fits_or_wide n = go (at_most_or_greater number_limit n)
  where
    go : (number_limit ≤ n) ⊎ (n < number_limit) → (n < number_limit) ⊎ (number_limit ≤ n)
    go (inl h) = inr h
    go (inr h) = inl h

wide_apart : (z : ℤ) → number_limit ≤ unsigned_abs z → ¬ (z ≡ pos 0)
wide_apart z h e = let w : number_limit ≤ 0 = subst (λ y. number_limit ≤ unsigned_abs y) e h in omega arith

low_or_high : (m : Monomial) → HasLowExponents m ⊎ ((v : ℕ) × (greatest_exponent < exponent m v))
low_or_high m = go (every_or_any (λ (p : ℕ × ℕ). p.1 ≤ greatest_exponent) (λ p. greatest_exponent < p.1) (λ p. at_most_or_greater p.1 greatest_exponent) m.list)
  where
    go : Every (λ (p : ℕ × ℕ). p.1 ≤ greatest_exponent) m.list ⊎ Any (λ (p : ℕ × ℕ). greatest_exponent < p.1) m.list → HasLowExponents m ⊎ ((v : ℕ) × (greatest_exponent < exponent m v))
    go (inl h) = inl (λ v. low v (at_most_or_greater (exponent m v) greatest_exponent))
      where
        low : (v : ℕ) → (exponent m v ≤ greatest_exponent) ⊎ (greatest_exponent < exponent m v) → exponent m v ≤ greatest_exponent
        low v (inl k) = k
        low v (inr k) = value_has powers (λ p. p.1 ≤ greatest_exponent) v m.list m.canonical h (λ z. absurd (let e : exponent m v ≡ 0 = z in omega arith))
    go (inr a) =
        let r = any_with (λ (p : ℕ × ℕ). greatest_exponent < p.1) (λ p. exponent m p.0 ≡ p.1) m.list (entries_of powers m (λ p. exponent m p.0 ≡ p.1) (λ p is apart. is)) a in
        inr ((r.0).0, subst (λ e. greatest_exponent < e) (sym r.1) r.2)

-- ---- polynomials
module _ (p : WholePolynomial) where
  abbrev Value : Monomial × ℤ → Type 0
  Value e = (coefficient p e.0 ≡ e.1) × ¬ (e.1 ≡ pos 0)

  values : Every Value p.list
  values = entries_of terms p Value (λ e is apart. (is, apart))

  coefficients_told : ((m : Monomial) → FitsNumber (coefficient p m)) ⊎ HasWideCoefficient p
  coefficients_told = go (every_or_any (λ (e : Monomial × ℤ). FitsNumber e.1) (λ e. number_limit ≤ unsigned_abs e.1) (λ e. fits_or_wide (unsigned_abs e.1)) p.list)
    where
      go : Every (λ (e : Monomial × ℤ). FitsNumber e.1) p.list ⊎ Any (λ (e : Monomial × ℤ). number_limit ≤ unsigned_abs e.1) p.list → ((m : Monomial) → FitsNumber (coefficient p m)) ⊎ HasWideCoefficient p
      go (inl h) = inl (λ m. fits m (fits_or_wide (unsigned_abs (coefficient p m))))
        where
          fits : (m : Monomial) → (unsigned_abs (coefficient p m) < number_limit) ⊎ (number_limit ≤ unsigned_abs (coefficient p m)) → FitsNumber (coefficient p m)
          fits m (inl k) = k
          fits m (inr k) = value_has terms (λ e. FitsNumber e.1) m p.list p.canonical h (wide_apart (coefficient p m) k)
      go (inr a) =
          let r = any_with (λ (e : Monomial × ℤ). number_limit ≤ unsigned_abs e.1) Value p.list values a in
          inr ((r.0).0, subst (λ z. number_limit ≤ unsigned_abs z) (sym (r.1).0) r.2)

  exponents_told : ((m : Monomial) → ¬ (coefficient p m ≡ pos 0) → HasLowExponents m) ⊎ HasHighExponent p
  exponents_told = go (every_or_any (λ (e : Monomial × ℤ). HasLowExponents e.0) (λ e. (v : ℕ) × (greatest_exponent < exponent e.0 v)) (λ e. low_or_high e.0) p.list)
    where
      go : Every (λ (e : Monomial × ℤ). HasLowExponents e.0) p.list ⊎ Any (λ (e : Monomial × ℤ). (v : ℕ) × (greatest_exponent < exponent e.0 v)) p.list → ((m : Monomial) → ¬ (coefficient p m ≡ pos 0) → HasLowExponents m) ⊎ HasHighExponent p
      go (inl h) = inl (λ m n. value_has terms (λ e. HasLowExponents e.0) m p.list p.canonical h n)
      go (inr a) =
          let r = any_with (λ (e : Monomial × ℤ). (v : ℕ) × (greatest_exponent < exponent e.0 v)) Value p.list values a in
          inr ((r.0).0, (λ z. (r.1).1 (sym (r.1).0 ∙ z)), r.2)

-- ---- what an action makes
abbrev Told : Made → Type 0
Told b = IsMadeWithin b ⊎ ((limit : Limit) × IsMadePast limit b)

told_polynomial : (p : WholePolynomial) → Told (APolynomial p)
told_polynomial p = go (coefficients_told p) (exponents_told p) (at_most_or_greater (length p.list) greatest_term_count)
  where
    go : ((m : Monomial) → FitsNumber (coefficient p m)) ⊎ HasWideCoefficient p → ((m : Monomial) → ¬ (coefficient p m ≡ pos 0) → HasLowExponents m) ⊎ HasHighExponent p
        → (length p.list ≤ greatest_term_count) ⊎ (greatest_term_count < length p.list) → Told (APolynomial p)
    go (inl c) (inl e) (inl t) = inl (record { coefficients = c; exponents = e; terms = t })
    go (inr c) e t = inr (OnCoefficients, c)
    go (inl c) (inr e) t = inr (OnExponents, e)
    go (inl c) (inl e) (inr t) = inr (OnTerms, t)

-- each triple has P, or some triple has Q
triples_told : (P Q : Triple → Type 0) → ((t : Triple) → P t ⊎ Q t) → (E : LinearForm) → All P (triples E) ⊎ Any Q (triples E)
triples_told P Q tell E = go (every_or_any P Q tell (triples E))
  where
    go : Every P (triples E) ⊎ Any Q (triples E) → All P (triples E) ⊎ Any Q (triples E)
    go (inl h) = inl (All-from_recursion P (triples E) h)
    go (inr a) = inr a

told_form : (E : LinearForm) → Told (AForm E)
told_form E =
    go (triples_told _ (λ (t : Triple). number_limit ≤ unsigned_abs t.2) (λ t. fits_or_wide (unsigned_abs t.2)) E)
    (triples_told _ (λ (t : Triple). (v : ℕ) × (greatest_exponent < exponent t.1 v)) (λ t. low_or_high t.1) E)
    (triples_told _ (λ (t : Triple). greatest_form_order < order t.0.counts) (λ t. at_most_or_greater (order t.0.counts) greatest_form_order) E)
    (at_most_or_greater (length (triples E)) greatest_term_count)
  where
    go : All (λ (t : Triple). FitsNumber t.2) (triples E) ⊎ Any (λ (t : Triple). number_limit ≤ unsigned_abs t.2) (triples E)
        → All (λ (t : Triple). HasLowExponents t.1) (triples E) ⊎ Any (λ (t : Triple). (v : ℕ) × (greatest_exponent < exponent t.1 v)) (triples E)
        → All (λ (t : Triple). order t.0.counts ≤ greatest_form_order) (triples E) ⊎ Any (λ (t : Triple). greatest_form_order < order t.0.counts) (triples E)
        → (length (triples E) ≤ greatest_term_count) ⊎ (greatest_term_count < length (triples E)) → Told (AForm E)
    go (inl n) (inl e) (inl o) (inl t) = inl (record { numbers = n; exponents = e; orders = o; few = t })
    go (inr n) e o t = inr (OnCoefficients, n)
    go (inl n) (inr e) o t = inr (OnExponents, e)
    go (inl n) (inl e) (inr o) t = inr (OnOrders, o)
    go (inl n) (inl e) (inl o) (inr t) = inr (OnTerms, t)

told_basis : (unknowns columns : ℕ) → Told (ABasis unknowns columns)
told_basis unknowns columns = go (at_most_or_greater unknowns greatest_basis_unknown_count) (at_most_or_greater columns greatest_column_count)
  where
    go : (unknowns ≤ greatest_basis_unknown_count) ⊎ (greatest_basis_unknown_count < unknowns) → (columns ≤ greatest_column_count) ⊎ (greatest_column_count < columns) → Told (ABasis unknowns columns)
    go (inl u) (inl c) = inl (u, c)
    go (inr u) c = inr (OnWidth, inl u)
    go (inl u) (inr c) = inr (OnWidth, inr c)

pub within_or_past : (b : Made) → IsMadeWithin b ⊎ ((limit : Limit) × IsMadePast limit b)
within_or_past (APolynomial p) = told_polynomial p
within_or_past (AForm E) = told_form E
within_or_past (ANumber n) = go (fits_or_wide n)
  where
    go : (n < number_limit) ⊎ (number_limit ≤ n) → Told (ANumber n)
    go (inl h) = inl h
    go (inr h) = inr (OnCoefficients, h)
within_or_past (Triples n) = go (at_most_or_greater n greatest_term_count)
  where
    go : (n ≤ greatest_term_count) ⊎ (greatest_term_count < n) → Told (Triples n)
    go (inl h) = inl h
    go (inr h) = inr (OnTerms, h)
within_or_past (AnUnknown n) = go (at_most_or_greater n greatest_unknown)
  where
    go : (n ≤ greatest_unknown) ⊎ (greatest_unknown < n) → Told (AnUnknown n)
    go (inl h) = inl h
    go (inr h) = inr (OnUnknowns, h)
within_or_past (ABasis unknowns columns) = told_basis unknowns columns

-- ---- not both
no_triple : (P Q : Triple → Type 0) → ((t : Triple) → P t → Q t → ⊥) → (E : LinearForm) → All P (triples E) → Any Q (triples E) → ⊥
no_triple P Q apart E h a = let r = any_with Q P (triples E) (recursion_from_All P (triples E) h) a in apart r.0 r.1 r.2

pub not_within_and_past : (limit : Limit) (b : Made) → IsMadeWithin b → IsMadePast limit b → ⊥
not_within_and_past OnCoefficients (APolynomial p) w h = let k : unsigned_abs (coefficient p h.0) < number_limit = w.coefficients h.0 in let l : number_limit ≤ unsigned_abs (coefficient p h.0) = h.1 in omega arith
not_within_and_past OnCoefficients (AForm E) w h = no_triple (λ t. FitsNumber t.2) (λ t. number_limit ≤ unsigned_abs t.2) (λ t k l. omega arith) E w.numbers h
not_within_and_past OnCoefficients (ANumber n) w h = omega arith
not_within_and_past OnExponents (APolynomial p) w h = let k = w.exponents h.0 h.1 (h.2).0 in let l = (h.2).1 in omega arith
not_within_and_past OnExponents (AForm E) w h = no_triple (λ t. HasLowExponents t.1) (λ t. (v : ℕ) × (greatest_exponent < exponent t.1 v)) (λ t k l. let a = k l.0 in let b = l.1 in omega arith) E w.exponents h
not_within_and_past OnTerms (APolynomial p) w h = let k = w.terms in omega arith
not_within_and_past OnTerms (AForm E) w h = let k = w.few in omega arith
not_within_and_past OnTerms (Triples n) w h = omega arith
not_within_and_past OnOrders (AForm E) w h = no_triple (λ t. order t.0.counts ≤ greatest_form_order) (λ t. greatest_form_order < order t.0.counts) (λ t k l. omega arith) E w.orders h
not_within_and_past OnUnknowns (AnUnknown n) w h = omega arith
not_within_and_past OnWidth (ABasis u c) w (inl h) = let k = w.0 in omega arith
not_within_and_past OnWidth (ABasis u c) w (inr h) = let k = w.1 in omega arith
not_within_and_past limit b w h = h

-- ---- works
pub work_not_within_and_past : (makes : Made → Type 0) (limit : Limit) → IsWorkWithin makes → IsWorkPast makes limit → ⊥
work_not_within_and_past makes limit w h = not_within_and_past limit h.0 (w h.0 h.1) h.2

-- a work of listed actions
pub work_within_or_past : (bs : List Made) → IsWorkWithin (Contains bs) ⊎ ((limit : Limit) × IsWorkPast (Contains bs) limit)
work_within_or_past bs = go (every_or_any (λ b. IsMadeWithin b) (λ b. (limit : Limit) × IsMadePast limit b) within_or_past bs)
  where
    go : Every IsMadeWithin bs ⊎ Any (λ b. (limit : Limit) × IsMadePast limit b) bs → IsWorkWithin (Contains bs) ⊎ ((limit : Limit) × IsWorkPast (Contains bs) limit)
    go (inl h) = inl (λ b c. every_contained IsMadeWithin bs b h c)
    go (inr a) = let r = any_with (λ b. (limit : Limit) × IsMadePast limit b) (Contains bs) bs (every_of_contained (Contains bs) bs (λ b c. c)) a in inr ((r.2).0, (r.0, r.1, (r.2).1))
