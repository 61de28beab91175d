-- What is past a limit in one coefficient is past it in the form, and a form is within the limits where its coefficients are and its triples are few.
use Rattle.std.specs.Prelude.{◌≡◌, not, T, ℕ, zero, suc, ◌<◌, ◌≤◌, ◌^◌, Bool, true, false, cond, List, [], ◌∷◌, ◌++◌, length, ℤ, pos, unsigned_abs, ◌+ℤ◌}
use Rattle.std.specs.List.{AllByRecursion as Every, Any}
use Rattle.std.specs.Ordering.{eq_by_cmp}
use Rattle.std.proofs.Common.{refl, sym, ap, subst, ◌∙◌, arith, get_or, length-append, append_assoc}
use Rattle.std.proofs.lemmas.List.Elements.{All-from_recursion}
use Rattle.lie_math.specs.Canonical.{value_at-head}
use Rattle.lie_math.specs.Counts.{Derivative, derivative_cmp, order}
use Rattle.lie_math.specs.FiniteSum as finite
use Rattle.lie_math.specs.FiniteSumLaws as finite_laws
use Rattle.lie_math.specs.Integer.{coefficients}
use Rattle.lie_math.specs.Limits.{FitsNumber, HasLowExponents, IsWithinLimits}
use Rattle.lie_math.specs.LinearForm.{forms, LinearForm}
use Rattle.lie_math.specs.Monomial.{Monomial, monomial_cmp, exponent}
use Rattle.lie_math.specs.MonomialOrder.{monomial_cmp_total, monomial_cmp-IsAntisymmetric}
use Rattle.lie_math.specs.Polynomial.{WholePolynomial, terms, coefficient, 0ᴾ}
use Rattle.lie_math.specs.SortedSum.{value_at}
use Rattle.lie_math.proofs.SomeElement.{any_head, any_tail, any_left, any_right}
use Rattle.lie_math.proofs.FiniteSum.{key, entries_of}
use Rattle.lie_math.specs.FiniteSum.{IsCanonical, list_is_empty}
use Rattle.lie_math.proofs.CanonicalLists.{canonical_below, canonical_tail, canonical_value}
use Rattle.lie_systems.specs.Triples.{Triple, triples, triples_in, triples_with}
use Rattle.lie_systems.specs.Bulk as bulks
use Rattle.lie_ring.specs.declared.failures.PastKind.TheVariants.{Coefficient, Exponent, Terms, Order, Unknowns, Width}
use Rattle.lie_ring.specs.declared.failures.PolyFail.{PolyFail}
use Rattle.lie_ring.specs.declared.failures.PolyFail.TheVariants.{Past, NoMemory}
use Rattle.lie_math.proofs.EveryElement.{every-append}
use Rattle.lie_form.specs.FormLimits.{IsFormCause, IsFormCoefficientCause}
use Rattle.lie_form.proofs.FormBounds.{at}

-- ---- a coefficient that is not 0 is that of a triple
triple_at : (P : Triple → Type 0) (d : Derivative) (m : Monomial) (es : List (Monomial × ℤ)) → IsCanonical terms es → ¬ (value_at monomial_cmp coefficients m es ≡ pos 0) → P (d, m, value_at monomial_cmp coefficients m es) → Any P (triples_with d es)
triple_at P d m [] c n h = absurd (n refl)
triple_at P d m (e ∷ es) c n h = go (eq_by_cmp monomial_cmp m e.0) refl (triple_at P d m es (canonical_tail terms e es c))
  where
    go : (b : Bool) → eq_by_cmp monomial_cmp m e.0 ≡ b → (¬ (value_at monomial_cmp coefficients m es ≡ pos 0) → P (d, m, value_at monomial_cmp coefficients m es) → Any P (triples_with d es)) → Any P ((d, e.0, e.1) ∷ triples_with d es)
    go true f rest =
        let s : m ≡ e.0 = key terms m e.0 f in
        let v : value_at monomial_cmp coefficients m (e ∷ es) ≡ e.1 = ap (λ k. value_at monomial_cmp coefficients k (e ∷ es)) s ∙ value_at-head monomial_cmp coefficients monomial_cmp_total monomial_cmp-IsAntisymmetric e es (canonical_below terms e es c) in
        any_head P (d, e.0, e.1) (triples_with d es) (subst (λ (x : Monomial × ℤ). P (d, x.0, x.1)) (λ i. (s i, v i)) h)
    go false f rest =
        let v : value_at monomial_cmp coefficients m (e ∷ es) ≡ value_at monomial_cmp coefficients m es = ap (λ b. cond b e.1 (pos 0) +ℤ value_at monomial_cmp coefficients m es) f ∙ lib.IntN.+ℤ_idl _ in
        any_tail P (d, e.0, e.1) (triples_with d es) (rest (λ z. n (v ∙ z)) (subst (λ x. P (d, m, x)) v h))

-- ---- the triples of one derivative stand together
pub none_listed : (0ᴾ).list ≡ []
unfolding finite.none finite.of
none_listed = refl

abbrev coefficient_in : Derivative → List (Derivative × WholePolynomial) → WholePolynomial
coefficient_in d es = value_at derivative_cmp forms.values d es

cut_at : (d : Derivative) (es : List (Derivative × WholePolynomial)) → IsCanonical forms es → (xs : List Triple) × ((ys : List Triple) × (triples_in es ≡ xs ++ (triples_with d (coefficient_in d es).list ++ ys)))
cut_at d [] c = ([], ([], sym (ap (λ (l : List (Monomial × ℤ)). triples_with d l ++ []) none_listed)))
cut_at d (e ∷ es) c = by (eq_by_cmp derivative_cmp d e.0) refl (cut_at d es (canonical_tail forms e es c))
  where
    by : (t : Bool) → eq_by_cmp derivative_cmp d e.0 ≡ t → ((xs : List Triple) × ((ys : List Triple) × (triples_in es ≡ xs ++ (triples_with d (coefficient_in d es).list ++ ys)))) → (xs : List Triple) × ((ys : List Triple) × (triples_with e.0 e.1.list ++ triples_in es ≡ xs ++ (triples_with d (coefficient_in d (e ∷ es)).list ++ ys)))
    by true t rest =
        let s : d ≡ e.0 = key forms d e.0 t in
        let v : coefficient_in d (e ∷ es) ≡ e.1 = ap (λ k. coefficient_in k (e ∷ es)) s ∙ value_at-head derivative_cmp forms.values forms.total forms.same e es (canonical_below forms e es c) in
        ([], (triples_in es, sym (ap (λ (x : Derivative × WholePolynomial). triples_with x.0 x.1.list ++ triples_in es) (λ i. (s i, v i)))))
    by false t rest =
        let v : coefficient_in d (e ∷ es) ≡ coefficient_in d es = ap (λ b. forms.values.adder.plus (cond b e.1 forms.values.adder.nil) (coefficient_in d es)) t ∙ forms.values.adder.idl (coefficient_in d es) in
        (triples_with e.0 e.1.list ++ rest.0, (rest.1.0, ap (λ l. triples_with e.0 e.1.list ++ l) rest.1.1 ∙ sym (append_assoc (triples_with e.0 e.1.list) rest.0 _) ∙ ap (λ (p : WholePolynomial). (triples_with e.0 e.1.list ++ rest.0) ++ (triples_with d p.list ++ rest.1.0)) (sym v)))

pub length-with : (d : Derivative) (es : List (Monomial × ℤ)) → length (triples_with d es) ≡ length es
length-with d [] = refl
length-with d (e ∷ es) = ap suc (length-with d es)

module _ (E : LinearForm) (d : Derivative) where
  before : List Triple
  before = (cut_at d E.list E.canonical).0

  after : List Triple
  after = (cut_at d E.list E.canonical).1.0

  together : triples E ≡ before ++ (triples_with d (at E d).list ++ after)
  unfolding before after
  together = (cut_at d E.list E.canonical).1.1

  some_triple : (P : Triple → Type 0) (m : Monomial) → ¬ (coefficient (at E d) m ≡ pos 0) → P (d, m, coefficient (at E d) m) → Any P (triples E)
  some_triple P m n h = subst (Any P) (sym together) (any_right P before _ (any_left P (triples_with d (at E d).list) after (triple_at P d m (at E d).list (at E d).canonical n h)))

  -- a derivative with a coefficient that is not 0 is that of a triple
  pub triple_of : (P : Triple → Type 0) → ¬ (at E d ≡ 0ᴾ) → ((m : Monomial) (a : ℤ) → P (d, m, a)) → Any P (triples E)
  triple_of P n h = subst (Any P) (sym together) (any_right P before _ (any_left P (triples_with d (at E d).list) after (by (at E d).list refl)))
    where
      by : (es : List (Monomial × ℤ)) → (at E d).list ≡ es → Any P (triples_with d es)
      by [] e = absurd (n (finite_laws.same_list terms (at E d) 0ᴾ (e ∙ sym none_listed)))
      by (x ∷ es) e = any_head P (d, x.0, x.1) (triples_with d es) (h x.0 x.1)

  many_triples : 1000000 < length (at E d).list → 1000000 < length (triples E)
  many_triples h = subst (λ us. 1000000 < length us) (sym together) (let a = length-append before (triples_with d (at E d).list ++ after) in let b = length-append (triples_with d (at E d).list) after in let l = length-with d (at E d).list in omega arith)

wide_apart : (z : ℤ) → 2 ^ 127 ≤ unsigned_abs z → ¬ (z ≡ pos 0)
wide_apart z h k = let w : 2 ^ 127 ≤ 0 = subst (λ y. 2 ^ 127 ≤ unsigned_abs y) k h in omega arith

pub coefficient_cause : (fail : PolyFail) (E : LinearForm) → IsFormCoefficientCause fail E → IsFormCause fail E
coefficient_cause (Past Coefficient) E c = some_triple E c.0 (λ (t : Triple). 2 ^ 127 ≤ unsigned_abs t.2) (c.1).0 (wide_apart _ (c.1).1) (c.1).1
coefficient_cause (Past Exponent) E c = some_triple E c.0 (λ (t : Triple). (v : ℕ) × (65535 < exponent t.1 v)) (c.1).0 (c.1).1 (c.1).2
coefficient_cause (Past Terms) E c = many_triples E c.0 c.1
coefficient_cause (Past Order) E c = absurd c.1
coefficient_cause (Past Unknowns) E c = absurd c.1
coefficient_cause (Past Width) E c = absurd c.1
coefficient_cause NoMemory E c = tt

-- ---- the triples at a place of the list
pub triple_at_place : (P : Triple → Type 0) (es : List (Derivative × WholePolynomial)) (i : ℕ) (e : Derivative × WholePolynomial) → IsCanonical forms es → i < length es → e ≡ get_or es i e → ((m : Monomial) (a : ℤ) → P (e.0, m, a)) → Any P (triples_in es)
triple_at_place P [] i e c h q f = absurd (omega arith)
triple_at_place P (y ∷ ys) zero e c h q f = any_left P (triples_with y.0 y.1.list) (triples_in ys) (by y.1.list (canonical_value forms y ys c))
  where
    by : (es : List (Monomial × ℤ)) → T (not (list_is_empty es)) → Any P (triples_with y.0 es)
    by [] n = absurd n
    by (z ∷ zs) n = any_head P (y.0, z.0, z.1) (triples_with y.0 zs) (subst (λ (x : Derivative × WholePolynomial). P (x.0, z.0, z.1)) q (f z.0 z.1))
triple_at_place P (y ∷ ys) (suc i) e c h q f = any_right P (triples_with y.0 y.1.list) (triples_in ys) (triple_at_place P ys i e (canonical_tail forms y ys c) (omega arith) q f)

-- ---- within the limits
abbrev pub IsLow : Triple → Type 0
IsLow t = FitsNumber t.2 × HasLowExponents t.1 × (order t.0.counts ≤ 64)

-- a coefficient within the limits, of a derivative of an order that is not past its limit
abbrev pub IsLowEntry : Derivative × WholePolynomial → Type 0
IsLowEntry e = IsWithinLimits e.1 × (order e.0.counts ≤ 64)

low_with : (d : Derivative) (es : List (Monomial × ℤ)) → order d.counts ≤ 64 → Every (λ (e : Monomial × ℤ). FitsNumber e.1 × HasLowExponents e.0) es → Every IsLow (triples_with d es)
low_with d [] o h = tt
low_with d (e ∷ es) o h = ((h.0.0, h.0.1, o), low_with d es o h.1)

pub low_part : (d : Derivative) (p : WholePolynomial) → order d.counts ≤ 64 → IsWithinLimits p → Every IsLow (triples_with d p.list)
low_part d p o w = low_with d p.list o (entries_of terms p (λ e. FitsNumber e.1 × HasLowExponents e.0) (λ e is apart. (subst FitsNumber is (w.coefficients e.0), w.exponents e.0 (λ z. apart (sym is ∙ z)))))

low_all : (es : List (Derivative × WholePolynomial)) → Every IsLowEntry es → Every IsLow (triples_in es)
low_all [] h = tt
low_all (e ∷ es) h = every-append IsLow (triples_with e.0 e.1.list) (triples_in es) (low_part e.0 e.1 (h.0).1 (h.0).0) (low_all es h.1)

numbers_low : (us : List Triple) → Every IsLow us → Every (λ (t : Triple). FitsNumber t.2) us
numbers_low [] h = tt
numbers_low (u ∷ us) h = ((h.0).0, numbers_low us h.1)

exponents_low : (us : List Triple) → Every IsLow us → Every (λ (t : Triple). HasLowExponents t.1) us
exponents_low [] h = tt
exponents_low (u ∷ us) h = ((h.0).1, exponents_low us h.1)

orders_low : (us : List Triple) → Every IsLow us → Every (λ (t : Triple). order t.0.counts ≤ 64) us
orders_low [] h = tt
orders_low (u ∷ us) h = ((h.0).2, orders_low us h.1)

pub within_of_low : (E : LinearForm) → Every IsLow (triples E) → length (triples E) ≤ 1000000 → bulks.IsFormWithinLimits E
within_of_low E low few = record {
  numbers = All-from_recursion (λ (t : Triple). FitsNumber t.2) (triples E) (numbers_low (triples E) low);
  exponents = All-from_recursion (λ (t : Triple). HasLowExponents t.1) (triples E) (exponents_low (triples E) low);
  orders = All-from_recursion (λ (t : Triple). order t.0.counts ≤ 64) (triples E) (orders_low (triples E) low);
  few = few;
}

pub within_limits : (E : LinearForm) → Every IsLowEntry E.list → length (triples E) ≤ 1000000 → bulks.IsFormWithinLimits E
within_limits E h few = within_of_low E (low_all E.list h) few
