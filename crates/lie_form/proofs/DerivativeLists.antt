-- Derivatives of unknowns as code, and lists of them with coefficients.
use Rattle.std.specs.Prelude.{◌≡◌, ℕ, zero, suc, true, false, ℤ, List, [], ◌∷◌, ◌++◌, length, take, drop, OnOk, IfErr, T, ◌≤◌, ◌<◌}
use Rattle.std.specs.List.{AllByRecursion as Every}
use Rattle.std.proofs.Common.{Result, Ok, Err, refl, sym, ap, ap₂, subst, ◌∙◌, arith, get_or, Equal, Greater, Ordering, Less, is_lt, is_gt, true≢false}
use Rattle.std.proofs.lemmas.List.{length-map}
use Rattle.std.specs.List.Sorted.{IsPartitionedBy}
use Rattle.std.specs.FinMap.Entries.{by_order}
use Rattle.lie_math.specs.Counts.{Derivative, derivative_cmp}
use Rattle.lie_math.specs.LinearForm.{forms, ◌+ᶠ◌, form_term}
use Rattle.lie_math.specs.FiniteSum as finite
use Rattle.lie_math.specs.FiniteSumLaws.{plus_comm, value-of, list-of, same_list}
use Rattle.lie_math.specs.FiniteSum.{list_is_empty, IsCanonical}
use Rattle.lie_math.specs.Canonical.{canonical-add_at, normal-canonical}
use Rattle.lie_math.specs.Monomial.{Monomial}
use Rattle.lie_math.specs.DerivativeOrder.{derivative_same}
use Rattle.lie_math.specs.Polynomial.{WholePolynomial, terms, ◌+ᴾ◌}
use Rattle.lie_math.proofs.FiniteSum.{entries_of}
use Rattle.lie_math.proofs.CanonicalLists.{of-cons, canonical_below, canonical_tail}
use Rattle.lie_math.specs.DerivativeOrder.{derivative_cmp_total}
use Rattle.std.specs.Ordering.{ordering_reverse}
use Rattle.lie_math.specs.Canonical.{first, second}
use Rattle.lie_math.specs.SortedSum.{below_all}
use Rattle.lie_math.specs.SortedSum.{add_at, put_new, value_at}
use Rattle.lie_jet.specs.Derivatives.{derivative_of}
use Rattle.lie_form.specs.DerivativeTerms.{derivative_terms, GoesTo, GoesNoFurther, IsFirst, IsReplaced, HoldsAt}
use Rattle.lie_jet.specs.declared.derivative.Der.{Der}
use Rattle.lie_jet.proofs.ListPlaces.{get_map, head_cut}

pub is_empty : (p : WholePolynomial) → length p.list ≡ 0 → finite.is_none terms p ≡ true
is_empty p h = go p.list h
  where
    go : (es : List (Monomial × ℤ)) → length es ≡ 0 → list_is_empty es ≡ true
    go [] h = refl
    go (e ∷ es) h = absurd (omega arith)

pub is_not_empty : (p : WholePolynomial) → ¬ (length p.list ≡ 0) → finite.is_none terms p ≡ false
is_not_empty p h = go p.list h
  where
    go : (es : List (Monomial × ℤ)) → ¬ (length es ≡ 0) → list_is_empty es ≡ false
    go [] h = absurd (h refl)
    go (e ∷ es) h = refl

-- a derivative that comes behind the one at a place, in a list in printed order, goes behind that place
module _ {Y : Type 0} where
  none_taken : (ys : List Y) → take 0 ys ≡ []
  none_taken [] = refl
  none_taken (y ∷ ys) = refl

  none_dropped : (ys : List Y) → drop 0 ys ≡ ys
  none_dropped [] = refl
  none_dropped (y ∷ ys) = refl

less_of : (r : Ordering) → T (is_lt r) → r ≡ Less
less_of Less h = refl
less_of Equal h = absurd h
less_of Greater h = absurd h

below_at : (x : Derivative) (ys : List (Derivative × WholePolynomial)) (i : ℕ) (e : Derivative × WholePolynomial) → T (below_all derivative_cmp forms.values x ys) → i < length ys → e ≡ get_or ys i e → derivative_cmp x e.0 ≡ Less
below_at x [] i e b h q = absurd (omega arith)
below_at x (y ∷ ys) zero e b h q = subst (λ (z : Derivative × WholePolynomial). derivative_cmp x z.0 ≡ Less) (sym q) (less_of _ (first (is_lt (derivative_cmp x y.0)) (below_all derivative_cmp forms.values x ys) b))
below_at x (y ∷ ys) (suc i) e b h q = below_at x ys i e (second (is_lt (derivative_cmp x y.0)) (below_all derivative_cmp forms.values x ys) b) (omega arith) q

greater_of : (r : Ordering) → is_gt r ≡ true → r ≡ Greater
greater_of Less h = absurd (true≢false (sym h))
greater_of Equal h = absurd (true≢false (sym h))
greater_of Greater h = refl

behind : (d e y : Derivative) → derivative_cmp d e ≡ Greater → derivative_cmp y e ≡ Less → derivative_cmp d y ≡ Greater
behind d e y r l =
    let o = derivative_cmp_total in
    o.antisymm d y ∙ ap ordering_reverse (o.trans y e d l (o.antisymm e d ∙ ap ordering_reverse r))

module _ (d : Derivative) (a : WholePolynomial) where
  past_first : (y : Derivative × WholePolynomial) (ys : List (Derivative × WholePolynomial)) → derivative_cmp d y.0 ≡ Greater → add_at derivative_cmp forms.values d a (y ∷ ys) ≡ y ∷ add_at derivative_cmp forms.values d a ys
  past_first y ys r = ap (λ o. by_order o (put_new derivative_cmp forms.values d a (y ∷ ys)) (put_new derivative_cmp forms.values d (forms.values.adder.plus a y.1) ys) (y ∷ add_at derivative_cmp forms.values d a ys)) r

  -- a derivative that comes behind the first i of a list goes to the i-th place or behind it
  pub goes_to_point : (ts : List (Der × WholePolynomial)) (i : ℕ) → i ≤ length ts
      → ((k : ℕ) (t : Der × WholePolynomial) → k < i → is_gt (derivative_cmp d (derivative_of (get_or ts k t).0)) ≡ true)
      → GoesTo d a (derivative_terms ts) i
  goes_to_point ts zero le h =
      sym (ap₂ (λ (xs : List (Derivative × WholePolynomial)) (zs : List (Derivative × WholePolynomial)).
      xs ++ add_at derivative_cmp forms.values d a zs) (none_taken (derivative_terms ts)) (none_dropped (derivative_terms ts)))
  goes_to_point [] (suc i) le h = absurd (omega arith)
  goes_to_point (y ∷ ts) (suc i) le h =
      past_first (derivative_of y.0, y.1) (derivative_terms ts) (greater_of _ (h 0 y (omega arith)))
      ∙ ap (λ l. (derivative_of y.0, y.1) ∷ l) (goes_to_point ts i (omega arith) (λ k t g. h (suc k) t (next k g)))
    where
      next : (k : ℕ) → k < i → suc k < suc i
      next k g = omega arith

-- and no further, where it comes behind none from there on
pub stops_at_point : (d : Derivative) (ts : List (Der × WholePolynomial)) (i : ℕ)
    → ((k : ℕ) (t : Der × WholePolynomial) → i ≤ k → k < length ts → is_gt (derivative_cmp d (derivative_of (get_or ts k t).0)) ≡ false)
    → GoesNoFurther d (drop i (derivative_terms ts))
stops_at_point d [] zero h = tt
stops_at_point d [] (suc i) h = tt
stops_at_point d (y ∷ ts) zero h = λ q. true≢false (sym (ap is_gt q) ∙ h 0 y (omega arith) (omega arith))
stops_at_point d (y ∷ ts) (suc i) h = stops_at_point d ts i (λ k t l g. h (suc k) t (later k l) (less k g))
  where
    later : (k : ℕ) → i ≤ k → suc i ≤ suc k
    later k l = omega arith

    less : (k : ℕ) → k < length ts → suc k < length (y ∷ ts)
    less k g = omega arith

-- those behind which a derivative comes stand first
got_again : {Y : Type 0} (ys : List Y) (i : ℕ) (e : Y) → get_or ys i e ≡ get_or ys i (get_or ys i e)
got_again [] i e = refl
got_again (y ∷ ys) zero e = refl
got_again (y ∷ ys) (suc i) e = got_again ys i e

pub lesser_stand_first : (d : Derivative) (ts : List (Der × WholePolynomial)) → IsCanonical forms (derivative_terms ts)
    → IsPartitionedBy (λ (t : Der × WholePolynomial). is_gt (derivative_cmp d (derivative_of t.0))) ts
lesser_stand_first d [] c i j e le lt h = absurd (omega arith)
lesser_stand_first d (y ∷ ts) c zero zero e le lt h = h
lesser_stand_first d (y ∷ ts) c zero (suc j) e le lt h =
    let f : Der × WholePolynomial → Derivative × WholePolynomial = λ t. (derivative_of t.0, t.1) in
    ap is_gt (behind d (derivative_of (get_or ts j e).0) (derivative_of y.0) (greater_of _ h)
    (below_at (derivative_of y.0) (derivative_terms ts) j (f (get_or ts j e)) (canonical_below forms (f y) (derivative_terms ts) c)
    (omega (arith, length-map ts f)) (get_map f ts j (get_or ts j e) (got_again ts j e))))
lesser_stand_first d (y ∷ ts) c (suc i) zero e le lt h = absurd (omega arith)
lesser_stand_first d (y ∷ ts) c (suc i) (suc j) e le lt h =
    lesser_stand_first d ts (canonical_tail forms (derivative_of y.0, y.1) (derivative_terms ts) c) i j e (omega arith) (omega arith) h

pub at_end : (d : Derivative) (es : List (Derivative × WholePolynomial)) (n : ℕ) → length es ≤ n → GoesNoFurther d (drop n es)
at_end d [] zero h = tt
at_end d [] (suc n) h = tt
at_end d (e ∷ es) zero h = absurd (omega arith)
at_end d (e ∷ es) (suc n) h = at_end d es n (omega arith)

pub first_is : (d : Derivative) (es fs : List (Derivative × WholePolynomial)) (e : Derivative × WholePolynomial) → es ≡ e ∷ fs → derivative_cmp d e.0 ≡ Equal → IsFirst d es
first_is d es fs e h q = subst (IsFirst d) (sym h) q

pub not_first : (d : Derivative) (es fs : List (Derivative × WholePolynomial)) (e : Derivative × WholePolynomial) → es ≡ e ∷ fs → ¬ (derivative_cmp d e.0 ≡ Equal) → ¬ (IsFirst d es)
not_first d es fs e h n q = n (subst (IsFirst d) h q)

-- ---- a put into a list in printed order
pub added_at_first : (d : Derivative) (a : WholePolynomial) (es new : List (Derivative × WholePolynomial)) (i : ℕ) → GoesTo d a es i → IsFirst d (drop i es) → IsReplaced es i (λ b. b +ᴾ a) new → new ≡ add_at derivative_cmp forms.values d a es
added_at_first d a es new i to first replaced = go (drop i es) refl first ∙ sym to
  where
    go : (ds : List (Derivative × WholePolynomial)) → drop i es ≡ ds → IsFirst d ds → new ≡ take i es ++ add_at derivative_cmp forms.values d a (drop i es)
    go [] q h = absurd h
    go (e ∷ fs) q h =
        replaced e fs q
        ∙ ap (λ l. take i es ++ l) (ap₂ (λ k b. put_new derivative_cmp forms.values k b fs) (sym (derivative_same d e.0 h)) (plus_comm terms e.1 a)
        ∙ sym (ap (λ l. add_at derivative_cmp forms.values d a l) q
        ∙ ap (λ o. by_order o (put_new derivative_cmp forms.values d a (e ∷ fs)) (put_new derivative_cmp forms.values d (forms.values.adder.plus a e.1) fs) (e ∷ add_at derivative_cmp forms.values d a fs)) h))

every_cut : (P : Derivative × WholePolynomial → Type 0) (xs fs : List (Derivative × WholePolynomial)) (i : ℕ) (e : Derivative × WholePolynomial) → Every P xs → drop i xs ≡ e ∷ fs → P e
every_cut P [] fs zero e h q = absurd (cc)
every_cut P [] fs (suc i) e h q = absurd (cc)
every_cut P (x ∷ xs) fs zero e h q = let r : x ≡ e = cc in subst P r h.0
every_cut P (x ∷ xs) fs (suc i) e h q = every_cut P xs fs i e h.1 q

pub value_at_cut : (es fs : List (Derivative × WholePolynomial)) (i : ℕ) (e : Derivative × WholePolynomial) → IsCanonical forms es → drop i es ≡ e ∷ fs → value_at derivative_cmp forms.values e.0 es ≡ e.1
value_at_cut es fs i e canonical q =
    sym (value-of forms es e.0)
    ∙ every_cut (λ (y : Derivative × WholePolynomial). finite.value forms (finite.of forms es) y.0 ≡ y.1) es fs i e
    (subst (Every (λ (y : Derivative × WholePolynomial). finite.value forms (finite.of forms es) y.0 ≡ y.1)) (list-of forms es canonical) (entries_of forms (finite.of forms es) (λ (y : Derivative × WholePolynomial). finite.value forms (finite.of forms es) y.0 ≡ y.1) (λ y a b. a))) q

-- the coefficient at the place is the value there
pub coefficient_at_first : (d : Derivative) (es : List (Derivative × WholePolynomial)) (i : ℕ) (P : WholePolynomial → Type 0) → IsCanonical forms es → IsFirst d (drop i es) → HoldsAt es i P → P (finite.value forms (finite.of forms es) d)
coefficient_at_first d es i P canonical first holds = go (drop i es) refl first
  where
    go : (ds : List (Derivative × WholePolynomial)) → drop i es ≡ ds → IsFirst d ds → P (finite.value forms (finite.of forms es) d)
    go [] q h = absurd h
    go (e ∷ fs) q h = subst P (sym (value-of forms es d ∙ ap (λ k. value_at derivative_cmp forms.values k es) (derivative_same d e.0 h) ∙ value_at_cut es fs i e canonical q)) (holds e fs q)

form_added : (d : Derivative) (a : WholePolynomial) (es : List (Derivative × WholePolynomial)) → IsCanonical forms es → finite.of forms (add_at derivative_cmp forms.values d a es) ≡ finite.of forms ((d, a) ∷ es)
unfolding finite.of
form_added d a es canonical =
    same_list forms (finite.of forms (add_at derivative_cmp forms.values d a es)) (finite.of forms ((d, a) ∷ es))
    (list-of forms (add_at derivative_cmp forms.values d a es) (canonical-add_at derivative_cmp forms.values forms.total forms.same d a es canonical) ∙ sym (ap (add_at derivative_cmp forms.values d a) (normal-canonical derivative_cmp forms.values forms.total forms.same es canonical)))

form_one : (d : Derivative) (a : WholePolynomial) → finite.of forms ((d, a) ∷ []) ≡ form_term d a
unfolding finite.term
form_one d a = refl

pub put_form : (d : Derivative) (a : WholePolynomial) (es new : List (Derivative × WholePolynomial)) → IsCanonical forms es → new ≡ add_at derivative_cmp forms.values d a es → IsCanonical forms new × (finite.of forms new ≡ finite.of forms es +ᶠ form_term d a)
put_form d a es new canonical e = (
  subst (IsCanonical forms) (sym e) (canonical-add_at derivative_cmp forms.values forms.total forms.same d a es canonical),
  ap (finite.of forms) e ∙ form_added d a es canonical ∙ of-cons forms (d, a) es ∙ plus_comm forms (finite.of forms ((d, a) ∷ [])) (finite.of forms es) ∙ ap (λ E. finite.of forms es +ᶠ E) (form_one d a),
)

-- the term at a place
pub term_at : (xs : List (Der × WholePolynomial)) (fs : List (Derivative × WholePolynomial)) (i : ℕ) (e : Derivative × WholePolynomial) (x : Der × WholePolynomial) → drop i (derivative_terms xs) ≡ e ∷ fs → x ≡ get_or xs i x → ◌≡◌ {A = Derivative × WholePolynomial} (derivative_of x.0, x.1) e
term_at xs fs i e x q h = head_cut (derivative_terms xs) fs i e (derivative_of x.0, x.1) q (get_map (λ (t : Der × WholePolynomial). (derivative_of t.0, t.1)) xs i x h)

pub canonical_after : {V E : Type 0} (r : Result V E) (d : Derivative) (a : WholePolynomial) (xs ys : List (Der × WholePolynomial)) → IsCanonical forms (derivative_terms xs) → OnOk r (derivative_terms ys ≡ add_at derivative_cmp forms.values d a (derivative_terms xs)) → IfErr r (λ _. ys ≡ xs) → IsCanonical forms (derivative_terms ys)
canonical_after (Ok v) d a xs ys canonical h k = (put_form d a (derivative_terms xs) (derivative_terms ys) canonical h).0
canonical_after (Err e) d a xs ys canonical h k = subst (λ (zs : List (Der × WholePolynomial)). IsCanonical forms (derivative_terms zs)) (sym k) canonical
