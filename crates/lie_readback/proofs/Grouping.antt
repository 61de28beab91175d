-- The terms of a form are grouped by its derivatives.
use Rattle.std.specs.Prelude.{ℕ, zero, suc, ◌+◌, ◌-◌, take, drop, get_or, ◌≡◌, ◌<◌, ◌≤◌, ◌^◌, nat_lt, eqb, cond, not, ◌&&◌, Bool, true, false, T, ℤ, List, [], ◌∷◌, ◌++◌, length, map, Option, Some, None, Err, refl}
use Rattle.std.specs.List.{AllByRecursion as Every}
use Rattle.std.specs.Ordering.{eq_by_cmp, is_eq}
use Rattle.std.specs.Cmp.{tied_itself}
use Rattle.std.proofs.Common.{Fits, w8, sym, ap, ap₂, add-one, drop-cons, ◌∙◌, subst, arith, append_assoc, Less, Equal, Greater, Ordering, is_lt}
use Rattle.std.proofs.lemmas.Bool.Decides.{nat_tests}
use Rattle.std.proofs.lemmas.List.{append-nil, map-append, length-drop, take_all}
use Rattle.std.specs.Global.{Vec}
use Rattle.lie_math.specs.Canonical.{first, both, below_less}
use Rattle.lie_math.specs.Counts.{Derivative, derivative_cmp, trimmed, before_counts}
use Rattle.lie_math.specs.DerivativeOrder.{derivative_cmp_total}
use Rattle.lie_math.specs.FiniteSum as finite
use Rattle.lie_math.specs.FiniteSumLaws.{list-of, of_list}
use Rattle.lie_math.specs.LinearForm.{LinearForm, forms}
use Rattle.lie_math.specs.Limits.{IsWithinLimits, FitsNumber, HasLowExponents, absolutes, absolute}
use Rattle.lie_math.specs.Monomial.{Monomial}
use Rattle.lie_math.specs.Polynomial.{WholePolynomial, terms, polynomial_of}
use Rattle.lie_math.specs.SortedSum.{below_all}
use Rattle.lie_math.proofs.CanonicalLists.{canonical_value, canonical_below, canonical_tail, canonical_cons}
use Rattle.lie_math.proofs.Limits.{absolute_of}
use Rattle.lie_ring.specs.Entries.{entries}
use Rattle.lie_ring.specs.Causes.{IsCause}
use Rattle.lie_ring.specs.declared.failures.PastKind.{PastKind}
use Rattle.lie_ring.specs.declared.failures.PolyFail.TheVariants.{Past}
use Rattle.lie_jet.proofs.Absolutes.{within_absolute, within_starved}
use Rattle.lie_jet.proofs.TotalParts.{entries_same}
use Rattle.lie_math.proofs.EveryElement.{every-append, every-back}
use Rattle.lie_math.proofs.FiniteSum.{entries_of}
use Rattle.lie_systems.specs.Triples.{Triple, triples, triples_in, triples_with}
use Rattle.lie_jet.specs.declared.derivative.Der.{Der}
use Rattle.lie_jet.specs.Derivatives.{derivative_of}
use Rattle.lie_lin.specs.Forms.{coefficients_of, AreCoefficients}
use Rattle.lie_print.specs.Printing.{PrintedTerm, of_unknown}
use Rattle.lie_poly.specs.Bulk.{AreWithin}
use Rattle.lie_poly.proofs.BulkLists.{limits_of}
use Rattle.lie_readback.specs.Readings.{◌>>=◌, Fails, Finds}
use Rattle.lie_readback.specs.declared.unread.Unread.{Unread}
use Rattle.lie_readback.specs.declared.unread.Unread.TheVariants.{Other, NoMemory}
use Rattle.lie_readback.proofs.Found.{FoundSoFar, found_fails}
use Rattle.lie_readback.specs.Groups.{Group, written_term, written_terms, derivative_in, joined, grouped, group_seen, parts_of}
use Rattle.lie_readback.specs.WellFormed.{IsKept, IsKeptCoefficient, IsReportedForm}

-- ---- groups
-- a derivative begins a group of its own behind these
abbrev Opens : List Group → Derivative → Type 0
Opens gs d = (e : Monomial × ℤ) → joined gs d e ≡ gs ++ (d, e ∷ []) ∷ []

same_derivative : (d : Derivative) → eq_by_cmp derivative_cmp d d ≡ true
same_derivative d = ap is_eq (tied_itself derivative_cmp_total d)

pub joined_behind : (gs : List Group) (g : Group) (d : Derivative) (e : Monomial × ℤ) (b : Bool) → eq_by_cmp derivative_cmp g.0 d ≡ b
    → joined (gs ++ g ∷ []) d e ≡ gs ++ cond b ((g.0, g.1 ++ e ∷ []) ∷ []) (g ∷ (d, e ∷ []) ∷ [])
joined_behind [] g d e b h = rw h refl
joined_behind (f ∷ []) g d e b h = ap (λ (l : List Group). f ∷ l) (joined_behind [] g d e b h)
joined_behind (f ∷ k ∷ gs) g d e b h = ap (λ (l : List Group). f ∷ l) (joined_behind (k ∷ gs) g d e b h)

joined_last : (gs : List Group) (d : Derivative) (L : List (Monomial × ℤ)) (e : Monomial × ℤ) → joined (gs ++ (d, L) ∷ []) d e ≡ gs ++ (d, L ++ e ∷ []) ∷ []
joined_last gs d L e = joined_behind gs (d, L) d e true (same_derivative d)

opens_behind : (gs : List Group) (g : Group) (d : Derivative) → eq_by_cmp derivative_cmp g.0 d ≡ false → Opens (gs ++ g ∷ []) d
opens_behind gs g d h e = joined_behind gs g d e false h ∙ sym (append_assoc gs (g ∷ []) ((d, e ∷ []) ∷ []))

-- groups as they are kept
pub joined_same : (gs : List Group) (g : Group) (d : Derivative) (e : Monomial × ℤ) (new : List Group) → derivative_cmp g.0 d ≡ Equal → new ≡ gs ++ (g.0, g.1 ++ e ∷ []) ∷ []
    → new ≡ joined (gs ++ g ∷ []) d e
joined_same gs g d e new h is = is ∙ sym (joined_behind gs g d e true (ap is_eq h))

pub joined_other : (gs : List Group) (g : Group) (d : Derivative) (e : Monomial × ℤ) (new : List Group) → ¬ (derivative_cmp g.0 d ≡ Equal) → new ≡ (gs ++ g ∷ []) ++ (d, e ∷ []) ∷ []
    → new ≡ joined (gs ++ g ∷ []) d e
joined_other gs g d e new n is = is ∙ append_assoc gs (g ∷ []) ((d, e ∷ []) ∷ []) ∙ sym (joined_behind gs g d e false (off (derivative_cmp g.0 d) n))
  where
    off : (o : Ordering) → ¬ (o ≡ Equal) → is_eq o ≡ false
    off Less n = refl
    off Equal n = absurd (n refl)
    off Greater n = refl

pub seen_behind : (gs : List (Der × Vec (Monomial × ℤ))) (g : Der × Vec (Monomial × ℤ)) (new : List (Der × Vec (Monomial × ℤ))) → new ≡ gs ++ g ∷ [] → map group_seen new ≡ map group_seen gs ++ group_seen g ∷ []
seen_behind gs g new is = ap (map group_seen) is ∙ map-append group_seen gs (g ∷ [])

derivative_back : (d : Derivative) → d.unknown < 2 ^ 32 → derivative_in (Some (of_unknown d)) ≡ Some d
derivative_back d small = let t : nat_lt d.unknown (2 ^ 32) ≡ true = grind (arith, nat_tests, small) in rw t refl

-- the terms of one derivative join its group
run_joins : (gs : List Group) (d : Derivative) (L M : List (Monomial × ℤ)) (rest : List Triple) → d.unknown < 2 ^ 32
    → grouped (gs ++ (d, L) ∷ []) (map written_term (triples_with d M ++ rest)) ≡ grouped (gs ++ (d, L ++ M) ∷ []) (map written_term rest)
run_joins gs d L [] rest small = ap (λ l. grouped (gs ++ (d, l) ∷ []) (map written_term rest)) (sym (append-nil L))
run_joins gs d L (e ∷ M) rest small =
    ap (λ o. o >>= λ d'. grouped (joined (gs ++ (d, L) ∷ []) d' e) (map written_term (triples_with d M ++ rest))) (derivative_back d small)
    ∙ ap (λ (l : List Group). grouped l (map written_term (triples_with d M ++ rest))) (joined_last gs d L e)
    ∙ run_joins gs d (L ++ e ∷ []) M rest small ∙ ap (λ l. grouped (gs ++ (d, l) ∷ []) (map written_term rest)) (append_assoc L (e ∷ []) M)

not_equal : (d e : Derivative) → T (is_lt (derivative_cmp d e)) → eq_by_cmp derivative_cmp d e ≡ false
not_equal d e h = go (derivative_cmp d e) h
  where
    go : (o : Ordering) → T (is_lt o) → is_eq o ≡ false
    go Less h = refl
    go Equal h = absurd h
    go Greater h = absurd h

-- the first derivative of coefficients begins a group of its own
abbrev OpensFirst : List Group → List (Derivative × WholePolynomial) → Type 0
OpensFirst gs [] = Unit {0}
OpensFirst gs (e ∷ es) = Opens gs e.0

opens_next : (gs : List Group) (d : Derivative) (L : List (Monomial × ℤ)) (es : List (Derivative × WholePolynomial)) → T (below_all derivative_cmp forms.values d es) → OpensFirst (gs ++ (d, L) ∷ []) es
opens_next gs d L [] h = tt
opens_next gs d L (e ∷ es) h = opens_behind gs (d, L) e.0 (not_equal d e.0 (first (is_lt (derivative_cmp d e.0)) (below_all derivative_cmp forms.values d es) h))

grouped_back : (gs : List Group) (es : List (Derivative × WholePolynomial)) → finite.IsCanonical forms es → OpensFirst gs es → Every (λ (e : Derivative × WholePolynomial). e.0.unknown < 2 ^ 32) es
    → grouped gs (map written_term (triples_in es)) ≡ Some (gs ++ parts_of es)
grouped_back gs [] canonical opens small = ap Some (sym (append-nil gs))
grouped_back gs (e ∷ es) canonical opens small =
    go e.1.list (canonical_value forms e es canonical) (λ hs opens. grouped_back hs es (canonical_tail forms e es canonical) opens small.1)
  where
    go : (L : List (Monomial × ℤ)) → T (not (finite.list_is_empty L))
        → ((hs : List Group) → OpensFirst hs es → grouped hs (map written_term (triples_in es)) ≡ Some (hs ++ parts_of es))
        → grouped gs (map written_term (triples_with e.0 L ++ triples_in es)) ≡ Some (gs ++ (e.0, L) ∷ parts_of es)
    go [] some rest = absurd some
    go (x ∷ M) some rest =
        ap (λ o. o >>= λ d'. grouped (joined gs d' x) (map written_term (triples_with e.0 M ++ triples_in es))) (derivative_back e.0 small.0)
        ∙ ap (λ (l : List Group). grouped l (map written_term (triples_with e.0 M ++ triples_in es))) (opens x)
        ∙ run_joins gs e.0 (x ∷ []) M (triples_in es) small.0
        ∙ rest (gs ++ (e.0, x ∷ M) ∷ []) (opens_next gs e.0 (x ∷ M) es (canonical_below forms e es canonical))
        ∙ ap Some (append_assoc gs ((e.0, x ∷ M) ∷ []) (parts_of es))

unknowns_small : (es : List (Derivative × WholePolynomial)) → finite.IsCanonical forms es → Every IsKept (triples_in es) → Every (λ (e : Derivative × WholePolynomial). e.0.unknown < 2 ^ 32) es
unknowns_small [] canonical kept = tt
unknowns_small (e ∷ es) canonical kept =
    (first_small e.1.list (canonical_value forms e es canonical) kept, unknowns_small es (canonical_tail forms e es canonical) (every-back IsKept (triples_with e.0 e.1.list) (triples_in es) kept))
  where
    first_small : (L : List (Monomial × ℤ)) → T (not (finite.list_is_empty L)) → Every IsKept (triples_with e.0 L ++ triples_in es) → e.0.unknown < 2 ^ 32
    first_small [] some kept = absurd some
    first_small (x ∷ L) some kept = (kept.0).unknown

-- the terms of a form are grouped as its coefficients
pub form_groups : (E : LinearForm) → IsReportedForm E → grouped [] (written_terms E) ≡ Some (parts_of E.list)
form_groups E h = grouped_back [] E.list E.canonical (opens_first E.list) (unknowns_small E.list E.canonical h.each)
  where
    opens_first : (es : List (Derivative × WholePolynomial)) → OpensFirst [] es
    opens_first [] = tt
    opens_first (e ∷ es) = λ x. refl

-- ---- coefficients by their groups
abbrev pub IsWithin : Derivative × WholePolynomial → Type 0
IsWithin e = IsWithinLimits e.1

abbrev pub part_of : Derivative × WholePolynomial → Group
part_of e = (e.0, e.1.list)

-- ---- coefficients
trimmed_low : (J : List ℕ) → Every (λ c. c < 2 ^ 8) J → Every (λ c. c < 2 ^ 8) (trimmed J)
trimmed_low [] h = tt
trimmed_low (c ∷ J) h = go (trimmed J) (trimmed_low J h.1)
  where
    go : (K : List ℕ) → Every (λ c. c < 2 ^ 8) K → Every (λ c. c < 2 ^ 8) (before_counts c K)
    go [] k = zero_or (eqb c 0)
      where
        zero_or : (b : Bool) → Every (λ c. c < 2 ^ 8) (cond b [] (c ∷ []))
        zero_or true = tt
        zero_or false = (h.0, tt)
    go (d ∷ K) k = (h.0, k)

kept_with : (d : Derivative) → d.unknown < 2 ^ 32 → Every (λ c. c < 2 ^ 8) d.counts → (L : List (Monomial × ℤ)) → Every (λ (e : Monomial × ℤ). FitsNumber e.1 × HasLowExponents e.0) L → Every IsKept (triples_with d L)
kept_with d u c [] h = tt
kept_with d u c (e ∷ L) h = (record { number = h.0.0; exponents = h.0.1; unknown = u; counts = c }, kept_with d u c L h.1)

pub within_entries : (P : WholePolynomial) → IsWithinLimits P → Every (λ (e : Monomial × ℤ). FitsNumber e.1 × HasLowExponents e.0) P.list
within_entries P h = entries_of terms P (λ e. FitsNumber e.1 × HasLowExponents e.0) (λ e is some. (subst FitsNumber is (h.coefficients e.0), h.exponents e.0 (λ z. some (sym is ∙ z))))

kept_in : (es : List (Der × WholePolynomial)) → Every IsKeptCoefficient es → Every IsKept (triples_in (coefficients_of es))
kept_in [] h = tt
kept_in (e ∷ es) h =
    every-append IsKept (triples_with (derivative_of e.0) e.1.list) (triples_in (coefficients_of es))
    (kept_with (derivative_of e.0) (h.0).unknown (trimmed_low e.0.counts (h.0).counts) e.1.list (within_entries e.1 (h.0).within)) (kept_in es h.1)

pub kept_form : (es : List (Der × WholePolynomial)) (E : LinearForm) → AreCoefficients es → Every IsKeptCoefficient es → E ≡ finite.of forms (coefficients_of es) → Every IsKept (triples E)
kept_form es E canonical h is = subst (λ (l : List (Derivative × WholePolynomial)). Every IsKept (triples_in l)) (sym (ap (λ (F : LinearForm). F.list) is ∙ list-of forms (coefficients_of es) canonical)) (kept_in es h)

-- ---- sums
pub sum_found : (ts : List (Monomial × ℤ)) (sum P : WholePolynomial) → sum ≡ polynomial_of (entries (λ z. z) ts) → P.list ≡ ts → sum ≡ P
sum_found ts sum P is told = is ∙ ap polynomial_of (entries_same ts ∙ sym told) ∙ of_list terms P

pub sum_fails : (ts : List (Monomial × ℤ)) (kind : PastKind) (P : WholePolynomial) → IsCause (Past kind) (polynomial_of (absolutes (entries (λ z. z) ts))) → IsWithinLimits P → P.list ≡ ts → ⊥
sum_fails ts kind P cause within told =
    let same : polynomial_of (absolutes (entries (λ z. z) ts)) ≡ absolute P =
    ap (λ l. polynomial_of (absolutes l)) (entries_same ts ∙ sym told) ∙ sym (absolute_of P.list P.canonical) ∙ ap absolute (of_list terms P) in
    within_starved (Past kind) (absolute P) (within_absolute P within) (subst (IsCause (Past kind)) same cause)

-- ---- the order of coefficients
pub coefficients_behind : (es : List (Der × WholePolynomial)) (i : ℕ) → AreCoefficients es → AreCoefficients (drop i es)
coefficients_behind es zero h = h
coefficients_behind [] (suc i) h = h
coefficients_behind (e ∷ es) (suc i) h = coefficients_behind es i (canonical_tail forms (derivative_of e.0, e.1) (coefficients_of es) h)

pub not_in_order : (es : List (Der × WholePolynomial)) (i : ℕ) (x : Der × WholePolynomial) → i < length es → x ≡ get_or es i x → ¬ (AreCoefficients (x ∷ take (length es - (i + 1)) (drop (i + 1) es)))
    → AreCoefficients es → ⊥
not_in_order es i x lt is n h =
    let l = length-drop (i + 1) es in
    let rest : take (length es - (i + 1)) (drop (i + 1) es) ≡ drop (i + 1) es = take_all (length es - (i + 1)) (drop (i + 1) es) (omega arith) in
    let parted : drop i es ≡ x ∷ drop (i + 1) es = drop-cons es i x lt ∙ ap₂ (λ (y : Der × WholePolynomial) (k : ℕ). y ∷ drop k es) (sym is) (sym (add-one i)) in
    n (subst AreCoefficients (parted ∙ ap (λ r. x ∷ r) (sym rest)) (coefficients_behind es i h))

pub before_next : (x next : Der × WholePolynomial) (rest : List (Der × WholePolynomial)) → 1 ≤ length rest → next ≡ get_or rest 0 next → ¬ (length x.1.list ≡ 0) → AreCoefficients rest
    → derivative_cmp (derivative_of x.0) (derivative_of next.0) ≡ Less → AreCoefficients (x ∷ rest)
before_next x next [] some is nonzero h less = absurd (omega arith)
before_next x next (y ∷ rest) some is nonzero h less =
    let at : derivative_cmp (derivative_of x.0) (derivative_of y.0) ≡ Less = ap (λ (e : Der × WholePolynomial). derivative_cmp (derivative_of x.0) (derivative_of e.0)) (sym is) ∙ less in
    canonical_cons forms (derivative_of x.0, x.1) (coefficients_of (y ∷ rest)) (some_terms x.1.list nonzero)
    (both (is_lt (derivative_cmp (derivative_of x.0) (derivative_of y.0))) (below_all derivative_cmp forms.values (derivative_of x.0) (coefficients_of rest)) (subst (λ o. T (is_lt o)) (sym at) tt)
    (below_less derivative_cmp forms.values forms.total forms.same (derivative_of x.0) (derivative_of y.0) (coefficients_of rest) at (canonical_below forms (derivative_of y.0, y.1) (coefficients_of rest) h))) h
  where
    some_terms : (L : List (Monomial × ℤ)) → ¬ (length L ≡ 0) → T (not (finite.list_is_empty L))
    some_terms [] n = absurd (n refl)
    some_terms (e ∷ L) n = tt

pub not_before_next : (x next : Der × WholePolynomial) (rest : List (Der × WholePolynomial)) → 1 ≤ length rest → next ≡ get_or rest 0 next
    → ¬ (derivative_cmp (derivative_of x.0) (derivative_of next.0) ≡ Less) → AreCoefficients (x ∷ rest) → ⊥
not_before_next x next [] some is n h = absurd (omega arith)
not_before_next x next (y ∷ rest) some is n h =
    let below = first (is_lt (derivative_cmp (derivative_of x.0) (derivative_of y.0))) (below_all derivative_cmp forms.values (derivative_of x.0) (coefficients_of rest)) (canonical_below forms (derivative_of x.0, x.1) (coefficients_of (y ∷ rest)) h) in
    n (ap (λ (e : Der × WholePolynomial). derivative_cmp (derivative_of x.0) (derivative_of e.0)) is ∙ less (derivative_cmp (derivative_of x.0) (derivative_of y.0)) below)
  where
    less : (o : Ordering) → T (is_lt o) → o ≡ Less
    less Less h = refl
    less Equal h = absurd h
    less Greater h = absurd h

-- ---- coefficients found one by one
pub coefficients_push : (es : List (Der × WholePolynomial)) (e : Der × WholePolynomial) → coefficients_of (es ++ e ∷ []) ≡ coefficients_of es ++ (derivative_of e.0, e.1) ∷ []
coefficients_push [] e = refl
coefficients_push (x ∷ es) e = ap (λ l. (derivative_of x.0, x.1) ∷ l) (coefficients_push es e)

pub groups_next : (gs : List (Der × Vec (Monomial × ℤ))) (i : ℕ) (g : Der × Vec (Monomial × ℤ)) → i < length gs → g ≡ get_or gs i g → map group_seen (drop i gs) ≡ group_seen g ∷ map group_seen (drop (i + 1) gs)
groups_next gs i g lt is = ap (map group_seen) (drop-cons gs i g lt ∙ ap₂ (λ (y : Der × Vec (Monomial × ℤ)) (k : ℕ). y ∷ drop k gs) (sym is) (sym (add-one i)))

pub part_found : (d : Derivative) (P : WholePolynomial) (L ts : List (Monomial × ℤ)) → ts ≡ L → ((Q : WholePolynomial) → IsWithinLimits Q → Q.list ≡ ts → P ≡ Q)
    → (e : Derivative × WholePolynomial) → IsWithin e → part_of e ≡ (d, L) → (d, P) ≡ e
part_found d P L ts same found e within told =
    ap₂ (λ (x : Derivative) (Q : WholePolynomial). (x, Q)) (sym (ap (λ (g : Group). g.0) told)) (found e.1 within (ap (λ (g : Group). g.1) told ∙ sym same))

pub part_fails : (d : Derivative) (L ts : List (Monomial × ℤ)) → ts ≡ L → ((Q : WholePolynomial) → IsWithinLimits Q → ¬ (Q.list ≡ ts)) → (e : Derivative × WholePolynomial) → IsWithin e → ¬ (part_of e ≡ (d, L))
part_fails d L ts same fails e within told = fails e.1 within (ap (λ (g : Group). g.1) told ∙ sym same)

part_of_err : (d : Derivative) (L ts : List (Monomial × ℤ)) → ts ≡ L → (e : Unread) → Finds {X = WholePolynomial} (λ P. P) IsWithinLimits (λ P. P.list) ts (Err e)
    → Finds {X = Derivative × WholePolynomial} (λ x. x) IsWithin part_of (d, L) (Err e)
part_of_err d L ts same Other h = part_fails d L ts same h
part_of_err d L ts same NoMemory h = tt

pub coefficients_fail : (view : Vec (Der × WholePolynomial) → List (Derivative × WholePolynomial)) (all : List Group) (xs : List (Derivative × WholePolynomial)) (left rest : List Group) (d : Derivative) (L ts : List (Monomial × ℤ)) (e : Unread)
    → FoundSoFar IsWithin part_of all xs left → left ≡ (d, L) ∷ rest → ts ≡ L → Finds {X = WholePolynomial} (λ P. P) IsWithinLimits (λ P. P.list) ts (Err e)
    → Finds view (Every IsWithin) parts_of all (Err e)
coefficients_fail view all xs left rest d L ts Other so_far is same h = found_fails IsWithin part_of all xs (d, L) left rest so_far is (part_fails d L ts same h)
coefficients_fail view all xs left rest d L ts NoMemory so_far is same h = tt

-- ---- forms
within_listed : (L : List (Monomial × ℤ)) (d : Derivative) (rest : List Triple) → Every IsKept (triples_with d L ++ rest) → AreWithin L
within_listed [] d rest h = tt
within_listed (e ∷ L) d rest h = ((h.0).number, (h.0).exponents, within_listed L d rest h.1)

length_with : (d : Derivative) (L : List (Monomial × ℤ)) (rest : List Triple) → length L ≤ length (triples_with d L ++ rest)
length_with d [] rest = omega arith
length_with d (e ∷ L) rest = let h = length_with d L rest in omega arith

length_behind : (d : Derivative) (L : List (Monomial × ℤ)) (rest : List Triple) → length rest ≤ length (triples_with d L ++ rest)
length_behind d [] rest = omega arith
length_behind d (e ∷ L) rest = let h = length_behind d L rest in omega arith

parts_within : (es : List (Derivative × WholePolynomial)) → Every IsKept (triples_in es) → length (triples_in es) ≤ 1000000 → Every IsWithin es
parts_within [] h few = tt
parts_within (e ∷ es) h few =
    let a = length_with e.0 e.1.list (triples_in es) in
    let b = length_behind e.0 e.1.list (triples_in es) in (
      subst IsWithinLimits (of_list terms e.1) (limits_of e.1.list e.1.canonical (within_listed e.1.list e.0 (triples_in es) h) (omega arith)),
      parts_within es (every-back IsKept (triples_with e.0 e.1.list) (triples_in es) h) (omega arith),
    )

form_parts : (E : LinearForm) → IsReportedForm E → (ts : List PrintedTerm) (gs : List Group) → grouped [] ts ≡ Some gs → written_terms E ≡ ts → parts_of E.list ≡ gs
form_parts E h ts gs is told = some_is (sym (form_groups E h) ∙ ap (grouped []) told ∙ is)
  where
    some_is : ◌≡◌ {A = Option (List Group)} (Some (parts_of E.list)) (Some gs) → parts_of E.list ≡ gs
    some_is e = cc

no_some : (gs : List Group) → ◌≡◌ {A = Option (List Group)} (Some gs) None → ⊥
no_some gs e = cc

pub groups_err : (ts : List PrintedTerm) (e : Unread) → Fails e (grouped [] ts) → Finds {X = LinearForm} (λ E. E) IsReportedForm written_terms ts (Err e)
groups_err ts Other h = λ E r told. no_some (parts_of E.list) (sym (form_groups E r) ∙ ap (grouped []) told ∙ h)
groups_err ts NoMemory h = tt

pub coefficients_err : (view : Vec (Der × WholePolynomial) → List (Derivative × WholePolynomial)) (ts : List PrintedTerm) (slice kept : List (Der × Vec (Monomial × ℤ))) (e : Unread) → slice ≡ kept
    → grouped [] ts ≡ Some (map group_seen kept) → Finds view (Every IsWithin) parts_of (map group_seen slice) (Err e) → Finds {X = LinearForm} (λ E. E) IsReportedForm written_terms ts (Err e)
coefficients_err view ts slice kept Other same is h = λ E r told. h E.list (parts_within E.list r.each r.few) (form_parts E r ts (map group_seen kept) is told ∙ ap (map group_seen) (sym same))
coefficients_err view ts slice kept NoMemory same is h = tt

pub too_many : (E F : LinearForm) → F ≡ E → 1000000 < length (triples F) → length (triples E) ≤ 1000000 → ⊥
too_many E F same many few = let e : length (triples F) ≡ length (triples E) = ap (λ G. length (triples G)) same in absurd (omega arith)

pub every_got : (xs : List ℕ) → ((i : ℕ) → Fits w8 (get_or xs i 0)) → Every (λ c. c < 2 ^ 8) xs
every_got [] f = tt
every_got (x ∷ xs) f = (let h = f 0 in omega (arith, h), every_got xs (λ i. f (suc i)))

pub form_coefficients : (ts : List PrintedTerm) (gs : List Group) (es : List (Der × WholePolynomial)) → grouped [] ts ≡ Some gs
    → ((xs : List (Derivative × WholePolynomial)) → Every IsWithin xs → parts_of xs ≡ gs → coefficients_of es ≡ xs)
    → (E : LinearForm) → IsReportedForm E → written_terms E ≡ ts → coefficients_of es ≡ E.list
form_coefficients ts gs es is found E r told = found E.list (parts_within E.list r.each r.few) (form_parts E r ts gs is told)

pub no_form_here : (es : List (Der × WholePolynomial)) (E : LinearForm) → coefficients_of es ≡ E.list → ¬ (AreCoefficients es) → ⊥
no_form_here es E is n = n (subst (λ l. finite.IsCanonical forms l) (sym is) E.canonical)

pub form_is : (es : List (Der × WholePolynomial)) (F E : LinearForm) → F ≡ finite.of forms (coefficients_of es) → coefficients_of es ≡ E.list → F ≡ E
form_is es F E is same = is ∙ ap (finite.of forms) same ∙ of_list forms E
