-- The field that the parts over a common denominator make, divided by all that divides them.
use Rattle.std.specs.Prelude.{ℕ, zero, suc, ◌+◌, ◌*◌, ◌/◌, ◌≡◌, ◌≤◌, ◌<◌, Bool, true, false, List, [], ◌∷◌, length, get_or, map, ℤ, pos, ◌*ℤ◌, unsigned_abs, if◌then◌else◌, ◌==◌, nat_lt, max, refl}
use Rattle.std.specs.Int.{◌∣◌}
use Rattle.std.specs.List.{AllByRecursion as Every}
use Rattle.std.proofs.Common.{sym, ap, ap₂, subst, ◌∙◌, arith}
use Rattle.std.proofs.lemmas.Bool.Decides.{nat_tests}
use Rattle.std.proofs.lemmas.Int.{unsigned_abs-mul}
use Rattle.std.proofs.lemmas.List.{get_or_past, ext_get_or}
use Rattle.std.proofs.lemmas.Nat.Gcd.{dvd_refl, dvd_trans, dvd_antisymm, le_of_dvd}
use Rattle.std.proofs.Math.Nat.{mul-div_cancel', mul-dvd-mul_left, dvd_of_mul-dvd-mul_left, dvd-mul_right, dvd-mul_left}
use Rattle.lie_math.proofs.EveryElement.{every-weaken}
use Rattle.lie_math.specs.FiniteSumLaws.{value-of, of_list, list-of}
use Rattle.lie_math.specs.Monomial.{Monomial, unit, exponent}
use Rattle.lie_math.specs.Polynomial.{WholePolynomial, terms, polynomial_of, constant, 0ᴾ, ◌*ᴾ◌}
use Rattle.lie_math.specs.PolynomialRing.{polynomial_of-none, polynomial_algebra, *ᴾ_comm, 0ᴾ-*ᴾ}
use Rattle.lie_math.specs.RationalPolynomial.{IsSameRational}
use Rattle.lie_math.specs.VectorField.{VectorField, component}
use Rattle.lie_math.specs.Derivation.{is_below}
use Rattle.lie_math.specs.Variables.{IsIn}
use Rattle.lie_math.specs.Evaluation.{value_in}
use Rattle.lie_math.proofs.Integer.{not_zero}
use Rattle.lie_math.proofs.Cancellation.{constant_cancel}
use Rattle.lie_math.proofs.Evaluation.{value_in-constant, value_in-times}
use Rattle.lie_math.proofs.Kept.{keep}
use Rattle.lie_math.proofs.Variables.{in_kept, kept_in}
use Rattle.lie_math.proofs.Degree.{greatest, bounded}
use Rattle.lie_math.proofs.RationalPolynomial.{same_rational-swapped, same_rational-multiple, same_rational-joined}
use Rattle.lie_math.proofs.TermWise.{times_list, polynomial_of-times, canonical_times}
use Rattle.lie_math.specs.CommonDivisors.{common_divisor}
use Rattle.lie_math.proofs.CommonDivisors.{common_divisor_is, common_divisor-scaled}
use Rattle.lie_geometry.specs.Coordinates.{Space}
use Rattle.lie_geometry.specs.Prolongation.{InZ}
use Rattle.lie_jet.specs.ValidFields.{DividesTerms, DividesField, IsValidField}
use Rattle.lie_fieldtext.specs.declared.field_term.FieldTerm.{FieldTerm}
use Rattle.lie_fieldtext.specs.FieldMeaning.{common_denominator, terms_over, sum_at, IsSumOfTerms}
use Rattle.lie_fieldtext.specs.FieldAnswers.{IsTermIn, ArePartsOver, content_from, contents_from, times_entries}
use Rattle.lie_math.specs.Codes.{same_vector_field}
use Rattle.lie_fieldtext.proofs.FieldSteps.{divisor_some, times_entries_list, quotient_some}

-- ---- divisors of all numbers
content_divides : (n : ℕ) (es : List (Monomial × ℤ)) → content_from n es ∣ n
content_divides n [] = dvd_refl n
content_divides n (e ∷ es) = dvd_trans (content_from (common_divisor (unsigned_abs e.1) n) es) (content_divides (common_divisor (unsigned_abs e.1) n) es) (common_divisor_is (unsigned_abs e.1) n).1

content_entries : (n : ℕ) (es : List (Monomial × ℤ)) → Every (λ (e : Monomial × ℤ). content_from n es ∣ unsigned_abs e.1) es
content_entries n [] = tt
content_entries n (e ∷ es) = (
  dvd_trans (content_from (common_divisor (unsigned_abs e.1) n) es) (content_divides (common_divisor (unsigned_abs e.1) n) es) (common_divisor_is (unsigned_abs e.1) n).0,
  content_entries (common_divisor (unsigned_abs e.1) n) es,
)

content_greatest : (c k n : ℕ) (es : List (Monomial × ℤ)) → k ∣ c * n → Every (λ (e : Monomial × ℤ). k ∣ c * unsigned_abs e.1) es → k ∣ c * content_from n es
content_greatest c k n [] h all = h
content_greatest c k n (e ∷ es) h all =
    content_greatest c k (common_divisor (unsigned_abs e.1) n) es
    (subst (λ z. k ∣ z) (common_divisor-scaled c (unsigned_abs e.1) n) ((common_divisor_is (c * unsigned_abs e.1) (c * n)).2 k all.0 h)) all.1

pub contents_divides : (n : ℕ) (ps : List WholePolynomial) → contents_from n ps ∣ n
contents_divides n [] = dvd_refl n
contents_divides n (p ∷ ps) = dvd_trans (contents_from (content_from n p.list) ps) (contents_divides (content_from n p.list) ps) (content_divides n p.list)

pub contents_parts : (n : ℕ) (ps : List WholePolynomial) → Every (DividesTerms (contents_from n ps)) ps
contents_parts n [] = tt
contents_parts n (p ∷ ps) = (
  every-weaken (λ (e : Monomial × ℤ). content_from n p.list ∣ unsigned_abs e.1) (λ (e : Monomial × ℤ). contents_from (content_from n p.list) ps ∣ unsigned_abs e.1)
      (λ e h. dvd_trans (contents_from (content_from n p.list) ps) (contents_divides (content_from n p.list) ps) h) p.list (content_entries n p.list),
  contents_parts (content_from n p.list) ps,
)

-- c times each number is a multiple of k
abbrev DividesTimes : ℕ → ℕ → WholePolynomial → Type 0
DividesTimes c k p = Every (λ (e : Monomial × ℤ). k ∣ c * unsigned_abs e.1) p.list

contents_greatest : (c k n : ℕ) (ps : List WholePolynomial) → k ∣ c * n → Every (DividesTimes c k) ps → k ∣ c * contents_from n ps
contents_greatest c k n [] h all = h
contents_greatest c k n (p ∷ ps) h all = contents_greatest c k (content_from n p.list) ps (content_greatest c k n p.list h all.0) all.1

-- ---- multiples
list_times : (g : ℕ) → 1 ≤ g → (q : WholePolynomial) → (constant (pos g) *ᴾ q).list ≡ times_entries g q.list
list_times g some q =
    ap (λ (p : WholePolynomial). p.list) (ap (λ r. constant (pos g) *ᴾ r) (sym (of_list terms q)) ∙ sym (polynomial_of-times unit (pos g) q.list))
    ∙ list-of terms (times_list unit (pos g) q.list) (canonical_times unit (pos g) q.list (not_zero g (omega arith)) q.canonical) ∙ times_entries_list g q.list

-- what divides a multiple's numbers
divided_entries : (c k : ℕ) (es : List (Monomial × ℤ)) → Every (λ (e : Monomial × ℤ). k ∣ unsigned_abs e.1) (times_entries c es) → Every (λ (e : Monomial × ℤ). k ∣ c * unsigned_abs e.1) es
divided_entries c k [] h = tt
divided_entries c k (e ∷ es) h = (subst (λ z. k ∣ z) (unsigned_abs-mul (pos c) e.1) h.0, divided_entries c k es h.1)

multiple_entries : (c k : ℕ) (es : List (Monomial × ℤ)) → Every (λ (e : Monomial × ℤ). k ∣ unsigned_abs e.1) es → Every (λ (e : Monomial × ℤ). c * k ∣ unsigned_abs e.1) (times_entries c es)
multiple_entries c k [] h = tt
multiple_entries c k (e ∷ es) h = (subst (λ z. c * k ∣ z) (sym (unsigned_abs-mul (pos c) e.1)) (mul-dvd-mul_left k c h.0), multiple_entries c k es h.1)

all_entries : (k : ℕ) (es : List (Monomial × ℤ)) → Every (λ (e : Monomial × ℤ). k ∣ unsigned_abs e.1) es → Every (λ (e : Monomial × ℤ). k ∣ 1 * unsigned_abs e.1) es
all_entries k es h = every-weaken (λ (e : Monomial × ℤ). k ∣ unsigned_abs e.1) (λ (e : Monomial × ℤ). k ∣ 1 * unsigned_abs e.1) (λ e d. subst (λ z. k ∣ z) (one_times (unsigned_abs e.1)) d) es h
  where
    one_times : (n : ℕ) → n ≡ 1 * n
    one_times n = omega arith

get_map : (f : WholePolynomial → WholePolynomial) (qs : List WholePolynomial) (s : ℕ) (d e : WholePolynomial) → s < length qs → get_or (map f qs) s d ≡ f (get_or qs s e)
get_map f [] s d e lt = absurd (omega arith)
get_map f (q ∷ qs) zero d e lt = refl
get_map f (q ∷ qs) (suc s) d e lt = get_map f qs s d e (omega arith)

length_map : (f : WholePolynomial → WholePolynomial) (qs : List WholePolynomial) → length (map f qs) ≡ length qs
length_map f [] = refl
length_map f (q ∷ qs) = ap suc (length_map f qs)

-- ---- polynomials in the first n variables
greatest_none : (v : ℕ) (es : List (Monomial × ℤ)) → Every (λ (e : Monomial × ℤ). exponent e.0 v ≡ 0) es → greatest (λ m. exponent m v) es ≡ 0
greatest_none v [] h = refl
greatest_none v (e ∷ es) h = ap₂ max h.0 (greatest_none v es h.1)

polynomial_in : (n : ℕ) (es : List (Monomial × ℤ)) → ((v : ℕ) → n ≤ v → Every (λ (e : Monomial × ℤ). exponent e.0 v ≡ 0) es) → IsIn (is_below n) (polynomial_of es)
polynomial_in n es h v out m apart =
    let above : n ≤ v = grind (arith, nat_tests, out) in
    let low = bounded (λ k. exponent k v) es m (λ e. apart (value-of terms es m ∙ e)) in
    let none = greatest_none v es (h v above) in
    omega arith

terms_in : (k n s : ℕ) (ts : List FieldTerm) → Every (IsTermIn k) ts → (v : ℕ) → k ≤ v → Every (λ (e : Monomial × ℤ). exponent e.0 v ≡ 0) (terms_over n s ts)
terms_in k n s [] h v le = tt
terms_in k n s (t ∷ ts) h v le = go (t.place == s) (terms_in k n s ts h.1 v le)
  where
    go : (b : Bool) → Every (λ (e : Monomial × ℤ). exponent e.0 v ≡ 0) (terms_over n s ts)
        → Every (λ (e : Monomial × ℤ). exponent e.0 v ≡ 0) (if b then (t.monomial, t.number *ℤ pos (n / t.over)) ∷ terms_over n s ts else terms_over n s ts)
    go true r = ((h.0).monomial v le, r)
    go false r = r

in_divided : (S : ℕ → Bool) (g : ℕ) → 1 ≤ g → (q : WholePolynomial) → IsIn S (constant (pos g) *ᴾ q) → IsIn S q
in_divided S g some q h =
    let kept = in_kept S (constant (pos g) *ᴾ q) h in
    kept_in S q (constant_cancel (pos g) (not_zero g (omega arith)) _ _
    (sym (value_in-times polynomial_algebra (keep S) (constant (pos g)) q ∙ ap (λ c. c *ᴾ value_in polynomial_algebra (keep S) q) (value_in-constant polynomial_algebra (keep S) (pos g))) ∙ kept))

-- no term has a place past the last
none_past : (k n s : ℕ) (ts : List FieldTerm) → Every (IsTermIn k) ts → k ≤ s → terms_over n s ts ≡ []
none_past k n s [] h le = refl
none_past k n s (t ∷ ts) h le =
    let low = (h.0).place in
    let apart : (t.place == s) ≡ false = grind (arith, nat_tests, low, le) in
    rw apart (none_past k n s ts h.1 le)

-- ---- the field that is made
pub record IsMade (S : Space) (ts : List FieldTerm) (n g : ℕ) (parts qs : List WholePolynomial) (V : VectorField) : Type 0 where
  pub some : 1 ≤ n
  pub common : n ≡ common_denominator ts
  pub terms_in_z : Every (IsTermIn (S.p + S.q)) ts
  pub are : ArePartsOver n ts (S.p + S.q) parts
  pub divisor : g ≡ contents_from n parts
  pub positive : 1 ≤ g
  pub divided : map (λ q. constant (pos g) *ᴾ q) qs ≡ parts
  pub denominator : V.denominator ≡ n / g
  pub components : V.parts ≡ qs

times_none : (c : ℤ) → constant c *ᴾ 0ᴾ ≡ 0ᴾ
times_none c = *ᴾ_comm (constant c) 0ᴾ ∙ 0ᴾ-*ᴾ (constant c)

multiple_parts : (g k : ℕ) → 1 ≤ g → (qs : List WholePolynomial) → Every (DividesTerms k) qs → Every (DividesTimes 1 (g * k)) (map (λ q. constant (pos g) *ᴾ q) qs)
multiple_parts g k some [] h = tt
multiple_parts g k some (q ∷ qs) h = (
  subst (λ es. Every (λ (e : Monomial × ℤ). g * k ∣ 1 * unsigned_abs e.1) es) (sym (list_times g some q)) (all_entries (g * k) (times_entries g q.list) (multiple_entries g k q.list h.0)),
  multiple_parts g k some qs h.1,
)

module _ (S : Space) (ts : List FieldTerm) (n g : ℕ) (parts qs : List WholePolynomial) (V : VectorField) (h : IsMade S ts n g parts qs V) where
  divides : g ∣ n
  divides = subst (λ k. k ∣ n) (sym h.divisor) (contents_divides n parts)

  back : g * V.denominator ≡ n
  back = ap (λ k. g * k) h.denominator ∙ mul-div_cancel' g divides

  count : length qs ≡ S.p + S.q
  count = sym (length_map (λ q. constant (pos g) *ᴾ q) qs) ∙ ap length h.divided ∙ h.are.count

  part_at : (s : ℕ) (d : WholePolynomial) → s < length qs → constant (pos g) *ᴾ get_or qs s d ≡ polynomial_of (terms_over n s ts)
  part_at s d lt =
      let few = count in
      sym (get_map (λ q. constant (pos g) *ᴾ q) qs s 0ᴾ d lt) ∙ ap (λ l. get_or l s 0ᴾ) h.divided ∙ h.are.each s (omega arith)

  part_in : (s : ℕ) (d : WholePolynomial) → s < length qs → InZ S (get_or qs s d)
  part_in s d lt =
      in_divided (is_below (S.p + S.q)) g h.positive (get_or qs s d)
      (subst (IsIn (is_below (S.p + S.q))) (sym (part_at s d lt)) (polynomial_in (S.p + S.q) (terms_over n s ts) (terms_in (S.p + S.q) n s ts h.terms_in_z)))

  lowest : (k : ℕ) → DividesField k V → k ≡ 1
  lowest k d =
      let over : g * k ∣ n = subst (λ z. g * k ∣ z) back (mul-dvd-mul_left k g d.denominator) in
      let all : Every (DividesTimes 1 (g * k)) parts = subst (Every (DividesTimes 1 (g * k))) h.divided (multiple_parts g k h.positive qs (subst (Every (DividesTerms k)) h.components d.coefficients)) in
      let whole : g * k ∣ 1 * contents_from n parts = contents_greatest 1 (g * k) n parts (subst (λ z. g * k ∣ z) (one_times n) over) all in
      let one : g * k ∣ g * 1 = subst (λ z. g * k ∣ z) (ap (λ z. 1 * z) (sym h.divisor) ∙ swapped g) whole in
      let unit : k ∣ 1 = dvd_of_mul-dvd-mul_left {k = g} k h.positive one in
      let low : k ≤ 1 = le_of_dvd (omega arith) unit in
      let some : 1 ≤ k = divisor_some k 1 unit (omega arith) in
      omega arith
    where
      one_times : (m : ℕ) → m ≡ 1 * m
      one_times m = omega arith

      swapped : (m : ℕ) → 1 * m ≡ m * 1
      swapped m = omega arith

  within : (s : ℕ) → s < length qs → IsSameRational (record { over = V.denominator; whole = component V s }) (sum_at s ts)
  within s lt =
      let q = component V s in
      let is : constant (pos g) *ᴾ q ≡ polynomial_of (terms_over n s ts) = ap (λ l. constant (pos g) *ᴾ get_or l s 0ᴾ) h.components ∙ part_at s 0ᴾ lt in
      let multiple = same_rational-swapped (record { over = g * V.denominator; whole = constant (pos g) *ᴾ q }) (record { over = V.denominator; whole = q }) (same_rational-multiple g (record { over = V.denominator; whole = q })) in
      subst (λ c. IsSameRational (record { over = V.denominator; whole = q }) (record { over = c; whole = polynomial_of (terms_over c s ts) })) h.common
      (subst (λ c. IsSameRational (record { over = V.denominator; whole = q }) (record { over = c; whole = polynomial_of (terms_over n s ts) })) back
      (subst (λ w. IsSameRational (record { over = V.denominator; whole = q }) (record { over = g * V.denominator; whole = w })) is multiple))

  past : (s : ℕ) → length qs ≤ s → IsSameRational (record { over = V.denominator; whole = component V s }) (sum_at s ts)
  past s le =
      let few = count in
      let left : component V s ≡ 0ᴾ = ap (λ l. get_or l s 0ᴾ) h.components ∙ get_or_past qs s 0ᴾ le in
      let right : polynomial_of (terms_over (common_denominator ts) s ts) ≡ 0ᴾ = ap polynomial_of (none_past (S.p + S.q) (common_denominator ts) s ts h.terms_in_z (omega arith)) ∙ polynomial_of-none in
      ap (λ p. constant (pos (common_denominator ts)) *ᴾ p) left ∙ times_none (pos (common_denominator ts)) ∙ sym (ap (λ p. constant (pos V.denominator) *ᴾ p) right ∙ times_none (pos V.denominator))

  pub made_is_sum : IsSumOfTerms S ts V
  made_is_sum = record {
    valid = record {
      on_space = record {
        positive = subst (λ d. 0 < d) (sym h.denominator) (quotient_some g n divides h.some);
        size = ap length h.components ∙ count;
        in_z = λ k d lt. subst (λ l. InZ S (get_or l k d)) (sym h.components) (part_in k d (subst (λ l. k < length l) h.components lt));
      };
      lowest = lowest;
    };
    same = λ s. by_test s (nat_lt s (length qs)) refl;
  }
    where
      by_test : (s : ℕ) (b : Bool) → nat_lt s (length qs) ≡ b → IsSameRational (record { over = V.denominator; whole = component V s }) (sum_at s ts)
      by_test s true e = within s (grind (arith, nat_tests, e))
      by_test s false e = past s (grind (arith, nat_tests, e))

-- ---- one field in lowest terms
entries_multiple : (c : ℕ) (es : List (Monomial × ℤ)) → Every (λ (e : Monomial × ℤ). c ∣ unsigned_abs e.1) (times_entries c es)
entries_multiple c [] = tt
entries_multiple c (e ∷ es) = (subst (λ z. c ∣ z) (sym (unsigned_abs-mul (pos c) e.1)) (dvd-mul_right c (unsigned_abs e.1)), entries_multiple c es)

every_from : (P : WholePolynomial → Type 0) (ps : List WholePolynomial) → ((s : ℕ) → s < length ps → P (get_or ps s 0ᴾ)) → Every P ps
every_from P [] h = tt
every_from P (p ∷ ps) h = (h 0 (omega arith), every_from P ps (λ s lt. h (suc s) (omega arith)))

-- a field in lowest terms has the least denominator
least : (S : Space) (V W : VectorField) → IsValidField S V → IsValidField S W → ((s : ℕ) → constant (pos W.denominator) *ᴾ component V s ≡ constant (pos V.denominator) *ᴾ component W s) → V.denominator ∣ W.denominator
least S V W v w same =
    let c = contents_from V.denominator V.parts in
    let one : c ≡ 1 = v.lowest c (record { denominator = contents_divides V.denominator V.parts; coefficients = contents_parts V.denominator V.parts }) in
    let positive_v = v.on_space.positive in
    let positive_w = w.on_space.positive in
    let all : Every (DividesTimes W.denominator V.denominator) V.parts = every_from (DividesTimes W.denominator V.denominator) V.parts (λ s lt.
    divided_entries W.denominator V.denominator (component V s).list
    (subst (λ es. Every (λ (e : Monomial × ℤ). V.denominator ∣ unsigned_abs e.1) es)
    (sym (list_times V.denominator (omega arith) (component W s)) ∙ ap (λ (p : WholePolynomial). p.list) (sym (same s)) ∙ list_times W.denominator (omega arith) (component V s))
    (entries_multiple V.denominator (component W s).list))) in
    subst (λ z. V.denominator ∣ z) (ap (λ z. W.denominator * z) one ∙ times_one W.denominator)
    (contents_greatest W.denominator V.denominator V.denominator V.parts (dvd-mul_left V.denominator W.denominator) all)
  where
    times_one : (m : ℕ) → m * 1 ≡ m
    times_one m = omega arith

pub one_sum : (S : Space) (ts : List FieldTerm) (V W : VectorField) → 1 ≤ common_denominator ts → IsSumOfTerms S ts V → IsSumOfTerms S ts W → V ≡ W
one_sum S ts V W some v w =
    let cross : (s : ℕ) → constant (pos W.denominator) *ᴾ component V s ≡ constant (pos V.denominator) *ᴾ component W s = λ s.
    same_rational-joined (record { over = V.denominator; whole = component V s }) (sum_at s ts) (record { over = W.denominator; whole = component W s }) (omega arith) (v.same s)
    (same_rational-swapped (record { over = W.denominator; whole = component W s }) (sum_at s ts) (w.same s)) in
    let den : V.denominator ≡ W.denominator = dvd_antisymm (least S V W v.valid w.valid cross) (least S W V w.valid v.valid (λ s. sym (cross s))) in
    let positive = v.valid.on_space.positive in
    let at : (s : ℕ) → component V s ≡ component W s = λ s.
    constant_cancel (pos V.denominator) (not_zero V.denominator positive) (component V s) (component W s) (ap (λ d. constant (pos d) *ᴾ component V s) den ∙ cross s) in
    let parts : V.parts ≡ W.parts = ext_get_or 0ᴾ V.parts W.parts (v.valid.on_space.size ∙ sym w.valid.on_space.size) (λ s lt. at s) in
    same_vector_field V W (λ i. (den i, parts i))
