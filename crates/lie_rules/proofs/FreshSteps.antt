-- Powers, the unknowns for them, and the sum of the powers times them, one power more.
use Rattle.std.specs.Prelude.{◌≡◌, ℕ, zero, suc, ◌+◌, ◌<◌, ◌≤◌, ◌||◌, Bool, true, false, cond, not, eqb, List, [], ◌∷◌, ◌++◌, filter}
use Rattle.std.specs.Prelude.{length, take, drop, get_or, pos}
use Rattle.std.proofs.Common.{refl, sym, ap, ap₂, subst, ◌∙◌, append_assoc, arith, length-take-le, le_of_lt, true≢false}
use Rattle.std.specs.List.{AllByRecursion as Every, Contains, list_any}
use Rattle.std.specs.Ordering.{eq_by_cmp, nat_cmp}
use Rattle.lie_math.specs.Counts.{Derivative, derivative_cmp}
use Rattle.lie_math.specs.FiniteSum as finite
use Rattle.lie_ring.proofs.Fronts.{take_more}
use Rattle.lie_math.specs.FiniteSumLaws.{plus_comm, plus_idl, value-none, value-plus, value-term}
use Rattle.lie_math.specs.Limits.{HasLowExponents}
use Rattle.lie_math.specs.LinearForm.{LinearForm, forms, ◌+ᶠ◌, form_term}
use Rattle.lie_math.specs.LinearSystem.{Unknown}
use Rattle.lie_math.specs.Monomial.{power_of}
use Rattle.lie_math.specs.Polynomial.{WholePolynomial, terms, term, 0ᴾ, ◌+ᴾ◌}
use Rattle.lie_math.specs.Variables.{IsIn}
use Rattle.lie_math.proofs.ContainedElements.{contains_first, contains_later}
use Rattle.lie_math.proofs.FiniteSum.{key}
use Rattle.lie_math.proofs.FormEntries.{EachHas, each-none, each-plus, each-term}
use Rattle.lie_math.proofs.Monomial.{exponent-power_of}
use Rattle.lie_math.proofs.Tests.{other_number}
use Rattle.lie_systems.specs.Works.{AnUnknown, greatest_unknown, IsMadeWithin, IsWorkPast, OnUnknowns}
use Rattle.lie_steps.specs.Absent.{Power, powers_from, fresh_sum, fresh_unknowns}
use Rattle.lie_steps.specs.Equations.{mentions}
use Rattle.lie_steps.specs.Replacement.{fresh_made}

-- ---- powers
pub powers_more : (v e k : ℕ) → powers_from v e (suc k) ≡ powers_from v e k ++ (v, e + k) ∷ []
powers_more v e zero = ap (λ n. (v, n) ∷ []) (plain e)
  where
    plain : (e : ℕ) → e ≡ e + 0
    plain e = omega arith
powers_more v e (suc k) = ap (λ cs. (v, e) ∷ cs) (powers_more v (suc e) k ∙ ap (λ n. powers_from v (suc e) k ++ (v, n) ∷ []) (shift e k))
  where
    shift : (e k : ℕ) → suc e + k ≡ e + suc k
    shift e k = omega arith

-- with one power more in a list
pub powers_next : (v k : ℕ) (cs new : List Power) → new ≡ (cs ++ powers_from v 0 k) ++ (v, k) ∷ [] → new ≡ cs ++ powers_from v 0 (k + 1)
powers_next v k cs new e =
    e ∙ append_assoc cs (powers_from v 0 k) ((v, k) ∷ [])
    ∙ ap (λ ds. cs ++ ds) (ap (λ n. powers_from v 0 k ++ (v, n) ∷ []) (none k) ∙ sym (powers_more v 0 k) ∙ ap (powers_from v 0) (one k))
  where
    none : (k : ℕ) → k ≡ 0 + k
    none k = omega arith

    one : (k : ℕ) → suc k ≡ k + 1
    one k = omega arith

pub powers_below : (v n e k : ℕ) → v < n → Every (λ (c : Power). c.0 < n) (powers_from v e k)
powers_below v n e zero h = tt
powers_below v n e (suc k) h = (h, powers_below v n (suc e) k h)

-- ---- unknowns
-- the unknown for one power
abbrev fresh_one : ℕ → Unknown → Power → Unknown
fresh_one m f c = record { number = m; variables = filter (λ v. not (eqb v c.0)) f.variables }

pub unknowns_more : (n : ℕ) (f : Unknown) (cs : List Power) (c : Power)
    → fresh_unknowns n f (cs ++ c ∷ []) ≡ fresh_unknowns n f cs ++ fresh_one (n + length cs) f c ∷ []
unknowns_more n f [] c = ap (λ m. fresh_one m f c ∷ []) (plain n)
  where
    plain : (n : ℕ) → n ≡ n + 0
    plain n = omega arith
unknowns_more n f (b ∷ cs) c =
    ap (λ us. fresh_one n f b ∷ us)
    (unknowns_more (suc n) f cs c ∙ ap (λ m. fresh_unknowns (suc n) f cs ++ fresh_one m f c ∷ []) (shift n (length cs)))
  where
    shift : (n k : ℕ) → suc n + k ≡ n + suc k
    shift n k = omega arith

pub length-unknowns : (n : ℕ) (f : Unknown) (cs : List Power) → length (fresh_unknowns n f cs) ≡ length cs
length-unknowns n f [] = refl
length-unknowns n f (c ∷ cs) = ap suc (length-unknowns (suc n) f cs)

pub unknown_made : (n : ℕ) (f : Unknown) (cs : List Power) (k : ℕ) → k < length cs
    → Contains (fresh_made (fresh_unknowns n f cs)) (AnUnknown (n + k))
unknown_made n f [] k h = absurd (omega arith)
unknown_made n f (c ∷ cs) zero h =
    subst (λ m. Contains (fresh_made (fresh_unknowns n f (c ∷ cs))) (AnUnknown m)) (plain n)
    (contains_first (AnUnknown n) (fresh_made (fresh_unknowns (suc n) f cs)))
  where
    plain : (n : ℕ) → n ≡ n + 0
    plain n = omega arith
unknown_made n f (c ∷ cs) (suc k) h =
    subst (λ m. Contains (fresh_made (fresh_unknowns n f (c ∷ cs))) (AnUnknown m)) (shift n k)
    (contains_later (AnUnknown n) (fresh_made (fresh_unknowns (suc n) f cs)) _ (unknown_made (suc n) f cs k (omega arith)))
  where
    shift : (n k : ℕ) → suc n + k ≡ n + suc k
    shift n k = omega arith

pub unknowns_past : (n : ℕ) (f : Unknown) (cs : List Power) (k : ℕ) → k < length cs → greatest_unknown < n + k
    → IsWorkPast (Contains (fresh_made (fresh_unknowns n f cs))) OnUnknowns
unknowns_past n f cs k h past = (AnUnknown (n + k), unknown_made n f cs k h, past)

pub unknowns_within : (n : ℕ) (f : Unknown) (cs : List Power) → n + length cs ≤ suc greatest_unknown
    → Every IsMadeWithin (fresh_made (fresh_unknowns n f cs))
unknowns_within n f [] h = tt
unknowns_within n f (c ∷ cs) h =
    let g : n + suc (length cs) ≤ suc greatest_unknown = h in
    ((let l : n ≤ greatest_unknown = omega arith in l), unknowns_within (suc n) f cs (omega arith))

pub unknowns_fit : (n : ℕ) (f : Unknown) (cs : List Power) (k : ℕ) → length cs ≤ k → (0 < k → n + k ≤ suc greatest_unknown) → k ≤ length cs
    → Every IsMadeWithin (fresh_made (fresh_unknowns n f cs))
unknowns_fit n f [] k past h inside = tt
unknowns_fit n f (c ∷ cs) k past h inside =
    unknowns_within n f (c ∷ cs) (let g : n + k ≤ suc greatest_unknown = h (omega arith) in omega arith)

pub unknowns_on : (n : ℕ) (f : Unknown) (cs : List Power) (k : ℕ) (c : Power) (made : List Unknown) (m : ℕ) (vs : List ℕ) → k < length cs
    → c ≡ get_or cs k c → made ≡ fresh_unknowns n f (take k cs) → m ≡ n + k → vs ≡ filter (λ v. not (eqb v c.0)) f.variables
    → made ++ record { number = m; variables = vs } ∷ [] ≡ fresh_unknowns n f (take (k + 1) cs)
unknowns_on n f cs k c made m vs lt is e number variables =
    ap₂ (λ us (u : Unknown). us ++ u ∷ []) e (ap₂ (λ j ws. record { number = j; variables = ws })
    (number ∙ ap (λ j. n + j) (sym (length-take-le k cs (le_of_lt lt)))) variables)
    ∙ sym (unknowns_more n f (take k cs) c) ∙ ap (fresh_unknowns n f) (take_more cs k c lt is)

-- ---- the sum
pub low_power : (v e : ℕ) → e ≤ 65535 → HasLowExponents (power_of v e)
low_power v e h w = subst (λ n. n ≤ 65535) (sym (exponent-power_of v e w)) (by (eq_by_cmp nat_cmp w v))
  where
    by : (b : Bool) → cond b e 0 ≤ 65535
    by true = h
    by false = omega arith

abbrev itself : ℕ → Derivative
itself n = record { unknown = n; counts = [] }

-- an unknown with a lesser number has the coefficient 0
pub sum_without : (m n : ℕ) (cs : List Power) → m < n → finite.value forms (fresh_sum n cs) (record { unknown = m; counts = [] }) ≡ 0ᴾ
sum_without m n [] h = value-none forms (itself m)
sum_without m n (c ∷ cs) h =
    value-plus forms (form_term (itself n) (term (power_of c.0 c.1) (pos 1))) (fresh_sum (suc n) cs) (itself m)
    ∙ ap₂ ◌+ᴾ◌ (value-term forms (itself n) (term (power_of c.0 c.1) (pos 1)) (itself m)
    ∙ go (eq_by_cmp derivative_cmp (itself m) (itself n)) refl) (sum_without m (suc n) cs (omega arith))
    ∙ plus_idl terms 0ᴾ
  where
    go : (t : Bool) → eq_by_cmp derivative_cmp (itself m) (itself n) ≡ t → cond t (term (power_of c.0 c.1) (pos 1)) 0ᴾ ≡ 0ᴾ
    go true e = let s : m ≡ n = ap (λ (d : Derivative). d.unknown) (key forms (itself m) (itself n) e) in absurd (omega arith)
    go false e = refl

pub sum_before : (n k : ℕ) (cs : List Power) (c : Power) (E F : LinearForm) → k < length cs → c ≡ get_or cs k c
    → E ≡ fresh_sum (suc (n + k)) (drop (suc k) cs)
    → F ≡ E +ᶠ form_term (record { unknown = n + k; counts = [] }) (term (power_of c.0 c.1) (pos 1)) → F ≡ fresh_sum (n + k) (drop k cs)
sum_before n k cs c E F h e is made =
    made ∙ plus_comm forms E _ ∙ ap (λ G. form_term (itself (n + k)) (term (power_of c.0 c.1) (pos 1)) +ᶠ G) is
    ∙ ap (fresh_sum (n + k)) (sym (cut cs k c h e))
  where
    cut : (cs : List Power) (k : ℕ) (c : Power) → k < length cs → c ≡ get_or cs k c → drop k cs ≡ c ∷ drop (suc k) cs
    cut [] k c h e = absurd (omega arith)
    cut (b ∷ cs) zero c h e = ap (λ x. x ∷ cs) (sym e)
    cut (b ∷ cs) (suc k) c h e = cut cs k c (omega arith) e

pub sum_whole : (n i : ℕ) (cs : List Power) → i ≤ 0 → fresh_sum (n + i) (drop i cs) ≡ fresh_sum n cs
sum_whole n zero cs h = ap (λ m. fresh_sum m cs) (plain n)
  where
    plain : (n : ℕ) → n + 0 ≡ n
    plain n = omega arith
sum_whole n (suc i) cs h = absurd (omega arith)

pub sum_from : (n i k : ℕ) (cs : List Power) (E : LinearForm) → i ≡ suc k → E ≡ fresh_sum (n + i) (drop i cs)
    → E ≡ fresh_sum (suc (n + k)) (drop (suc k) cs)
sum_from n i k cs E is e = e ∙ ap₂ (λ m j. fresh_sum m (drop j cs)) (ap (λ j. n + j) is ∙ next n k) is
  where
    next : (n k : ℕ) → n + suc k ≡ suc (n + k)
    next n k = omega arith

module _ (f : ℕ) where
  abbrev IsOther : Derivative → Type 0
  IsOther d = ¬ (d.unknown ≡ f)

  anything : (p : WholePolynomial) → IsIn (λ v. true) p
  anything p v e = absurd (true≢false e)

  others : (n : ℕ) (cs : List Power) → f < n → EachHas IsOther (λ v. true) (fresh_sum n cs)
  others n [] h = each-none IsOther (λ v. true)
  others n (c ∷ cs) h =
      each-plus IsOther (λ v. true) (form_term (itself n) (term (power_of c.0 c.1) (pos 1))) (fresh_sum (suc n) cs)
      (each-term IsOther (λ v. true) (itself n) (term (power_of c.0 c.1) (pos 1)) (λ e. absurd (omega arith))
      (anything (term (power_of c.0 c.1) (pos 1)))) (others (suc n) cs (omega arith))

  none_mentioned : (es : List (Derivative × WholePolynomial))
      → Every (λ (e : Derivative × WholePolynomial). IsOther e.0 × IsIn (λ v. true) e.1) es
      → list_any (λ (e : Derivative × WholePolynomial). eqb (e.0).unknown f) es ≡ false
  none_mentioned [] h = refl
  none_mentioned (e ∷ es) h = ap₂ ◌||◌ (other_number (e.0).unknown f (h.0).0) (none_mentioned es h.1)

  -- an unknown with a lesser number does not occur
  pub sum_mentions : (n : ℕ) (cs : List Power) → f < n → mentions f (fresh_sum n cs) ≡ false
  sum_mentions n cs h = none_mentioned (fresh_sum n cs).list (others n cs h)
