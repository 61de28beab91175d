-- What the readers of field texts answer at one turn, and what they keep of the terms.
use Rattle.std.specs.Prelude.{
  ℕ,
  ◌^◌,
  ◌≡◌,
  ◌≤◌,
  ◌<◌,
  List,
  [],
  ◌∷◌,
  length,
  get_or,
  map,
  ℤ,
  pos,
  ◌*ℤ◌,
  unsigned_abs,
  Some,
  None,
  if◌then◌else◌,
}
use Rattle.std.specs.List.{AllByRecursion}
use Rattle.std.specs.declared.option.Option.{Option}
use Rattle.std.specs.Borrow.{Bor}
use Rattle.std.specs.Global.{Vec}
use Rattle.std.specs.BTreeMap.{BTreeMap}
use Rattle.std.specs.Ordering.{is_eq}
use Rattle.lie_math.specs.Monomial.{Monomial, exponent}
use Rattle.lie_math.specs.Limits.{IsWithinLimits, absolutes}
use Rattle.lie_math.specs.Polynomial.{WholePolynomial, 0ᴾ, polynomial_of}
use Rattle.lie_math.specs.CommonDivisors.{common_divisor}
use Rattle.lie_fieldtext.specs.declared.field_factors.Factor.{Factor}
use Rattle.lie_fieldtext.specs.declared.field_factors.Factor.TheVariants.{Base, Product}
use Rattle.lie_fieldtext.specs.declared.field_term.FieldTerm.{FieldTerm}
use Rattle.lie_system.specs.Exponents.{HasSmallExponents}
use Rattle.lie_scan.specs.Turns.{Turn, goes_on, ends}
use Rattle.lie_scan.specs.Sizes.{size_in, key_cmp}
use Rattle.lie_fieldtext.specs.FieldMeaning.{common_denominator, amount_over, size_over, terms_over, HaveSmallSums}

-- ---- turns
-- a power goes on, and a base vector ends the term
abbrev pub factor_turn_of : Monomial → Factor → List ℕ → Turn Monomial ((ℕ × Monomial) × List ℕ)
factor_turn_of m (Base place) rest = ends ((place, m), rest)
factor_turn_of m (Product k) rest = goes_on k rest

abbrev pub HasSmallFactor : Factor → Type 0
HasSmallFactor (Base place) = Unit {0}
HasSmallFactor (Product k) = HasSmallExponents k

-- a further term, or the end of the text
abbrev pub sum_turn_of : List FieldTerm → Option (Bor (List ℕ)) → Turn (List FieldTerm) (List FieldTerm)
sum_turn_of ts (Some rest) = goes_on ts rest.now
sum_turn_of ts None = ends ts

-- ---- sizes
abbrev pub HasDenominator : FieldTerm → Type 0
HasDenominator t = 1 ≤ t.over

-- at the key of a place and a monomial the sum of the absolute values of the terms like them, over n
pub record AreSizesOver (n : ℕ) (sizes : BTreeMap (Vec (ℕ × ℕ)) ℕ) (ts : List FieldTerm) : Type 0 where
  pub size : (key : Vec (ℕ × ℕ)) (s : ℕ) (m : Monomial) → key.items ≡ (s, 0) ∷ m.list → size_in sizes key ≡ size_over n s m ts

-- over n the sums of the absolute values of like terms are at most 2^127 - 1
abbrev pub AreSmallOver : ℕ → List FieldTerm → Type 0
AreSmallOver n ts = (s : ℕ) (m : Monomial) → size_over n s m ts < 2 ^ 127

-- the sums over n, where they are at most 2^127 - 1
abbrev pub IsSized : ℕ → List FieldTerm → Option (BTreeMap (Vec (ℕ × ℕ)) ℕ) → Type 0
IsSized n ts (Some sizes) = AreSizesOver n sizes ts × AreSmallOver n ts
IsSized n ts None = AreSmallOver n ts → ⊥

-- the sizes with a total at a key, where there is a total
abbrev pub IsPut : BTreeMap (Vec (ℕ × ℕ)) ℕ → Vec (ℕ × ℕ) → Option ℕ → Option (BTreeMap (Vec (ℕ × ℕ)) ℕ) → Type 0
IsPut old key (Some total) (Some new) = (other : Vec (ℕ × ℕ))
    → size_in new other ≡ (if is_eq (key_cmp key other) then total else size_in old other)
IsPut old key None None = Unit {0}
IsPut old key (Some total) None = ⊥
IsPut old key None (Some new) = ⊥

pub record AreGathered (ts : List FieldTerm) (n : ℕ) (sizes : BTreeMap (Vec (ℕ × ℕ)) ℕ) : Type 0 where
  pub denominators : AllByRecursion HasDenominator ts
  pub common : n ≡ common_denominator ts
  pub some : 1 ≤ n
  pub sized : AreSizesOver n sizes ts
  pub within : HaveSmallSums ts

-- ---- parts
-- the absolute value of a term over n is at most 2^127 - 1
pub record IsTermOver (n : ℕ) (t : FieldTerm) : Type 0 where
  pub some : 1 ≤ t.over
  pub small : amount_over n t < 2 ^ 127

-- a term in the first k variables
pub record IsTermIn (k : ℕ) (t : FieldTerm) : Type 0 where
  pub place : t.place < k
  pub monomial : (v : ℕ) → k ≤ v → exponent t.monomial v ≡ 0

-- the sums over n of the terms at each place are within the limits, with absolute values
abbrev pub ArePartsWithin : ℕ → List FieldTerm → Type 0
ArePartsWithin n ts = (s : ℕ) → IsWithinLimits (polynomial_of (absolutes (terms_over n s ts)))

-- the sums over n of the terms at the first k places
pub record ArePartsOver (n : ℕ) (ts : List FieldTerm) (k : ℕ) (parts : List WholePolynomial) : Type 0 where
  pub count : length parts ≡ k
  pub each : (s : ℕ) → s < k → get_or parts s 0ᴾ ≡ polynomial_of (terms_over n s ts)

-- ---- lowest terms
-- the greatest common divisor of n and the numbers of entries
abbrev pub content_from : ℕ → List (Monomial × ℤ) → ℕ
content_from n [] = n
content_from n (e ∷ es) = content_from (common_divisor (unsigned_abs e.1) n) es

abbrev pub contents_from : ℕ → List WholePolynomial → ℕ
contents_from n [] = n
contents_from n (p ∷ ps) = contents_from (content_from n p.list) ps

-- the entries with a number times as large
abbrev pub times_entries : ℕ → List (Monomial × ℤ) → List (Monomial × ℤ)
times_entries n es = map (λ e. (e.0, pos n *ℤ e.1)) es
