-- The grammar of field texts. A production has a text, what the text begins with, and the rest behind it.
use Rattle.std.specs.Prelude.{ℕ, ◌/◌, ◌^◌, ◌≡◌, ◌≤◌, ◌<◌, ◌⊎◌, Bool, true, false, ◌&&◌, ◌||◌, ◌==◌, nat_le, List, [], ◌∷◌, Some}
use Rattle.std.specs.List.{AllByRecursion}
use Rattle.lie_math.specs.Monomial.{unit}
use Rattle.lie_math.specs.VectorField.{VectorField}
use Rattle.lie_math.specs.CommonDivisors.{common_divisor}
use Rattle.lie_ring.specs.Ratios.{signed}
use Rattle.lie_geometry.specs.Coordinates.{Space}
use Rattle.lie_scan.specs.declared.runs.Class.TheVariants.{Letter, Digit}
use Rattle.lie_system.specs.Exponents.{HasSmallExponents}
use Rattle.lie_scan.specs.Runs.{is_in, after_blanks}
use Rattle.lie_scan.specs.Names.{place_of}
use Rattle.lie_scan.specs.Meaning.{product}
use Rattle.lie_scan.specs.TokenGrammar.{BeginsOutside, IsNot, AreBlanks, IsBehindBlanks, IsSign, IsNumber, IsExponentAt}
use Rattle.lie_scan.specs.SumGrammar.{sign_of, IsFirstSign}
use Rattle.lie_fieldtext.specs.declared.field_term.FieldTerm.{FieldTerm}
use Rattle.lie_fieldtext.specs.FieldMeaning.{HaveSmallSums, IsSumOfTerms}

-- ---- base vectors and powers
-- `d_` is next
abbrev pub begins_base : List ℕ → Bool
begins_base [] = false
begins_base (b ∷ []) = false
begins_base (b ∷ c ∷ bs) = b == 100 && c == 95

-- `d_` and the name at a place: one token
pub record IsBaseVector (names text : List ℕ) (place : ℕ) (rest : List ℕ) : Type 0 where
  pub letter : ℕ
  pub front : IsBehindBlanks text (100 ∷ 95 ∷ letter ∷ rest)
  pub is_letter : is_in Letter letter ≡ true
  pub ended : BeginsOutside Letter rest
  pub named : place_of names letter ≡ Some place

-- the name at a place, which is no `d` of a base vector
pub record IsVariable (names text : List ℕ) (place : ℕ) (rest : List ℕ) : Type 0 where
  pub letter : ℕ
  pub front : IsBehindBlanks text (letter ∷ rest)
  pub no_base : begins_base (letter ∷ rest) ≡ false
  pub is_letter : is_in Letter letter ≡ true
  pub ended : BeginsOutside Letter rest
  pub named : place_of names letter ≡ Some place

-- a variable by its place, and its exponent
abbrev pub IsVariablePower : List ℕ → List ℕ → ℕ × ℕ → List ℕ → Type 0
IsVariablePower names text p rest = (behind : List ℕ) × IsVariable names text p.0 behind × IsExponentAt behind p.1 rest

-- powers, each before `*`
abbrev pub AreVariablePowers : List ℕ → List ℕ → List (ℕ × ℕ) → List ℕ → Type 0
AreVariablePowers names text [] rest = text ≡ rest
AreVariablePowers names text (p ∷ ps) rest = (behind : List ℕ) ×
    (front : List ℕ) × IsVariablePower names text p behind × IsSign 42 behind front × AreVariablePowers names front ps rest

-- ---- coefficients
-- `/` and a number of 1 to 2^127 - 1, or no `/` for 1
abbrev pub IsDenominator : List ℕ → ℕ → List ℕ → Type 0
IsDenominator text d rest =
    ((d ≡ 1) × (text ≡ rest) × IsNot 47 (after_blanks rest))
    ⊎ ((front : List ℕ) × IsSign 47 text front × IsNumber front d rest × (1 ≤ d) × (d < 2 ^ 127))

-- a number up to 2^127 - 1, and its denominator
pub record IsFraction (text : List ℕ) (n d : ℕ) (rest : List ℕ) : Type 0 where
  pub behind : List ℕ
  pub number : IsNumber text n behind
  pub small : n < 2 ^ 127
  pub under : IsDenominator behind d rest

-- a fraction and `*`, or nothing for 1
abbrev pub IsCoefficient : List ℕ → ℕ → ℕ → List ℕ → Type 0
IsCoefficient text n d rest =
    ((behind : List ℕ) × IsFraction text n d behind × IsSign 42 behind rest)
    ⊎ ((n ≡ 1) × (d ≡ 1) × (text ≡ rest) × BeginsOutside Digit (after_blanks text))

-- ---- terms
-- a coefficient and powers; the exponents of their product are not past the greatest
pub record IsFieldTermFront (names text : List ℕ) (n d : ℕ) (powers : List (ℕ × ℕ)) (rest : List ℕ) : Type 0 where
  pub behind : List ℕ
  pub coefficient : IsCoefficient text n d behind
  pub are : AreVariablePowers names behind powers rest
  pub small : HasSmallExponents (product unit powers)

-- a coefficient, powers and a base vector; the coefficient in lowest terms, negative behind a minus
pub record IsFieldTerm (names text : List ℕ) (negative : Bool) (t : FieldTerm) (rest : List ℕ) : Type 0 where
  pub numerator : ℕ
  pub denominator : ℕ
  pub powers : List (ℕ × ℕ)
  pub behind : List ℕ
  pub front : IsFieldTermFront names text numerator denominator powers behind
  pub base : IsBaseVector names behind t.place rest
  pub monomial : t.monomial ≡ product unit powers
  pub number : t.number ≡ signed negative (numerator / common_divisor numerator denominator)
  pub over : t.over ≡ denominator / common_divisor numerator denominator

-- terms, each behind a sign
abbrev pub AreFieldTerms : List ℕ → List ℕ → List FieldTerm → List ℕ → Type 0
AreFieldTerms names text [] rest = text ≡ rest
AreFieldTerms names text (t ∷ ts) rest =
    (negative : Bool) × (front : List ℕ) × (behind : List ℕ)
    × IsSign (sign_of negative) text front × IsFieldTerm names front negative t behind × AreFieldTerms names behind ts rest

-- a sum of terms
pub record IsFieldSum (names text : List ℕ) (terms : List FieldTerm) (rest : List ℕ) : Type 0 where
  pub negative : Bool
  pub front : List ℕ
  pub first : FieldTerm
  pub behind : List ℕ
  pub further : List FieldTerm
  pub sign : IsFirstSign text negative front
  pub begins : IsFieldTerm names front negative first behind
  pub goes_on : AreFieldTerms names behind further rest
  pub are : terms ≡ first ∷ further

-- ---- texts
-- the one token `0`
abbrev pub IsZeroText : List ℕ → Type 0
IsZeroText text = (rest : List ℕ) × IsBehindBlanks text (48 ∷ rest) × AreBlanks rest

-- the token `0` for no terms, or a sum of terms
abbrev pub HasFieldTerms : List ℕ → List ℕ → List FieldTerm → Type 0
HasFieldTerms names text terms = (IsZeroText text × (terms ≡ [])) ⊎ ((rest : List ℕ) × IsFieldSum names text terms rest × AreBlanks rest)

-- tab, and space to `~`
abbrev pub is_in_line : ℕ → Bool
is_in_line b = b == 9 || (nat_le 32 b && nat_le b 126)

-- the bytes are the text of a field
pub record IsFieldText (S : Space) (names bytes : List ℕ) (V : VectorField) : Type 0 where
  pub terms : List FieldTerm
  pub allowed : AllByRecursion (λ b. is_in_line b ≡ true) bytes
  pub has : HasFieldTerms names bytes terms
  pub within : HaveSmallSums terms
  pub means : IsSumOfTerms S terms V
