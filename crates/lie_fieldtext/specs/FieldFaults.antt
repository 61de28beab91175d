-- The first fault of a field text: what stands before it by the grammar, what is wrong there, and its place.
use Rattle.std.specs.Prelude.{
  ℕ,
  ◌+◌,
  ◌-◌,
  ◌^◌,
  ◌≡◌,
  ◌≤◌,
  ◌<◌,
  ◌⊎◌,
  Bool,
  true,
  false,
  List,
  [],
  ◌∷◌,
  ◌++◌,
  length,
  if◌then◌else◌,
  Some,
  None,
  Ok,
  Err,
}
use Rattle.std.specs.declared.option.Option.{Option}
use Rattle.std.specs.declared.result.Result.{Result}
use Rattle.std.specs.List.{AllByRecursion}
use Rattle.lie_math.specs.Monomial.{unit, exponent, power_of, ◌·◌}
use Rattle.lie_scan.specs.declared.fault.BadFile.{BadFile}
use Rattle.lie_scan.specs.declared.fault.BadKind.{BadKind}
use Rattle.lie_scan.specs.declared.fault.BadKind.TheVariants.{TooLong, NotAscii, Syntax, Number, UnknownName, Exponent}
use Rattle.lie_scan.specs.declared.fault.ReadFail.{ReadFail}
use Rattle.lie_scan.specs.declared.fault.ReadFail.TheVariants as reads
use Rattle.lie_scan.specs.declared.runs.Class.TheVariants.{Letter, Digit}
use Rattle.lie_scan.specs.declared.stop.Stop.{Stop}
use Rattle.lie_system.specs.Exponents.{HasSmallExponents}
use Rattle.lie_scan.specs.Runs.{after_blanks}
use Rattle.lie_scan.specs.Stops.{stop}
use Rattle.lie_scan.specs.Meaning.{product}
use Rattle.lie_scan.specs.Bad.{bad}
use Rattle.lie_scan.specs.TokenGrammar.{BeginsOutside, IsNot, IsBehindBlanks, IsSign, IsNumber}
use Rattle.lie_scan.specs.SumGrammar.{sign_of, IsFirstSign}
use Rattle.lie_scan.specs.LineFaults.{IsLetters, IsName}
use Rattle.lie_fieldtext.specs.declared.field_term.FieldTerm.{FieldTerm}
use Rattle.lie_fieldtext.specs.FieldMeaning.{HaveSmallSums}
use Rattle.lie_scan.specs.Limits.{greatest_text_length}
use Rattle.lie_fieldtext.specs.FieldGrammar.{
  begins_base,
  IsVariable,
  IsVariablePower,
  IsFraction,
  IsFieldTermFront,
  IsFieldTerm,
  IsFieldSum,
  IsZeroText,
  is_in_line,
}

-- ---- where a power or a base vector must come
pub data IsFactorFault (names text : List ℕ) : Stop → Type 0 where
  -- there is no letter
  no_letter : BeginsOutside Letter (after_blanks text) → IsFactorFault names text (stop Syntax (after_blanks text))
  -- behind `d_` there is no letter
  no_name : (rest : List ℕ) → IsBehindBlanks text (100 ∷ 95 ∷ rest) → BeginsOutside Letter rest
      → IsFactorFault names text (stop Syntax rest)
  -- the word behind `d_` is no name
  unknown_base : (word rest : List ℕ) → IsBehindBlanks text (100 ∷ 95 ∷ (word ++ rest)) → IsLetters word → BeginsOutside Letter rest
      → (IsName names word → ⊥) → IsFactorFault names text (stop UnknownName (after_blanks text))
  -- the word is no name
  unknown_variable : (word rest : List ℕ) → IsBehindBlanks text (word ++ rest) → begins_base (word ++ rest) ≡ false → IsLetters word
      → BeginsOutside Letter rest → (IsName names word → ⊥)
      → IsFactorFault names text (stop UnknownName (after_blanks text))
  -- behind `^` there is no digit
  no_exponent : (place : ℕ) (behind front : List ℕ) → IsVariable names text place behind → IsSign 94 behind front
      → BeginsOutside Digit (after_blanks front) → IsFactorFault names text (stop Syntax (after_blanks front))
  -- the exponent is 0 or past the greatest
  wrong_exponent : (place : ℕ) (behind front : List ℕ) (e : ℕ) (rest : List ℕ) → IsVariable names text place behind
      → IsSign 94 behind front → IsNumber front e rest → ((e ≡ 0) ⊎ (33 ≤ e))
      → IsFactorFault names text (stop Exponent (after_blanks text))

-- ---- where a term must come
pub data IsFieldTermFault (names text : List ℕ) : Stop → Type 0 where
  -- the number is past 2^127 - 1
  large_number : (n : ℕ) (rest : List ℕ) → IsNumber text n rest → 2 ^ 127 ≤ n
      → IsFieldTermFault names text (stop Number (after_blanks text))
  -- behind `/` there is no digit
  no_denominator : (n : ℕ) (behind front : List ℕ) → IsNumber text n behind → n < 2 ^ 127 → IsSign 47 behind front
      → BeginsOutside Digit (after_blanks front) → IsFieldTermFault names text (stop Syntax (after_blanks front))
  -- the number behind `/` is 0 or past 2^127 - 1
  wrong_denominator : (n : ℕ) (behind front : List ℕ) (d : ℕ) (rest : List ℕ) → IsNumber text n behind → n < 2 ^ 127
      → IsSign 47 behind front → IsNumber front d rest → ((d ≡ 0) ⊎ (2 ^ 127 ≤ d))
      → IsFieldTermFault names text (stop Number (after_blanks front))
  -- behind the coefficient there is no `*`
  no_star : (n d : ℕ) (rest : List ℕ) → IsFraction text n d rest → IsNot 42 (after_blanks rest)
      → IsFieldTermFault names text (stop Syntax (after_blanks rest))
  in_factor : (n d : ℕ) (powers : List (ℕ × ℕ)) (front : List ℕ) (s : Stop) → IsFieldTermFront names text n d powers front
      → IsFactorFault names front s → IsFieldTermFault names text s
  -- with this power the exponents of its variable sum to more than the greatest
  high_exponent : (n d : ℕ) (powers : List (ℕ × ℕ)) (front : List ℕ) (p : ℕ × ℕ) (rest : List ℕ)
      → IsFieldTermFront names text n d powers front → IsVariablePower names front p rest
      → 33 ≤ exponent (product unit powers · power_of p.0 p.1) p.0 → IsFieldTermFault names text (stop Exponent (after_blanks front))
  -- behind a power there is no `*`
  no_further : (n d : ℕ) (powers : List (ℕ × ℕ)) (front : List ℕ) (p : ℕ × ℕ) (rest : List ℕ)
      → IsFieldTermFront names text n d powers front → IsVariablePower names front p rest
      → HasSmallExponents (product unit powers · power_of p.0 p.1) → IsNot 42 (after_blanks rest)
      → IsFieldTermFault names text (stop Syntax (after_blanks rest))

-- ---- where a sum must come
-- a term must come at front, behind terms and a sign
pub data IsFieldTermNext (names text : List ℕ) : Bool → List FieldTerm → List ℕ → Type 0 where
  first_term : (negative : Bool) (front : List ℕ) → IsFirstSign text negative front → IsFieldTermNext names text negative [] front
  further_term : (negative : Bool) (terms : List FieldTerm) (behind front : List ℕ) → IsFieldSum names text terms behind
      → IsSign (sign_of negative) behind front → IsFieldTermNext names text negative terms front

pub data IsFieldSumFault (names text : List ℕ) : Stop → Type 0 where
  in_term : (negative : Bool) (terms : List FieldTerm) (front : List ℕ) (s : Stop) → IsFieldTermNext names text negative terms front
      → HaveSmallSums terms → IsFieldTermFault names front s → IsFieldSumFault names text s
  -- with this term the common denominator or a sum over it is past 2^127 - 1
  past_limits : (negative : Bool) (terms : List FieldTerm) (front : List ℕ) (t : FieldTerm) (rest : List ℕ)
      → IsFieldTermNext names text negative terms front → HaveSmallSums terms → IsFieldTerm names front negative t rest
      → (HaveSmallSums (terms ++ t ∷ []) → ⊥) → IsFieldSumFault names text (stop Number (after_blanks front))
  -- behind a term there is no sign
  further_token : (terms : List FieldTerm) (rest : List ℕ) → IsFieldSum names text terms rest → HaveSmallSums terms
      → IsNot 43 (after_blanks rest) → IsNot 45 (after_blanks rest) → 1 ≤ length (after_blanks rest)
      → IsFieldSumFault names text (stop Syntax (after_blanks rest))

-- ---- texts
-- the column of the first byte that is not allowed
abbrev pub not_in_line_from : ℕ → List ℕ → Option ℕ
not_in_line_from column [] = None
not_in_line_from column (b ∷ bs) = if is_in_line b then not_in_line_from (column + 1) bs else Some column

-- the first fault of bytes
pub data IsFieldFault (names bytes : List ℕ) : ReadFail → Type 0 where
  too_long : 65537 ≤ length bytes → IsFieldFault names bytes (bad 1 1 TooLong)
  not_allowed : (column : ℕ) → length bytes ≤ greatest_text_length → not_in_line_from 1 bytes ≡ Some column
      → IsFieldFault names bytes (bad 1 column NotAscii)
  in_sum : (s : Stop) → length bytes ≤ greatest_text_length → AllByRecursion (λ b. is_in_line b ≡ true) bytes → (IsZeroText bytes → ⊥)
      → IsFieldSumFault names bytes s
      → IsFieldFault names bytes (bad 1 (length bytes - s.left + 1) s.kind)

-- the fault that a call told, where it told one, is the first
abbrev pub IsFieldFaultToldOf : {X : Type 0} → List ℕ → List ℕ → Result X ReadFail → Type 0
IsFieldFaultToldOf names bytes (Ok x) = Unit {0}
IsFieldFaultToldOf names bytes (Err reads.NoMemory) = Unit {0}
IsFieldFaultToldOf names bytes (Err (reads.Bad b)) = IsFieldFault names bytes (reads.Bad b)

-- ---- places
-- there is a first byte, and it is not allowed
abbrev pub BeginsNotAllowed : List ℕ → Type 0
BeginsNotAllowed [] = ⊥
BeginsNotAllowed (b ∷ bs) = is_in_line b ≡ false

-- what is wrong begins with the rest
abbrev pub IsWrongAt : List ℕ → List ℕ → List ℕ → List ℕ → BadKind → Type 0
IsWrongAt names bytes before rest kind =
    ((kind ≡ NotAscii) × AllByRecursion (λ b. is_in_line b ≡ true) before × BeginsNotAllowed rest)
    ⊎ IsFieldSumFault names bytes (stop kind rest)

-- before the place stand these bytes, on the one line and one less than its column says; what is wrong begins with the rest
pub record IsFieldPlaceIn (names bytes : List ℕ) (bad : BadFile) : Type 0 where
  pub before : List ℕ
  pub rest : List ℕ
  pub parted : bytes ≡ before ++ rest
  pub line : bad.line ≡ 1
  pub column : bad.column ≡ length before + 1
  pub wrong : IsWrongAt names bytes before rest bad.kind
