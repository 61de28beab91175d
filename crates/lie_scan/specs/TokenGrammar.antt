-- The grammar of the tokens of a line: numbers and powers of coordinates. A production has a text, what the text begins with, and the
-- rest behind it.
use Rattle.std.specs.Prelude.{ℕ, ◌≡◌, ◌≤◌, ◌⊎◌, true, false, ◌==◌, List, [], ◌∷◌, ◌++◌, length, take, drop, Some, IsSome}
use Rattle.std.specs.List.{AllByRecursion}
use Rattle.std.specs.Str.Parse.{IsNumeral, digits_value}
use Rattle.lie_geometry.specs.Coordinates.{Space, Coordinate, jet, number}
use Rattle.lie_scan.specs.declared.runs.Class.{Class}
use Rattle.lie_scan.specs.declared.runs.Class.TheVariants.{Blank, Letter, Digit}
use Rattle.lie_scan.specs.Runs.{is_in, after_blanks}
use Rattle.lie_scan.specs.Names.{place_of, letter_counts, variable_at}
use Rattle.lie_system.specs.Limits.{greatest_written_exponent}
use Rattle.lie_jet.specs.Limits.{greatest_written_order}

-- ---- bytes
abbrev pub AreIn : Class → List ℕ → Type 0
AreIn class bytes = AllByRecursion (λ b. is_in class b ≡ true) bytes

-- the first byte, if there is one, is in no such class
abbrev pub BeginsOutside : Class → List ℕ → Type 0
BeginsOutside class [] = Unit {0}
BeginsOutside class (b ∷ bs) = is_in class b ≡ false

-- the first byte, if there is one, is not c
abbrev pub IsNot : ℕ → List ℕ → Type 0
IsNot c [] = Unit {0}
IsNot c (b ∷ bs) = (b == c) ≡ false

-- ---- blanks
abbrev pub AreBlanks : List ℕ → Type 0
AreBlanks bytes = AreIn Blank bytes

-- blanks, or none, and then the rest
pub record IsBehindBlanks (text rest : List ℕ) : Type 0 where
  pub blanks : List ℕ
  pub are : AreBlanks blanks
  pub spelled : text ≡ blanks ++ rest

-- a byte that is a token
abbrev pub IsSign : ℕ → List ℕ → List ℕ → Type 0
IsSign c text rest = IsBehindBlanks text (c ∷ rest)

-- ---- numbers
-- one digit or more
pub record IsNumber (text : List ℕ) (n : ℕ) (rest : List ℕ) : Type 0 where
  pub digits : List ℕ
  pub front : IsBehindBlanks text (digits ++ rest)
  pub ended : BeginsOutside Digit rest
  pub numeral : IsNumeral 10 digits
  pub value : digits_value 10 digits ≡ n

-- ---- coordinates
-- a letter that is a name
pub record IsVariableName (S : Space) (names word : List ℕ) (c : Coordinate) : Type 0 where
  pub letter : ℕ
  pub place : ℕ
  pub spelled : word ≡ letter ∷ []
  pub is_letter : is_in Letter letter ≡ true
  pub named : place_of names letter ≡ Some place
  pub means : c ≡ variable_at S place

-- the name of a dependent variable, `_`, and names of independent variables in any order, at least one and as many as an order may have
pub record IsDerivativeName (S : Space) (names word : List ℕ) (c : Coordinate) : Type 0 where
  pub letter : ℕ
  pub place : ℕ
  pub by : List ℕ
  pub spelled : word ≡ letter ∷ 95 ∷ by
  pub is_letter : is_in Letter letter ≡ true
  pub named : place_of (drop S.p names) letter ≡ Some place
  pub are_letters : AreIn Letter by
  pub independent : AllByRecursion (λ x. IsSome (place_of (take S.p names) x)) by
  pub some : 1 ≤ length by
  pub few : length by ≤ greatest_written_order
  pub means : c ≡ jet place (take S.p (letter_counts (take S.p names) by))

-- a coordinate is one token: no letter is behind it, and no `_` behind a name alone
pub record IsCoordinateAt (S : Space) (names text : List ℕ) (c : Coordinate) (rest : List ℕ) : Type 0 where
  pub word : List ℕ
  pub front : IsBehindBlanks text (word ++ rest)
  pub ended : BeginsOutside Letter rest
  pub name : (IsVariableName S names word c × IsNot 95 rest) ⊎ IsDerivativeName S names word c

-- ---- powers
-- behind a coordinate: `^` and a number from 1 to the greatest exponent, or no `^` for the exponent 1
abbrev pub IsExponentAt : List ℕ → ℕ → List ℕ → Type 0
IsExponentAt text e rest = ((e ≡ 1) × (text ≡ rest) × IsNot 94 (after_blanks rest)) ⊎
    ((digits : List ℕ) × IsSign 94 text digits × IsNumber digits e rest × (1 ≤ e) × (e ≤ greatest_written_exponent))

-- a power: the number of its coordinate, and its exponent
pub record IsPower (S : Space) (names text : List ℕ) (p : ℕ × ℕ) (rest : List ℕ) : Type 0 where
  pub coordinate : Coordinate
  pub behind : List ℕ
  pub base : IsCoordinateAt S names text coordinate behind
  pub exponent : IsExponentAt behind p.1 rest
  pub means : p.0 ≡ number S coordinate
