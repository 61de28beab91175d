-- The first fault of an equation: what stands before it by the grammar, what is wrong there, and its place, which is given by the text
-- that begins there.
use Rattle.std.specs.Prelude.{ℕ, ◌+◌, ◌^◌, ◌≡◌, ◌≤◌, ◌<◌, ◌⊎◌, Bool, true, false, List, [], ◌∷◌, ◌++◌, length, take, drop, ℤ, Some, IsSome}
use Rattle.std.specs.List.{AllByRecursion}
use Rattle.lie_math.specs.Monomial.{Monomial, unit, exponent, power_of, ◌·◌}
use Rattle.lie_geometry.specs.Coordinates.{Space, Coordinate}
use Rattle.lie_scan.specs.declared.fault.BadKind.TheVariants.{Syntax, Number, UnknownName, Order, Exponent}
use Rattle.lie_scan.specs.declared.runs.Class.TheVariants.{Letter, Digit}
use Rattle.lie_scan.specs.declared.stop.Stop.{Stop}
use Rattle.lie_scan.specs.Runs.{after_blanks}
use Rattle.lie_scan.specs.Stops.{stop}
use Rattle.lie_system.specs.Exponents.{HasSmallExponents}
use Rattle.lie_scan.specs.Names.{place_of}
use Rattle.lie_scan.specs.Meaning.{product, size_of, turned_sign}
use Rattle.lie_scan.specs.TokenGrammar.{AreIn, BeginsOutside, IsNot, IsSign, IsNumber, IsCoordinateAt, IsPower}
use Rattle.lie_scan.specs.SumGrammar.{IsFirstFactor, AreFactors, IsTerm, sign_of, IsFirstSign, IsSum}

-- ---- where a coordinate must come
pub record IsLetters (word : List ℕ) : Type 0 where
  pub are : AreIn Letter word
  pub some : 1 ≤ length word

-- the word is one of the names
abbrev pub IsName : List ℕ → List ℕ → Type 0
IsName names word = (letter : ℕ) × (place : ℕ) × (word ≡ letter ∷ []) × (place_of names letter ≡ Some place)

abbrev pub AreIndependent : Space → List ℕ → List ℕ → Type 0
AreIndependent S names by = AllByRecursion (λ x. IsSome (place_of (take S.p names) x)) by

-- letters, and neither a letter nor `_` behind them
pub record IsWordAlone (text word : List ℕ) : Type 0 where
  pub rest : List ℕ
  pub letters : IsLetters word
  pub spelled : text ≡ word ++ rest
  pub ended : BeginsOutside Letter rest
  pub alone : IsNot 95 rest

-- letters, `_` and letters
pub record IsWordRaised (text word by : List ℕ) : Type 0 where
  pub rest : List ℕ
  pub letters : IsLetters word
  pub by_letters : IsLetters by
  pub spelled : text ≡ word ++ (95 ∷ (by ++ rest))
  pub ended : BeginsOutside Letter rest

pub data IsCoordinateFault (S : Space) (names text : List ℕ) : Stop → Type 0 where
  -- there is no letter
  no_coordinate : BeginsOutside Letter text → IsCoordinateFault S names text (stop Syntax text)
  -- behind `_` there is no letter
  no_letter : (word rest : List ℕ) → IsLetters word → text ≡ word ++ (95 ∷ rest) → BeginsOutside Letter rest
      → IsCoordinateFault S names text (stop Syntax rest)
  -- the word is no name
  no_name : (word : List ℕ) → IsWordAlone text word → (IsName names word → ⊥) → IsCoordinateFault S names text (stop UnknownName text)
  -- the word before `_` is no name of a dependent variable
  not_dependent : (word by : List ℕ) → IsWordRaised text word by → (IsName (drop S.p names) word → ⊥)
      → IsCoordinateFault S names text (stop UnknownName text)
  -- a letter behind `_` is no name of an independent variable
  not_independent : (word by : List ℕ) → IsWordRaised text word by → (AreIndependent S names by → ⊥)
      → IsCoordinateFault S names text (stop UnknownName text)
  -- more letters are behind `_` than an order may have
  high_order : (word by : List ℕ) → IsWordRaised text word by → IsName (drop S.p names) word → AreIndependent S names by → 7 ≤ length by
      → IsCoordinateFault S names text (stop Order text)

-- ---- where a power must come
pub data IsPowerFault (S : Space) (names text : List ℕ) : Stop → Type 0 where
  in_coordinate : (s : Stop) → IsCoordinateFault S names (after_blanks text) s → IsPowerFault S names text s
  -- behind `^` there is no digit
  no_exponent : (c : Coordinate) (behind front : List ℕ) → IsCoordinateAt S names text c behind → IsSign 94 behind front
      → BeginsOutside Digit (after_blanks front) → IsPowerFault S names text (stop Syntax (after_blanks front))
  -- the exponent is 0 or past the greatest
  wrong_exponent : (c : Coordinate) (behind front : List ℕ) (e : ℕ) (rest : List ℕ) → IsCoordinateAt S names text c behind
      → IsSign 94 behind front → IsNumber front e rest → ((e ≡ 0) ⊎ (33 ≤ e))
      → IsPowerFault S names text (stop Exponent (after_blanks text))

-- ---- where a term must come
-- the text begins with factors, whose product is m, and `*`
pub record IsFactorNext (S : Space) (names text : List ℕ) (m : Monomial) (front : List ℕ) : Type 0 where
  pub number : ℕ
  pub first : List (ℕ × ℕ)
  pub behind_first : List ℕ
  pub further : List (ℕ × ℕ)
  pub behind : List ℕ
  pub begins : IsFirstFactor S names text number first behind_first
  pub goes_on : AreFactors S names behind_first further behind
  pub star : IsSign 42 behind front
  pub means : m ≡ product unit (first ++ further)
  pub small : HasSmallExponents m

pub data IsTermFault (S : Space) (names text : List ℕ) : Stop → Type 0 where
  -- the number is past 2^127 - 1
  large_number : (n : ℕ) (rest : List ℕ) → IsNumber text n rest → 2 ^ 127 ≤ n → IsTermFault S names text (stop Number (after_blanks text))
  in_first : (s : Stop) → BeginsOutside Digit (after_blanks text) → IsPowerFault S names text s → IsTermFault S names text s
  in_factor : (m : Monomial) (front : List ℕ) (s : Stop) → IsFactorNext S names text m front → IsPowerFault S names front s
      → IsTermFault S names text s
  -- with this power the exponents of its coordinate sum to more than the greatest
  high_exponent : (m : Monomial) (front : List ℕ) (p : ℕ × ℕ) (rest : List ℕ) → IsFactorNext S names text m front
      → IsPower S names front p rest → 33 ≤ exponent (m · power_of p.0 p.1) p.0
      → IsTermFault S names text (stop Exponent (after_blanks front))

-- ---- where a sum must come
-- a term must come at front, behind terms and a sign; negative where it counts with a minus
pub data IsTermNext (S : Space) (names : List ℕ) (turned : Bool) (text : List ℕ) : Bool → List (Monomial × ℤ) → List ℕ → Type 0 where
  first_term : (negative : Bool) (front : List ℕ) → IsFirstSign text negative front
      → IsTermNext S names turned text (turned_sign negative turned) [] front
  further_term : (negative : Bool) (terms : List (Monomial × ℤ)) (behind front : List ℕ) → IsSum S names turned text terms behind
      → IsSign (sign_of negative) behind front
      → IsTermNext S names turned text (turned_sign negative turned) terms front

-- no like terms sum to more than 2^127 - 1
abbrev pub AreWithin : List (Monomial × ℤ) → Type 0
AreWithin terms = (m : Monomial) → size_of m terms < 2 ^ 127

-- in a sum behind the terms before
pub data IsSumFault (S : Space) (names : List ℕ) (turned : Bool) (before : List (Monomial × ℤ)) (text : List ℕ) : Stop → Type 0 where
  in_term : (negative : Bool) (terms : List (Monomial × ℤ)) (front : List ℕ) (s : Stop)
      → IsTermNext S names turned text negative terms front → AreWithin (before ++ terms) → IsTermFault S names front s
      → IsSumFault S names turned before text s
  -- with this term its like terms sum to more than 2^127 - 1
  large_sum : (negative : Bool) (terms : List (Monomial × ℤ)) (front : List ℕ) (n : ℕ) (m : Monomial) (rest : List ℕ)
      → IsTermNext S names turned text negative terms front → AreWithin (before ++ terms)
      → IsTerm S names front n m rest → IsNot 42 (after_blanks rest) → 2 ^ 127 ≤ size_of m (before ++ terms) + n
      → IsSumFault S names turned before text (stop Number (after_blanks front))

-- ---- where an equation must come
-- no factor and no term goes on
pub record IsEndOfSum (rest : List ℕ) : Type 0 where
  pub no_star : IsNot 42 (after_blanks rest)
  pub no_plus : IsNot 43 (after_blanks rest)
  pub no_minus : IsNot 45 (after_blanks rest)

pub data IsEquationFault (S : Space) (names text : List ℕ) : Stop → Type 0 where
  in_left : (s : Stop) → IsSumFault S names false [] text s → IsEquationFault S names text s
  -- behind the left side there is no `=`
  no_equals : (left : List (Monomial × ℤ)) (rest : List ℕ) → IsSum S names false text left rest → AreWithin left → IsEndOfSum rest
      → IsNot 61 (after_blanks rest) → IsEquationFault S names text (stop Syntax (after_blanks rest))
  in_right : (left : List (Monomial × ℤ)) (behind front : List ℕ) (s : Stop) → IsSum S names false text left behind → AreWithin left
      → IsSign 61 behind front → IsSumFault S names true left front s → IsEquationFault S names text s
  -- behind the right side there is a token
  further_token : (left right : List (Monomial × ℤ)) (behind front rest : List ℕ) → IsSum S names false text left behind
      → IsSign 61 behind front → IsSum S names true front right rest → AreWithin (left ++ right)
      → IsEndOfSum rest → 1 ≤ length (after_blanks rest) → IsEquationFault S names text (stop Syntax (after_blanks rest))
