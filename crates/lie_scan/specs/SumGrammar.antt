-- The grammar of terms, sums and equations. A production has a text, what the text begins with, and the rest behind it.
use Rattle.std.specs.Prelude.{ℕ, ◌^◌, ◌≡◌, ◌≤◌, ◌<◌, ◌⊎◌, Bool, true, false, List, [], ◌∷◌, ◌++◌, ℤ, Some, None}
use Rattle.std.specs.declared.option.Option.{Option}
use Rattle.lie_math.specs.Monomial.{Monomial, unit}
use Rattle.lie_math.specs.Polynomial.{polynomial_of}
use Rattle.lie_geometry.specs.Coordinates.{Space, Coordinate, order_of}
use Rattle.lie_system.specs.Exponents.{HasSmallExponents}
use Rattle.lie_system.specs.Systems.{EquationRead}
use Rattle.lie_scan.specs.Meaning.{product, size_of, turned_sign}
use Rattle.lie_ring.specs.Ratios.{signed}
use Rattle.lie_scan.specs.Runs.{after_blanks}
use Rattle.lie_scan.specs.TokenGrammar.{IsNot, AreBlanks, IsSign, IsNumber, IsCoordinateAt, IsPower}

-- ---- terms
-- powers, each behind `*`
abbrev pub AreFactors : Space → List ℕ → List ℕ → List (ℕ × ℕ) → List ℕ → Type 0
AreFactors S names text [] rest = text ≡ rest
AreFactors S names text (p ∷ ps) rest = (front : List ℕ) × (behind : List ℕ) × IsSign 42 text front × IsPower S names front p behind ×
    AreFactors S names behind ps rest

-- a number up to 2^127 - 1, or a power
abbrev pub IsFirstFactor : Space → List ℕ → List ℕ → ℕ → List (ℕ × ℕ) → List ℕ → Type 0
IsFirstFactor S names text n ps rest =
    (IsNumber text n rest × (n < 2 ^ 127) × (ps ≡ []))
    ⊎ ((n ≡ 1) × ((p : ℕ × ℕ) × (ps ≡ p ∷ []) × IsPower S names text p rest))

-- a term, with a number n and a monomial m, whose exponents are not past the greatest
pub record IsTerm (S : Space) (names text : List ℕ) (n : ℕ) (m : Monomial) (rest : List ℕ) : Type 0 where
  pub first : List (ℕ × ℕ)
  pub behind : List ℕ
  pub further : List (ℕ × ℕ)
  pub begins : IsFirstFactor S names text n first behind
  pub goes_on : AreFactors S names behind further rest
  pub means : m ≡ product unit (first ++ further)
  pub small : HasSmallExponents m

-- ---- sums
abbrev pub sign_of : Bool → ℕ
sign_of true = 45
sign_of false = 43

-- a term with a sign
abbrev pub IsSigned : Space → List ℕ → Bool → List ℕ → Monomial × ℤ → List ℕ → Type 0
IsSigned S names negative text t rest = (n : ℕ) × IsTerm S names text n t.0 rest × (t.1 ≡ signed negative n)

-- terms, each behind a sign; with the other signs where they are turned
abbrev pub AreTerms : Space → List ℕ → Bool → List ℕ → List (Monomial × ℤ) → List ℕ → Type 0
AreTerms S names turned text [] rest = text ≡ rest
AreTerms S names turned text (t ∷ ts) rest =
    (negative : Bool) × (front : List ℕ) × (behind : List ℕ)
    × IsSign (sign_of negative) text front × IsSigned S names
    (turned_sign negative turned) front t behind × AreTerms S names turned behind ts rest

-- a sign, or no sign for plus
abbrev pub IsFirstSign : List ℕ → Bool → List ℕ → Type 0
IsFirstSign text negative rest =
    IsSign (sign_of negative) text rest ⊎ ((negative ≡ false) × (text ≡ rest) × IsNot 43 (after_blanks text) × IsNot 45 (after_blanks text))

-- a sum of terms; with the other signs where it is turned
pub record IsSum (S : Space) (names : List ℕ) (turned : Bool) (text : List ℕ) (terms : List (Monomial × ℤ)) (rest : List ℕ) : Type 0 where
  pub negative : Bool
  pub front : List ℕ
  pub first : Monomial × ℤ
  pub behind : List ℕ
  pub further : List (Monomial × ℤ)
  pub sign : IsFirstSign text negative front
  pub begins : IsSigned S names (turned_sign negative turned) front first behind
  pub goes_on : AreTerms S names turned behind further rest
  pub are : terms ≡ first ∷ further

-- ---- equations
-- before `=` stands one derivative alone
pub record IsLeadOf (S : Space) (names text : List ℕ) (c : Coordinate) : Type 0 where
  pub behind : List ℕ
  pub right : List ℕ
  pub alone : IsCoordinateAt S names text c behind
  pub derivative : 1 ≤ order_of c
  pub equals : IsSign 61 behind right

abbrev pub HasLead : Space → List ℕ → List ℕ → Option Coordinate → Type 0
HasLead S names text (Some c) = IsLeadOf S names text c
HasLead S names text None = (c : Coordinate) → IsLeadOf S names text c → ⊥

-- an equation: left side minus right side, where the absolute values of no like terms sum to more than 2^127 - 1
pub record IsEquation (S : Space) (names text : List ℕ) (e : EquationRead) : Type 0 where
  pub left : List (Monomial × ℤ)
  pub behind_left : List ℕ
  pub front : List ℕ
  pub right : List (Monomial × ℤ)
  pub behind : List ℕ
  pub left_is : IsSum S names false text left behind_left
  pub equals : IsSign 61 behind_left front
  pub right_is : IsSum S names true front right behind
  pub ends : AreBlanks behind
  pub small : (m : Monomial) → size_of m (left ++ right) < 2 ^ 127
  pub means : e.diff ≡ polynomial_of (left ++ right)
  pub lead : HasLead S names text e.lead
