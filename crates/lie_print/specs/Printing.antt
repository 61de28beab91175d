-- Variables, terms and sums as text.
use Rattle.std.specs.Prelude.{
  ℕ,
  zero,
  suc,
  ◌+◌,
  ◌==◌,
  ltb,
  cond,
  Bool,
  true,
  false,
  not,
  ℤ,
  unsigned_abs,
  Option,
  Some,
  None,
  List,
  [],
  ◌∷◌,
  ◌++◌,
  map,
  take,
  drop,
  codes,
  decimal,
  if◌then◌else◌,
  nat_lt,
}
use Rattle.std.specs.Int.{is_negative}
use Rattle.std.specs.List.{list_any, flat_map}
use Rattle.lie_math.specs.Counts.{Derivative}
use Rattle.lie_math.specs.Monomial.{Monomial}
use Rattle.lie_geometry.specs.Coordinates.{Space, Coordinate, independent, jet, coordinate, coordinates_up_to}
use Rattle.lie_jet.specs.Limits.{greatest_jet_order}

-- ---- names
-- the i-th name, which is one letter; nothing where there is none
abbrev pub name_at : List ℕ → ℕ → List ℕ
name_at names i = take 1 (drop i names)

-- the text n times
unfoldable pub repeated : ℕ → List ℕ → List ℕ
repeated zero piece = []
repeated (suc n) piece = piece ++ repeated n piece

-- the name of each variable from the i-th on, as often as its count
unfoldable pub letters_from : List ℕ → ℕ → List ℕ → List ℕ
letters_from names i [] = []
letters_from names i (count ∷ counts) = repeated count (name_at names i) ++ letters_from names (i + 1) counts

-- what stands behind a name that is derived: `_` and the letters of the variables by which it is; nothing for the order 0
abbrev pub subscript : List ℕ → List ℕ → List ℕ
subscript names counts = if list_any (λ c. nat_lt 0 c) counts then 95 ∷ letters_from names 0 counts else []

-- a line of a keyword and names, with a blank before each name
abbrev pub names_line : List ℕ → List ℕ → List ℕ
names_line keyword names = keyword ++ flat_map (λ n. 32 ∷ n ∷ []) names ++ codes "\n"

-- a variable, or a derivative of a dependent one
abbrev pub coordinate_text : Space → List ℕ → Coordinate → List ℕ
coordinate_text S names (independent i) = name_at names i
coordinate_text S names (jet a J) = name_at names (S.p + a) ++ subscript names J

-- the coordinate with a number; nothing past those of order 12, which is twice the order of a file
unfoldable pub variable_text : Space → List ℕ → ℕ → List ℕ
variable_text S names w = cond (ltb w (coordinates_up_to S greatest_jet_order)) (coordinate_text S names (coordinate S w)) []

-- a derivative of an unknown: `f`, its number and its letters
abbrev pub derivative_text : List ℕ → Derivative → List ℕ
derivative_text names d = 102 ∷ decimal d.unknown ++ subscript names d.counts

-- ---- terms
-- a power of a variable: `^` and the exponent stand where that is not 1
abbrev pub power_text : Space → List ℕ → ℕ × ℕ → List ℕ
power_text S names p = variable_text S names p.0 ++ (if p.1 == 1 then [] else 94 ∷ decimal p.1)

-- the number as a factor; 1 is left out before others
abbrev pub number_factor : ℕ → List (List ℕ) → List (List ℕ)
number_factor size [] = decimal size ∷ []
number_factor size (f ∷ fs) = if size == 1 then [] else decimal size ∷ []

-- what stands behind the powers of a term: a derivative of an unknown, or the base vector at a variable
pub data LastFactor : Type 0 where
  of_unknown : Derivative → LastFactor
  base_vector : ℕ → LastFactor

abbrev pub last_text : List ℕ → LastFactor → List ℕ
last_text names (of_unknown d) = derivative_text names d
last_text names (base_vector i) = codes "d_" ++ name_at names i

-- the last factor, where there is one
abbrev pub last_factor : List ℕ → Option LastFactor → List (List ℕ)
last_factor names None = []
last_factor names (Some f) = last_text names f ∷ []

-- a term of a sum: a number, a monomial, and a last factor or none
abbrev pub PrintedTerm : Type 0
PrintedTerm = ℤ × Monomial × Option LastFactor

abbrev pub factors : Space → List ℕ → PrintedTerm → List (List ℕ)
factors S names t = map (power_text S names) t.1.list ++ last_factor names t.2

-- factors behind others, or as the first ones: a star stands before each further one
abbrev pub star : Bool → List ℕ
star true = 42 ∷ []
star false = []

abbrev pub behind : Bool → List (List ℕ) → List ℕ
behind further [] = []
behind further (f ∷ fs) = star further ++ f ++ flat_map (λ g. 42 ∷ g) fs

-- a term without its sign: its factors with stars between them
abbrev pub term_text : Space → List ℕ → PrintedTerm → List ℕ
term_text S names t = behind false (number_factor (unsigned_abs t.0) (factors S names t) ++ factors S names t)

-- whether the number of a term is shown, by its size, its powers and its last factor
abbrev pub is_shown : ℕ → List (ℕ × ℕ) → Option LastFactor → Bool
is_shown size [] None = true
is_shown size [] (Some f) = not (size == 1)
is_shown size (p ∷ ps) f = not (size == 1)

-- whether a factor stands before what comes behind powers
abbrev pub is_further : Bool → List (ℕ × ℕ) → Bool
is_further shown [] = shown
is_further shown (p ∷ ps) = true

-- ---- sums
-- the sign before a term, which is the first or a further one
abbrev pub sign_text : Bool → Bool → List ℕ
sign_text false false = []
sign_text false true = codes "-"
sign_text true false = codes " + "
sign_text true true = codes " - "

-- a term with its sign
abbrev pub signed_text : Space → List ℕ → Bool → PrintedTerm → List ℕ
signed_text S names further t = sign_text further (is_negative t.0) ++ term_text S names t

-- a sum of terms; that of none is 0
abbrev pub sum_text : Space → List ℕ → List PrintedTerm → List ℕ
sum_text S names [] = codes "0"
sum_text S names (t ∷ ts) = signed_text S names false t ++ flat_map (signed_text S names true) ts
