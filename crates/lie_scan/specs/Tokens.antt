-- Reading numbers, coordinates and powers.
use Rattle.std.specs.Prelude.{
  ℕ,
  ◌+◌,
  ◌-◌,
  ◌*◌,
  ◌^◌,
  Bool,
  true,
  false,
  ◌&&◌,
  ◌==◌,
  nat_le,
  nat_lt,
  List,
  [],
  ◌∷◌,
  length,
  take,
  drop,
  if◌then◌else◌,
  Some,
  None,
  Ok,
  Err,
}
use Rattle.std.specs.declared.option.Option.{Option}
use Rattle.std.specs.declared.result.Result.{Result}
use Rattle.lie_geometry.specs.Coordinates.{Space, Coordinate, jet, number}
use Rattle.lie_scan.specs.declared.fault.BadKind.TheVariants.{Syntax, Number, UnknownName, Order, Exponent}
use Rattle.lie_scan.specs.declared.runs.Class.TheVariants.{Letter, Digit}
use Rattle.lie_scan.specs.declared.stop.Stop.{Stop}
use Rattle.lie_scan.specs.Runs.{run, behind, after_blanks, is_in}
use Rattle.lie_scan.specs.Stops.{stop, ◌>>=◌}
use Rattle.lie_scan.specs.Names.{place_of, letter_counts, variable_at}
use Rattle.lie_system.specs.Limits.{greatest_written_exponent}
use Rattle.lie_jet.specs.Limits.{greatest_written_order}

-- ---- numbers
-- a number with one more digit, up to 2^127 - 1
abbrev pub appended : ℕ → ℕ → Option ℕ
appended n c = if is_in Digit c && nat_lt (n * 10 + (c - 48)) (2 ^ 127) then Some (n * 10 + (c - 48)) else None

-- the number that the digits spell when they follow those of n
abbrev pub number_by : Option ℕ → (ℕ → Option ℕ) → Option ℕ
number_by None f = None
number_by (Some n) f = f n

abbrev pub number_from : ℕ → List ℕ → Option ℕ
number_from n [] = Some n
number_from n (c ∷ cs) = number_by (appended n c) (λ m. number_from m cs)

-- the number that the digits spell, up to 2^127 - 1
abbrev pub value_of : List ℕ → Option ℕ
value_of digits = number_from 0 digits

-- the digits in front, and what is behind
unfoldable pub digits_at : List ℕ → Result (List ℕ × List ℕ) Stop
digits_at text =
    if length (run Digit (after_blanks text)) == 0 then Err (stop Syntax (after_blanks text))
    else Ok (run Digit (after_blanks text), behind Digit (after_blanks text))

abbrev pub literal_by : Option ℕ → List ℕ → List ℕ → Result (ℕ × List ℕ) Stop
literal_by (Some n) text rest = Ok (n, rest)
literal_by None text rest = Err (stop Number text)

-- the number in front, and what is behind
unfoldable pub literal_at : List ℕ → Result (ℕ × List ℕ) Stop
literal_at text = digits_at text >>= λ d. literal_by (value_of d.0) (after_blanks text) d.1

-- ---- coordinates
-- the place among names of a word that is one of them
abbrev pub place_of_word : List ℕ → List ℕ → Option ℕ
place_of_word names [] = None
place_of_word names (c ∷ []) = place_of names c
place_of_word names (c ∷ d ∷ cs) = None

-- each letter is a name
abbrev pub is_name : Option ℕ → Bool → Bool
is_name None rest = false
is_name (Some i) rest = rest

abbrev pub are_names : List ℕ → List ℕ → Bool
are_names names [] = true
are_names names (c ∷ cs) = is_name (place_of names c) (are_names names cs)

-- the derivative that a word and the letters behind `_` name
abbrev pub derivative_by : Space → Option ℕ → List ℕ → List ℕ → List ℕ → Result Coordinate Stop
derivative_by S None names by text = Err (stop UnknownName text)
derivative_by S (Some a) names by text =
    if are_names names by then
    (if nat_lt greatest_written_order (length by) then Err (stop Order text) else Ok (jet a (take S.p (letter_counts names by))))
    else Err (stop UnknownName text)

unfoldable pub derivative : Space → List ℕ → List ℕ → List ℕ → List ℕ → Result Coordinate Stop
derivative S names word by text = derivative_by S (place_of_word (drop S.p names) word) (take S.p names) by text

-- the variable that a word names
abbrev pub plain_by : Space → Option ℕ → List ℕ → Result Coordinate Stop
plain_by S None text = Err (stop UnknownName text)
plain_by S (Some i) text = Ok (variable_at S i)

unfoldable pub plain : Space → List ℕ → List ℕ → List ℕ → Result Coordinate Stop
plain S names word text = plain_by S (place_of_word names word) text

-- what stands behind a word of letters: `_` and letters, or anything else
abbrev pub coordinate_by : Space → List ℕ → List ℕ → List ℕ → List ℕ → Result (Coordinate × List ℕ) Stop
coordinate_by S names text word [] = plain S names word text >>= λ v. Ok (v, [])
coordinate_by S names text word (c ∷ cs) =
    if c == 95 then
    (if length (run Letter cs) == 0 then Err (stop Syntax cs)
    else derivative S names word (run Letter cs) text >>= λ v. Ok (v, behind Letter cs))
    else plain S names word text >>= λ v. Ok (v, c ∷ cs)

-- the coordinate in front, and what is behind
unfoldable pub coordinate_at : Space → List ℕ → List ℕ → Result (Coordinate × List ℕ) Stop
coordinate_at S names text =
    if length (run Letter text) == 0 then Err (stop Syntax text)
    else coordinate_by S names text (run Letter text) (behind Letter text)

-- ---- powers
abbrev pub exponent_value : Option ℕ → List ℕ → List ℕ → Result (ℕ × List ℕ) Stop
exponent_value None text rest = Err (stop Exponent text)
exponent_value (Some n) text rest = if nat_le 1 n && nat_le n greatest_written_exponent then Ok (n, rest) else Err (stop Exponent text)

abbrev pub exponent_by : List ℕ → List ℕ → List ℕ → Result (ℕ × List ℕ) Stop
exponent_by text rest [] = Ok (1, rest)
exponent_by text rest (c ∷ cs) =
    if c == 94 then (digits_at cs >>= λ d. exponent_value (value_of d.0) text d.1)
    else Ok (1, rest)

-- the exponent behind the coordinate at the front of a text, and what is behind
unfoldable pub exponent_at : List ℕ → List ℕ → Result (ℕ × List ℕ) Stop
exponent_at text rest = exponent_by text rest (after_blanks rest)

-- the power in front, by the number of its coordinate, and what is behind
unfoldable pub power_at : Space → List ℕ → List ℕ → Result ((ℕ × ℕ) × List ℕ) Stop
power_at S names text =
    coordinate_at S names text >>= λ v. exponent_at text v.1 >>= λ e. Ok ((number S v.0, e.0), e.1)
