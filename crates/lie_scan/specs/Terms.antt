-- Reading terms, sums and equations.
use Rattle.std.specs.Prelude.{
  ℕ,
  ◌+◌,
  ◌^◌,
  Bool,
  true,
  false,
  ◌==◌,
  nat_lt,
  List,
  [],
  ◌∷◌,
  ◌++◌,
  length,
  ℤ,
  if◌then◌else◌,
  Some,
  None,
  Ok,
  Err,
}
use Rattle.std.specs.declared.option.Option.{Option}
use Rattle.std.specs.declared.result.Result.{Result}
use Rattle.lie_math.specs.Monomial.{Monomial, unit, exponent, power_of, ◌·◌}
use Rattle.lie_geometry.specs.Coordinates.{Space}
use Rattle.lie_scan.specs.declared.fault.BadKind.TheVariants.{Syntax, Number, Exponent}
use Rattle.lie_scan.specs.declared.runs.Class.TheVariants.{Digit}
use Rattle.lie_scan.specs.declared.stop.Stop.{Stop}
use Rattle.lie_scan.specs.Runs.{after_blanks, is_in}
use Rattle.lie_scan.specs.Stops.{stop, ◌>>=◌}
use Rattle.lie_scan.specs.Tokens.{literal_at, power_at}
use Rattle.lie_scan.specs.Turns.{Turn, goes_on, ends, all_turns}
use Rattle.lie_ring.specs.Ratios.{signed}
use Rattle.lie_scan.specs.Meaning.{size_of, turned_sign}
use Rattle.lie_system.specs.Limits.{greatest_written_exponent}

-- ---- terms
-- the product of a monomial and a power, whose exponents are not past the greatest
abbrev pub raised : Monomial → ℕ × ℕ → List ℕ → Result Monomial Stop
raised m p text =
    if nat_lt greatest_written_exponent (exponent (m · power_of p.0 p.1) p.0) then Err (stop Exponent text) else Ok (m · power_of p.0 p.1)

-- the product of a monomial and of the power in front, and what is behind
unfoldable pub factor_at : Space → List ℕ → Monomial → List ℕ → Result (Monomial × List ℕ) Stop
factor_at S names m text = power_at S names (after_blanks text) >>= λ x. raised m x.0 (after_blanks text) >>= λ k. Ok (k, x.1)

-- a further factor, or the end of the term
abbrev pub factor_by : Space → List ℕ → Monomial → List ℕ → Result (Turn Monomial (Monomial × List ℕ)) Stop
factor_by S names m [] = Ok (ends (m, []))
factor_by S names m (c ∷ cs) = if c == 42 then (factor_at S names m cs >>= λ x. Ok (goes_on x.0 x.1)) else Ok (ends (m, c ∷ cs))

abbrev pub factor_turn : Space → List ℕ → Monomial → List ℕ → Result (Turn Monomial (Monomial × List ℕ)) Stop
factor_turn S names m text = factor_by S names m (after_blanks text)

-- the product of a monomial and of the further factors, and what is behind
abbrev pub factors_at : Space → List ℕ → Monomial → List ℕ → Result (Monomial × List ℕ) Stop
factors_at S names m text = all_turns (factor_turn S names) m text

-- a term: its number and its monomial
abbrev pub first_by : Space → List ℕ → List ℕ → Result (ℕ × Monomial × List ℕ) Stop
first_by S names [] = factor_at S names unit [] >>= λ x. Ok (1, x.0, x.1)
first_by S names (c ∷ cs) =
    if is_in Digit c then (literal_at (c ∷ cs) >>= λ n. Ok (n.0, unit, n.1))
    else factor_at S names unit (c ∷ cs) >>= λ x. Ok (1, x.0, x.1)

unfoldable pub first_at : Space → List ℕ → List ℕ → Result (ℕ × Monomial × List ℕ) Stop
first_at S names text = first_by S names text

unfoldable pub term_at : Space → List ℕ → List ℕ → Result (ℕ × Monomial × List ℕ) Stop
term_at S names text = first_at S names text >>= λ t. factors_at S names t.1 t.2 >>= λ x. Ok (t.0, x.0, x.1)

-- ---- sums
-- the terms and one more, where the absolute values of its like terms sum to at most 2^127 - 1
abbrev pub with_term : Bool → ℕ → Monomial → List (Monomial × ℤ) → Option (List (Monomial × ℤ))
with_term negative n m ts = if nat_lt (size_of m ts + n) (2 ^ 127) then Some (ts ++ (m, signed negative n) ∷ []) else None

abbrev pub put_by : Option (List (Monomial × ℤ)) → List ℕ → List ℕ → Result (List (Monomial × ℤ) × List ℕ) Stop
put_by None text rest = Err (stop Number text)
put_by (Some ts) text rest = Ok (ts, rest)

-- the terms and the one in front, and what is behind
unfoldable pub signed_term_at : Space → List ℕ → Bool → List (Monomial × ℤ) → List ℕ → Result (List (Monomial × ℤ) × List ℕ) Stop
signed_term_at S names negative ts text =
    term_at S names (after_blanks text) >>= λ t. put_by (with_term negative t.0 t.1 ts) (after_blanks text) t.2

-- a further term, or the end of the sum
abbrev pub term_by : Space → List ℕ → Bool → List (Monomial × ℤ) → List ℕ
    → Result (Turn (List (Monomial × ℤ)) (List (Monomial × ℤ) × List ℕ)) Stop
term_by S names turned ts [] = Ok (ends (ts, []))
term_by S names turned ts (c ∷ cs) =
    if c == 43 then (signed_term_at S names turned ts cs >>= λ x. Ok (goes_on x.0 x.1))
    else if c == 45 then (signed_term_at S names (if turned then false else true) ts cs >>= λ x. Ok (goes_on x.0 x.1))
    else Ok (ends (ts, c ∷ cs))

-- whether a sum begins with a minus, and what is behind its sign
abbrev pub first_sign_of : List ℕ → Bool × List ℕ
first_sign_of [] = (false, [])
first_sign_of (c ∷ cs) = if c == 45 then (true, cs) else if c == 43 then (false, cs) else (false, c ∷ cs)

-- the terms and those of the sum in front, and what is behind
unfoldable pub sum_at : Space → List ℕ → Bool → List (Monomial × ℤ) → List ℕ → Result (List (Monomial × ℤ) × List ℕ) Stop
sum_at S names turned ts text =
    signed_term_at S names (turned_sign (first_sign_of (after_blanks text)).0 turned) ts (first_sign_of (after_blanks text)).1
    >>= λ x. all_turns (term_by S names turned) x.0 x.1

-- nothing is behind an equation
abbrev pub equation_end : List (Monomial × ℤ) × List ℕ → Result (List (Monomial × ℤ)) Stop
equation_end x = if length x.1 == 0 then Ok x.0 else Err (stop Syntax x.1)

abbrev pub right_by : Space → List ℕ → List (Monomial × ℤ) → List ℕ → Result (List (Monomial × ℤ)) Stop
right_by S names ts [] = Err (stop Syntax [])
right_by S names ts (c ∷ cs) = if c == 61 then (sum_at S names true ts cs >>= equation_end) else Err (stop Syntax (c ∷ cs))

-- the terms of an equation: those of the left side, and those of the right side with the other sign
unfoldable pub equation_of : Space → List ℕ → List ℕ → Result (List (Monomial × ℤ)) Stop
equation_of S names text = sum_at S names false [] text >>= λ x. right_by S names x.0 x.1
