-- What the readers of one turn answer.
use Rattle.std.specs.Prelude.{ℕ, ℤ, List, Some, None}
use Rattle.std.specs.declared.option.Option.{Option}
use Rattle.std.specs.Borrow.{Bor}
use Rattle.lie_math.specs.Monomial.{Monomial}
use Rattle.lie_scan.specs.Runs.{after_blanks}
use Rattle.lie_scan.specs.Turns.{Turn, goes_on, ends}

-- a further factor, or the end of the term
abbrev pub turn_of : Monomial → List ℕ → Option (Monomial × Bor (List ℕ)) → Turn Monomial (Monomial × List ℕ)
turn_of m text (Some x) = goes_on x.0 x.1.now
turn_of m text None = ends (m, after_blanks text)

-- a further term, or the end of the sum
abbrev pub term_turn_of : List ℕ → List (Monomial × ℤ) → Option (Bor (List ℕ)) → Turn (List (Monomial × ℤ)) (List (Monomial × ℤ) × List ℕ)
term_turn_of text ts (Some rest) = goes_on ts rest.now
term_turn_of text ts None = ends (ts, text)
