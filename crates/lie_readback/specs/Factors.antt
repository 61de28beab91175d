-- Reading the factors of terms. Reading is lenient, since what is read is printed again and compared.
use Rattle.std.specs.Prelude.{ℕ, ◌^◌, ◌==◌, nat_lt, min, Bool, true, false, List, [], ◌∷◌, map, Some, None, if◌then◌else◌}
use Rattle.std.specs.declared.option.Option.{Option}
use Rattle.std.specs.List.{count_by}
use Rattle.lie_math.specs.Counts.{trimmed}
use Rattle.lie_math.specs.Monomial.{Monomial, powers, monomial_of}
use Rattle.lie_math.specs.SortedSum.{is_canonical}
use Rattle.lie_print.specs.Printing.{LastFactor, of_unknown, base_vector}
use Rattle.lie_scan.specs.Names.{place_of}
use Rattle.lie_scan.specs.Runs.{run, behind}
use Rattle.lie_scan.specs.Tokens.{value_of}
use Rattle.lie_scan.specs.declared.runs.Class.TheVariants.{Digit}
use Rattle.lie_readback.specs.Readings.{◌>>=◌, read_each}

-- ---- powers
-- a number that is kept in 32 bits
abbrev pub guarded : ℕ → Option ℕ
guarded n = if nat_lt n (2 ^ 32) then Some n else None

abbrev pub read_small : List ℕ → Option ℕ
read_small digits = value_of digits >>= guarded

-- what stands behind the name of a variable: nothing, or `^` and the exponent
abbrev pub read_exponent : List ℕ → Option ℕ
read_exponent [] = Some 1
read_exponent (c ∷ digits) = if c == 94 then read_small digits else None

-- a power: the place of the variable's name, and the exponent
abbrev pub read_power : List ℕ → List ℕ → Option (ℕ × ℕ)
read_power names [] = None
read_power names (c ∷ cs) = place_of names c >>= λ i. read_exponent cs >>= λ e. Some (i, e)

-- the monomial with these powers, where there is one
abbrev pub read_monomial : List (ℕ × ℕ) → Option Monomial
read_monomial ps = if is_canonical powers.order powers.values ps then Some (monomial_of ps) else None

-- the product of powers
unfoldable pub read_product : List ℕ → List (List ℕ) → Option Monomial
read_product names factors = read_each (read_power names) [] factors >>= read_monomial

-- ---- last factors
-- how often each name stands in a text, up to the greatest count that is kept
abbrev pub count_in : List ℕ → ℕ → ℕ
count_in letters n = min (count_by (λ b. b == n) letters) 255

abbrev pub counts_in : List ℕ → List ℕ → List ℕ
counts_in names letters = map (count_in letters) names

-- a derivative of the unknown with a number, by the letters behind it
abbrev pub read_derivative : List ℕ → List ℕ → List ℕ → Option LastFactor
read_derivative names digits letters = read_small digits >>= λ n.
    Some (of_unknown (record { unknown = n; counts = trimmed (counts_in names letters) }))

-- a base vector, by the byte and the name behind its letter
abbrev pub read_base_vector : List ℕ → List ℕ → Option LastFactor
read_base_vector names [] = None
read_base_vector names (b ∷ []) = None
read_base_vector names (b ∷ c ∷ []) = place_of names c >>= λ i. Some (base_vector i)
read_base_vector names (b ∷ c ∷ d ∷ cs) = None

abbrev pub read_last : List ℕ → List ℕ → Option LastFactor
read_last names [] = None
read_last names (c ∷ cs) =
    if c == 102 then read_derivative names (run Digit cs) (behind Digit cs)
    else if c == 100 then read_base_vector names cs
    else None
