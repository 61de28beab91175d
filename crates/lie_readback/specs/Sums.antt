-- Reading terms and sums.
use Rattle.std.specs.Prelude.{ℕ, ◌==◌, Bool, true, false, List, [], ◌∷◌, ◌++◌, map, Some, None, if◌then◌else◌}
use Rattle.std.specs.declared.option.Option.{Option}
use Rattle.std.specs.List.{slice_split}
use Rattle.lie_ring.specs.Ratios.{signed}
use Rattle.lie_print.specs.Printing.{PrintedTerm}
use Rattle.lie_print.specs.PrintedTerms.{printed}
use Rattle.lie_scan.specs.Runs.{is_in}
use Rattle.lie_scan.specs.Tokens.{value_of}
use Rattle.lie_scan.specs.declared.runs.Class.TheVariants.{Digit}
use Rattle.lie_readback.specs.Readings.{◌>>=◌}
use Rattle.lie_readback.specs.declared.sums.Sum as kept
use Rattle.lie_readback.specs.Factors.{read_product, read_last}

-- ---- terms
abbrev pub begins_with_digit : List ℕ → Bool
begins_with_digit [] = false
begins_with_digit (c ∷ cs) = is_in Digit c

-- the number before factors, 1 where none stands there, and the factors behind it
abbrev pub read_size : List (List ℕ) → Option (ℕ × List (List ℕ))
read_size [] = Some (1, [])
read_size (f ∷ fs) = if begins_with_digit f then (value_of f >>= λ n. Some (n, fs)) else Some (1, f ∷ fs)

-- the texts before the last one, and the last one
abbrev pub parted_by : List ℕ → List (List ℕ) → List (List ℕ) × List ℕ
parted_by f [] = ([], f)
parted_by f (g ∷ gs) = (f ∷ (parted_by g gs).0, (parted_by g gs).1)

abbrev pub parted : List (List ℕ) → Option (List (List ℕ) × List ℕ)
parted [] = None
parted (f ∷ fs) = Some (parted_by f fs)

-- the term of a number, powers and a last factor, with a sign
unfoldable pub read_factors : List ℕ → Bool → List (List ℕ) → Option PrintedTerm
read_factors names negative factors =
    read_size factors >>= λ s. parted s.1 >>= λ fs. read_product names fs.0 >>= λ m. read_last names fs.1 >>= λ last.
    Some (signed negative s.0, m, Some last)

-- the term that a text is, by its factors between stars
abbrev pub read_term : List ℕ → Bool → List ℕ → Option PrintedTerm
read_term names negative text = read_factors names negative (slice_split (λ b. b == 42) text)

-- ---- sums
-- the terms so far, and the sign of the one that comes next
pub record Sum : Type 0 where
  pub negative : Bool
  pub terms : List PrintedTerm

-- the terms so far and one more
abbrev pub with_term : List ℕ → List PrintedTerm → Bool → List ℕ → Option Sum
with_term names ts negative text =
    read_term names negative text >>= λ t. Some (record { negative = negative; terms = ts ++ t ∷ [] })

-- a word of a sum: a sign, a term, where the first one may have a sign before it, or what stands for nothing
abbrev pub read_word : List ℕ → Sum → List ℕ → Option Sum
read_word names s [] = None
read_word names s (c ∷ []) =
    if c == 43 then Some (record { negative = false; terms = s.terms })
    else if c == 45 then Some (record { negative = true; terms = s.terms })
    else if c == 48 then Some s
    else if c == 61 then Some s
    else None
read_word names s (c ∷ d ∷ cs) = if c == 45 then with_term names s.terms true (d ∷ cs) else with_term names s.terms s.negative (c ∷ d ∷ cs)

abbrev pub read_words : List ℕ → Sum → List (List ℕ) → Option Sum
read_words names s [] = Some s
read_words names s (w ∷ ws) = read_word names s w >>= λ t. read_words names t ws

-- the terms of a sum, by its words
abbrev pub sum_of_words : List ℕ → List (List ℕ) → Option (List PrintedTerm)
sum_of_words names words = read_words names (record { negative = false; terms = [] }) words >>= λ s. Some s.terms

unfoldable pub read_sum : List ℕ → List ℕ → Option (List PrintedTerm)
read_sum names text = sum_of_words names (slice_split (λ b. b == 32) text)

-- the sum that a value of the program is
abbrev pub sum_seen : kept.Sum → Sum
sum_seen s = record { negative = s.negative; terms = map printed s.terms.items }
