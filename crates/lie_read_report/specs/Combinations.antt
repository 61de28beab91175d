-- Reading combinations of generators. Reading is lenient, since what is read is printed again and compared.
use Rattle.std.specs.Prelude.{ℕ, ◌-◌, ◌==◌, nat_lt, Bool, true, false, ℤ, pos, Some, None, if◌then◌else◌}
use Rattle.std.specs.Prelude.{List, [], ◌∷◌, length, replicate, slice_set}
use Rattle.std.specs.declared.option.Option.{Option}
use Rattle.std.specs.List.{slice_split}
use Rattle.lie_ring.specs.Ratios.{signed}
use Rattle.lie_ring.specs.declared.ratio.Ratio.{Ratio}
use Rattle.lie_scan.specs.Tokens.{value_of}
use Rattle.lie_readback.specs.Readings.{◌>>=◌}
use Rattle.lie_read_report.specs.declared.combinations.Combination as kept

-- ---- multiples
-- the ratio that is a number, or two with a slash between them
abbrev pub ratio_in : Bool → List (List ℕ) → Option Ratio
ratio_in negative [] = None
ratio_in negative (n ∷ []) = value_of n >>= λ size. Some (record { num = signed negative size; den = 1 })
ratio_in negative (n ∷ d ∷ []) =
    value_of n >>= λ size. value_of d >>= λ over. Some (record { num = signed negative size; den = over })
ratio_in negative (n ∷ d ∷ e ∷ es) = None

abbrev pub read_ratio : Bool → List ℕ → Option Ratio
read_ratio negative text = ratio_in negative (slice_split (λ b. b == 47) text)

-- the number of a generator, behind its letter
abbrev pub read_generator : List ℕ → Option ℕ
read_generator [] = None
read_generator (v ∷ digits) = value_of digits

-- a multiple of a generator by its factors: the generator alone, or behind a ratio
abbrev pub multiple_in : Bool → List (List ℕ) → Option (ℕ × Ratio)
multiple_in negative [] = None
multiple_in negative (g ∷ []) = read_generator g >>= λ i. Some (i, record { num = signed negative 1; den = 1 })
multiple_in negative (r ∷ g ∷ []) = read_ratio negative r >>= λ q. read_generator g >>= λ i. Some (i, q)
multiple_in negative (r ∷ g ∷ h ∷ hs) = None

abbrev pub read_multiple : Bool → List ℕ → Option (ℕ × Ratio)
read_multiple negative text = multiple_in negative (slice_split (λ b. b == 42) text)

-- ---- combinations
-- the ratios so far, one for each generator, and the sign of the multiple that comes next
pub record Combination : Type 0 where
  pub negative : Bool
  pub ratios : List Ratio

-- puts the ratio of a multiple at the place of its generator
abbrev pub with_ratio : List Ratio → ℕ × Ratio → Option (List Ratio)
with_ratio rs m = if nat_lt (m.0 - 1) (length rs) then Some (slice_set rs (m.0 - 1) m.1) else None

abbrev pub with_multiple : List Ratio → Bool → List ℕ → Option Combination
with_multiple rs negative text =
    read_multiple negative text >>= λ m. with_ratio rs m >>= λ more. Some (record { negative = negative; ratios = more })

-- a word of a combination: a sign, 0, or a multiple, where the first one may have a sign before it
abbrev pub read_word : Combination → List ℕ → Option Combination
read_word s [] = None
read_word s (c ∷ []) =
    if c == 43 then Some (record { negative = false; ratios = s.ratios })
    else if c == 45 then Some (record { negative = true; ratios = s.ratios })
    else if c == 48 then Some s
    else None
read_word s (c ∷ d ∷ cs) = if c == 45 then with_multiple s.ratios true (d ∷ cs) else with_multiple s.ratios s.negative (c ∷ d ∷ cs)

abbrev pub read_words : Combination → List (List ℕ) → Option Combination
read_words s [] = Some s
read_words s (w ∷ ws) = read_word s w >>= λ t. read_words t ws

-- 0
abbrev pub no_ratio : Ratio
no_ratio = record { num = pos 0; den = 1 }

-- a combination of n generators, by its words
abbrev pub combination_in : ℕ → List (List ℕ) → Option (List Ratio)
combination_in n words = read_words (record { negative = false; ratios = replicate n no_ratio }) words >>= λ s. Some s.ratios

-- the combination behind a pair of generators and `=`
abbrev pub entry_in : ℕ → List (List ℕ) → Option (List Ratio)
entry_in n [] = None
entry_in n (p ∷ []) = None
entry_in n (p ∷ e ∷ words) = combination_in n words

abbrev pub read_entry : ℕ → List ℕ → Option (List Ratio)
read_entry n line = entry_in n (slice_split (λ b. b == 32) line)

-- the combination that a value of the program is
abbrev pub combination_seen : kept.Combination → Combination
combination_seen s = record { negative = s.negative; ratios = s.ratios.items }
