-- The lines of generators and of their commutators.
use Rattle.std.specs.Prelude.{ℕ, ◌+◌, ◌==◌, ltb, Bool, true, false, unsigned_abs, if◌then◌else◌}
use Rattle.std.specs.Prelude.{List, [], ◌∷◌, ◌++◌, length, codes, decimal, Option, Some, None}
use Rattle.std.specs.Int.{is_negative}
use Rattle.lie_math.specs.VectorField.{VectorField}
use Rattle.lie_ring.specs.declared.ratio.Ratio.{Ratio}
use Rattle.lie_print.specs.Printing.{sign_text}
use Rattle.lie_report.specs.Reports.{Named, Found}
use Rattle.lie_report.specs.Terms.{field_terms}
use Rattle.lie_report.specs.SystemLines.{numbered_lines, terms_text}

-- ---- generators
-- a generator by its number
abbrev pub generator : ℕ → List ℕ
generator i = codes "v" ++ decimal i

abbrev pub generator_line : Named → ℕ → VectorField → List ℕ
generator_line N i V = generator i ++ codes " = " ++ terms_text N (field_terms 0 V.parts)

-- how many generators there are
abbrev pub generators_line : ℕ → List ℕ
generators_line n = codes "generators " ++ decimal n

abbrev pub generator_lines : Named → List VectorField → List (List ℕ)
generator_lines N Vs = generators_line (length Vs) ∷ numbered_lines (generator_line N) 1 Vs

-- ---- combinations
-- a ratio as a factor; 1 is left out
abbrev pub ratio_factor : ℕ → ℕ → List ℕ
ratio_factor size over =
    if over == 1 then (if size == 1 then [] else decimal size ++ codes "*") else decimal size ++ codes "/" ++ decimal over ++ codes "*"

-- a multiple of the i-th generator, as the first term or a further one
abbrev pub multiple : Bool → ℕ → Ratio → List ℕ
multiple further i r = sign_text further (is_negative r.num) ++ ratio_factor (unsigned_abs r.num) r.den ++ generator i

-- the sum of none is 0
abbrev pub unless_further : Bool → List ℕ
unless_further true = []
unless_further false = codes "0"

-- the multiples of the generators from the i-th on, the first or further ones; those by 0 are left out
abbrev pub multiples_from : Bool → ℕ → List Ratio → List ℕ
multiples_from further i [] = unless_further further
multiples_from further i (r ∷ rs) =
    if unsigned_abs r.num == 0 then multiples_from further (i + 1) rs else multiple further i r ++ multiples_from true (i + 1) rs

-- ---- commutators
-- the pair behind another, of n generators
abbrev pub next_pair : ℕ → ℕ × ℕ → ℕ × ℕ
next_pair n p = if ltb p.1 n then (p.0, p.1 + 1) else (p.0 + 1, p.0 + 2)

abbrev pub commutator_line : ℕ × ℕ → List Ratio → List ℕ
commutator_line p rs = codes "[" ++ generator p.0 ++ codes "," ++ generator p.1 ++ codes "] = " ++ multiples_from false 1 rs

-- the commutators of the pairs of n generators from one on
abbrev pub commutator_lines_from : ℕ → ℕ × ℕ → List (List Ratio) → List (List ℕ)
commutator_lines_from n p [] = []
commutator_lines_from n p (rs ∷ table) = commutator_line p rs ∷ commutator_lines_from n (next_pair n p) table

-- how many commutators there are
abbrev pub commutators_line : ℕ → List ℕ
commutators_line n = codes "commutators " ++ decimal n

abbrev pub commutator_lines : ℕ → List (List Ratio) → List (List ℕ)
commutator_lines n table = commutators_line (length table) ∷ commutator_lines_from n (1, 2) table

-- a basis and its commutators, or that there is none
abbrev pub basis_lines : Named → Option Found → List (List ℕ)
basis_lines N None = codes "generators -" ∷ codes "commutators -" ∷ []
basis_lines N (Some B) = generator_lines N B.fields ++ commutator_lines (length B.fields) B.table
