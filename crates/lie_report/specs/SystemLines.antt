-- The lines of the names, and those of a linear system.
use Rattle.std.specs.Prelude.{ℕ, ◌+◌, List, [], ◌∷◌, ◌++◌, map, take, drop, length, codes, decimal}
use Rattle.std.specs.List.{flat_map}
use Rattle.lie_math.specs.LinearForm.{LinearForm}
use Rattle.lie_math.specs.LinearSystem.{Unknown, LinearSystem}
use Rattle.lie_print.specs.Printing.{name_at, sum_text, PrintedTerm}
use Rattle.lie_report.specs.Reports.{Named}
use Rattle.lie_report.specs.Terms.{form_terms}

-- a line with its end
abbrev pub ended : List ℕ → List ℕ
ended l = l ++ codes "\n"

-- lines as a text
abbrev pub lines_text : List (List ℕ) → List ℕ
lines_text ls = flat_map ended ls

-- a line for each value: its number, from n on, and the value
abbrev pub numbered_lines : {X : Type 0} → (ℕ → X → List ℕ) → ℕ → List X → List (List ℕ)
numbered_lines line n [] = []
numbered_lines line n (x ∷ xs) = line n x ∷ numbered_lines line (n + 1) xs

-- ---- names
-- a keyword and names, with a blank before each name
abbrev pub names_words : List ℕ → List ℕ → List ℕ
names_words keyword names = keyword ++ flat_map (λ n. 32 ∷ n ∷ []) names

-- the first line, and the names
abbrev pub head_lines : List ℕ → Named → List (List ℕ)
head_lines first N =
    first ∷ names_words (codes "vars") (take (N.space).p N.names) ∷ names_words (codes "deps") (drop (N.space).p N.names) ∷ []

-- ---- unknowns
-- texts with commas between them
abbrev pub listed : List (List ℕ) → List ℕ
listed [] = []
listed (f ∷ fs) = f ++ flat_map (λ g. 44 ∷ g) fs

-- the i-th unknown and its variables
abbrev pub free_line : List ℕ → ℕ → Unknown → List ℕ
free_line names i f = codes "free f" ++ decimal i ++ codes "(" ++ listed (map (name_at names) f.variables) ++ codes ")"

-- ---- forms
abbrev pub terms_text : Named → List PrintedTerm → List ℕ
terms_text N ts = sum_text N.space N.names ts

-- the component of a field at the i-th variable
abbrev pub component_line : Named → List Unknown → ℕ → LinearForm → List ℕ
component_line N us i E = codes "general " ++ name_at N.names i ++ codes " = " ++ terms_text N (form_terms us E)

abbrev pub equation_line : Named → List Unknown → LinearForm → List ℕ
equation_line N us E = terms_text N (form_terms us E) ++ codes " = 0"

-- how many equations remain
abbrev pub remaining_line : ℕ → List ℕ
remaining_line n = codes "remaining " ++ decimal n

-- the unknowns, the general form and the equations that remain
abbrev pub system_lines : Named → LinearSystem → List (List ℕ)
system_lines N T =
    numbered_lines (free_line N.names) 1 T.unknowns ++ numbered_lines (component_line N T.unknowns) 0 T.general
    ++ remaining_line (length T.equations) ∷ map (equation_line N T.unknowns) T.equations
