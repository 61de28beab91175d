-- The grammar of lines and files.
use Rattle.std.specs.Prelude.{ℕ, ◌≡◌, ◌≤◌, Bool, true, false, ◌&&◌, ◌||◌, ◌==◌, nat_le, List, [], ◌∷◌, ◌++◌, length, if◌then◌else◌, codes}
use Rattle.std.specs.List.{list_any, slice_split}
use Rattle.lie_geometry.specs.Coordinates.{Space}
use Rattle.lie_scan.specs.declared.runs.Class.TheVariants.{Blank, Letter, Content}
use Rattle.lie_scan.specs.Runs.{is_in, run, after_blanks}
use Rattle.lie_system.specs.Systems.{EquationRead, SystemRead}
use Rattle.lie_scan.specs.TokenGrammar.{AreBlanks, IsBehindBlanks}
use Rattle.lie_scan.specs.SumGrammar.{IsEquation}
use Rattle.lie_jet.specs.Limits.{greatest_variable_count}
use Rattle.lie_system.specs.Limits.{greatest_equation_count}

-- ---- words
-- a blank is next, or nothing
abbrev pub EndsWord : List ℕ → Type 0
EndsWord [] = Unit {0}
EndsWord (b ∷ bs) = is_in Blank b ≡ true

pub record IsWord (word text rest : List ℕ) : Type 0 where
  pub front : IsBehindBlanks text (word ++ rest)
  pub ends : EndsWord rest

-- ---- lines, by their content
-- the two words `lie` and `1`
pub record IsHeader (content : List ℕ) : Type 0 where
  pub behind_name : List ℕ
  pub behind : List ℕ
  pub name : IsWord (codes "lie") content behind_name
  pub version : IsWord (codes "1") behind_name behind
  pub ends : AreBlanks behind

-- letters as words, each other than those before it, and then the rest
abbrev pub AreNames : List ℕ → List ℕ → List ℕ → List ℕ → Type 0
AreNames before text [] rest = text ≡ rest
AreNames before text (n ∷ ns) rest =
    (behind : List ℕ) × IsWord (n ∷ []) text behind × (is_in Letter n ≡ true) × (list_any (λ m. m == n) before ≡ false) × AreNames
    (before ++ n ∷ []) behind ns rest

-- a keyword and names, at least one and not too many
pub record IsNamesLine (keyword before content names : List ℕ) : Type 0 where
  pub behind : List ℕ
  pub rest : List ℕ
  pub word : IsWord keyword content behind
  pub are : AreNames before behind names rest
  pub ends : AreBlanks rest
  pub some : 1 ≤ length names
  pub few : length names ≤ greatest_variable_count

abbrev pub IsEquationLine : Space → List ℕ → List ℕ → EquationRead → Type 0
IsEquationLine S names content e = (behind : List ℕ) × IsWord (codes "eq") content behind × IsEquation S names behind e

abbrev pub IsEndLine : List ℕ → Type 0
IsEndLine content = (behind : List ℕ) × IsWord (codes "end") content behind × AreBlanks behind

-- lines of equations, and the line of the end
abbrev pub AreEquations : Space → List ℕ → List (List ℕ) → List EquationRead → Type 0
AreEquations S names [] es = ⊥
AreEquations S names (l ∷ ls) [] = IsEndLine l × (ls ≡ [])
AreEquations S names (l ∷ ls) (e ∷ es) = IsEquationLine S names l e × AreEquations S names ls es

-- the header, the independent and the dependent variables, and equations, at least one and not too many
pub record AreSystem (contents : List (List ℕ)) (s : SystemRead) : Type 0 where
  pub header : List ℕ
  pub vars : List ℕ
  pub deps : List ℕ
  pub body : List (List ℕ)
  pub independent : List ℕ
  pub dependent : List ℕ
  pub lines : contents ≡ header ∷ vars ∷ deps ∷ body
  pub header_is : IsHeader header
  pub vars_is : IsNamesLine (codes "vars") [] vars independent
  pub deps_is : IsNamesLine (codes "deps") independent deps dependent
  pub body_is : AreEquations s.space s.names body s.equations
  pub space : s.space ≡ record { p = length independent; q = length dependent }
  pub names : s.names ≡ independent ++ dependent
  pub some : 1 ≤ length s.equations
  pub few : length s.equations ≤ greatest_equation_count

-- ---- bytes
abbrev pub begins_line_end : List ℕ → Bool
begins_line_end [] = false
begins_line_end (b ∷ bs) = b == 10

-- a byte is allowed before others: tab, a line end, a space to `~`, and a carriage return before a line end
abbrev pub is_allowed : ℕ → List ℕ → Bool
is_allowed b bs = if b == 13 then begins_line_end bs else (b == 9 || b == 10 || (nat_le 32 b && nat_le b 126))

abbrev pub AreAllowed : List ℕ → Type 0
AreAllowed [] = Unit {0}
AreAllowed (b ∷ bs) = (is_allowed b bs ≡ true) × AreAllowed bs

-- what stands in the lines before their comments and ends, without lines of blanks alone
abbrev pub contents_of : List (List ℕ) → List (List ℕ)
contents_of [] = []
contents_of (l ∷ ls) = if length (after_blanks (run Content l)) == 0 then contents_of ls else run Content l ∷ contents_of ls

-- the parts between line ends
abbrev pub lines_of : List ℕ → List (List ℕ)
lines_of bytes = slice_split (λ b. b == 10) bytes

-- the bytes are the file of a system
pub record IsFile (bytes : List ℕ) (s : SystemRead) : Type 0 where
  pub allowed : AreAllowed bytes
  pub system : AreSystem (contents_of (lines_of bytes)) s
