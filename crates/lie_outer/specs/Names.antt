-- The names of kept studies.
use Rattle.std.specs.Prelude.{ℕ, ◌≤◌, ◌≡◌, ◌⊎◌, List, All, length}
use Rattle.std.specs.Char.{IsAsciiDigit, IsAsciiLowercase}

-- a name has no more bytes
abbrev pub greatest_name_length : ℕ
greatest_name_length = 32

-- a small letter, a digit or a dash
abbrev pub IsStudyNameByte : ℕ → Type 0
IsStudyNameByte b = IsAsciiLowercase b ⊎ (IsAsciiDigit b ⊎ (b ≡ 45))

abbrev pub IsStudyName : List ℕ → Type 0
IsStudyName bytes = (1 ≤ length bytes) × (length bytes ≤ greatest_name_length) × All IsStudyNameByte bytes
