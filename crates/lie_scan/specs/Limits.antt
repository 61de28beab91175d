-- The limits of texts.
use Rattle.std.specs.Prelude.{ℕ}

-- the bytes of a file, of a line and of a field
abbrev pub greatest_text_length : ℕ
greatest_text_length = 65536
