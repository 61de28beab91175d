-- The limits of written systems.
use Rattle.std.specs.Prelude.{ℕ}

-- the equations of a system
abbrev pub greatest_equation_count : ℕ
greatest_equation_count = 16

-- the exponent of a variable in a term that is written
abbrev pub greatest_written_exponent : ℕ
greatest_written_exponent = 32
