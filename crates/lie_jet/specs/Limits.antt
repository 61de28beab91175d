-- The limits on variables and jets.
use Rattle.std.specs.Prelude.{ℕ}

-- the independent variables are at most so many, and so are the dependent ones
abbrev pub greatest_variable_count : ℕ
greatest_variable_count = 4

-- the order of a derivative that is written
abbrev pub greatest_written_order : ℕ
greatest_written_order = 6

-- the order of a coordinate that has a number: the prolonged coefficients of a written system reach twice the order that is written
abbrev pub greatest_jet_order : ℕ
greatest_jet_order = 12
