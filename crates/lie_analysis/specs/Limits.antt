-- The limit on budgets.
use Rattle.std.specs.Prelude.{ℕ}

-- the greatest number of steps that a run may be given
abbrev pub greatest_budget : ℕ
greatest_budget = 10000000
