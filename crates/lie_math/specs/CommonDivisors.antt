-- The greatest common divisor of two numbers, by Euclid's steps.
use Rattle.std.specs.Prelude.{ℕ, zero, suc, ◌%◌, cond, eqb}

abbrev pub divisor_within : ℕ → ℕ → ℕ → ℕ
divisor_within zero a b = a
divisor_within (suc steps) a b = cond (eqb b 0) a (divisor_within steps b (a % b))

unfoldable pub common_divisor : ℕ → ℕ → ℕ
common_divisor a b = divisor_within (suc b) a b
