-- The text of a number is read back.
use Rattle.std.specs.Prelude.{ℕ, ◌≡◌, ◌<◌, ◌≤◌, ◌^◌, nat_lt, true, false, List, [], ◌∷◌, ◌++◌, length, decimal, Some, refl}
use Rattle.std.proofs.Common.{sym, ap, ◌∙◌, subst, arith}
use Rattle.std.proofs.lemmas.Bool.Decides.{nat_tests}
use Rattle.std.proofs.lemmas.Fmt.{decimal_is_IsNumeral_wide}
use Rattle.lie_scan.specs.declared.runs.Class.TheVariants.{Digit}
use Rattle.lie_scan.specs.Runs.{is_in, run, behind}
use Rattle.lie_scan.specs.TokenGrammar.{AreIn, BeginsOutside}
use Rattle.lie_scan.specs.Tokens.{value_of}
use Rattle.lie_scan.proofs.Blanks.{run_front, behind_front, behind_none}
use Rattle.lie_scan.proofs.NumberLaws.{is-number_from, all_digits}
use Rattle.lie_readback.specs.Readings.{◌>>=◌}
use Rattle.lie_readback.specs.Factors.{read_small, guarded}
use Rattle.lie_readback.specs.Sums.{begins_with_digit}
use Rattle.lie_readback.proofs.Separators.{decimal_digits}

pub decimal_value : (n : ℕ) → n < 2 ^ 127 → value_of (decimal n) ≡ Some n
decimal_value n small =
    let d = decimal_is_IsNumeral_wide n (omega arith) in
    is-number_from 0 (decimal n) (all_digits (decimal n) d.0.1) (subst (λ k. k < 2 ^ 127) (sym d.1) small) ∙ ap Some d.1

pub decimal_some : (n : ℕ) → n < 2 ^ 127 → 1 ≤ length (decimal n)
decimal_some n small = let d = decimal_is_IsNumeral_wide n (omega arith) in d.0.0

guarded_small : (n : ℕ) → n < 2 ^ 32 → guarded n ≡ Some n
guarded_small n small = let t : nat_lt n (2 ^ 32) ≡ true = grind (arith, nat_tests, small) in rw t refl

pub small_back : (n : ℕ) → n < 2 ^ 32 → read_small (decimal n) ≡ Some n
small_back n small = ap (λ o. o >>= guarded) (decimal_value n (omega arith)) ∙ guarded_small n small

pub decimal_front : (n : ℕ) (rest : List ℕ) → n < 2 ^ 127 → BeginsOutside Digit rest → run Digit (decimal n ++ rest) ≡ decimal n
decimal_front n rest small ended = run_front Digit (decimal n) rest (decimal_digits n (omega arith)) ended

pub decimal_back : (n : ℕ) (rest : List ℕ) → n < 2 ^ 127 → BeginsOutside Digit rest → behind Digit (decimal n ++ rest) ≡ rest
decimal_back n rest small ended = behind_front Digit (decimal n) rest (decimal_digits n (omega arith)) ∙ behind_none Digit rest ended

first_digit : (ds : List ℕ) → AreIn Digit ds → 1 ≤ length ds → begins_with_digit ds ≡ true
first_digit [] h some = absurd (omega arith)
first_digit (d ∷ ds) h some = h.0

pub decimal_begins : (n : ℕ) → n < 2 ^ 127 → begins_with_digit (decimal n) ≡ true
decimal_begins n small = first_digit (decimal n) (decimal_digits n (omega arith)) (decimal_some n small)
