use Rattle.std.proofs.Common.{◌≡◌, ◌<◌, ◌^◌, drop, ℕ, List}
use Rattle.lie_scan.specs.Tokens.{number_from}
use Rattle.lie_scan.proofs.number.value_of.Given as goal

pub record IsReadSoFar (digits : List ℕ) (index number : ℕ) : Type 0 where
  pub same : number_from 0 digits ≡ number_from number (drop index digits)
  pub small : number < 2 ^ 127

abbrev pub invariant-loop-digit : goal.invariant-loop-digit
invariant-loop-digit l = IsReadSoFar l.digits l.digit-index l.number
