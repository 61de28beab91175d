-- Reading that goes on turn by turn.
use Rattle.std.specs.Prelude.{ℕ, zero, suc, List, length, Ok, Err}
use Rattle.std.specs.declared.result.Result.{Result}
use Rattle.lie_scan.specs.declared.fault.BadKind.TheVariants.{Syntax}
use Rattle.lie_scan.specs.declared.stop.Stop.{Stop}
use Rattle.lie_scan.specs.Stops.{stop, ◌>>=◌}

-- after a turn: a new state and the bytes left, or the end
pub data Turn (S R : Type 0) : Type 0 where
  goes_on : S → List ℕ → Turn S R
  ends : R → Turn S R

abbrev pub after : {S R : Type 0} → (S → List ℕ → Result R Stop) → Turn S R → Result R Stop
after f (goes_on s rest) = f s rest
after f (ends r) = Ok r

-- at most n turns
abbrev pub turns : {S R : Type 0} → (S → List ℕ → Result (Turn S R) Stop) → ℕ → S → List ℕ → Result R Stop
turns turn zero s text = Err (stop Syntax text)
turns turn (suc n) s text = turn s text >>= after (turns turn n)

-- all turns: each takes a byte, so that there are no more than bytes, and one that ends
unfoldable pub all_turns : {S R : Type 0} → (S → List ℕ → Result (Turn S R) Stop) → S → List ℕ → Result R Stop
all_turns turn s text = turns turn (suc (length text)) s text
