-- The further factors of a term, one by one.
use Rattle.std.specs.Prelude.{ℕ, ◌≤◌, Bool, true, false, ◌==◌, List, [], ◌∷◌, length, Ok, Err, if◌then◌else◌}
use Rattle.std.specs.declared.result.Result.{Result}
use Rattle.std.proofs.Common.{arith}
use Rattle.lie_math.specs.Monomial.{Monomial}
use Rattle.lie_geometry.specs.Coordinates.{Space}
use Rattle.lie_scan.specs.declared.runs.Class.TheVariants.{Blank}
use Rattle.lie_scan.specs.declared.stop.Stop.{Stop}
use Rattle.lie_scan.specs.Runs.{after_blanks}
use Rattle.lie_scan.specs.Stops.{◌>>=◌}
use Rattle.lie_scan.specs.Turns.{Turn}
use Rattle.lie_scan.specs.Terms.{factor_at, factor_by, factor_turn}
use Rattle.lie_scan.proofs.TurnSteps.{TurnWithin, TakesBytes}
use Rattle.lie_scan.proofs.Shorter.{Within, behind_shorter, factor_within}

pub turn_within_bind : {A S R : Type 0} (n m : ℕ) (r : Result (A × List ℕ) Stop) (f : A × List ℕ → Result (Turn S R) Stop) → Within n r → ((x : A × List ℕ) → length x.1 ≤ n → TurnWithin m (f x)) → TurnWithin m (r >>= f)
turn_within_bind n m (Ok x) f h k = k x h
turn_within_bind n m (Err e) f h k = tt

pub turn_within_if : {S R : Type 0} (n : ℕ) (b : Bool) (r s : Result (Turn S R) Stop) → TurnWithin n r → TurnWithin n s → TurnWithin n (if b then r else s)
turn_within_if n true r s h k = h
turn_within_if n false r s h k = k

factor_by_takes : (S : Space) (names : List ℕ) (m : Monomial) (bs : List ℕ) (n : ℕ) → length bs ≤ n → TurnWithin n (factor_by S names m bs)
factor_by_takes S names m [] n h = tt
factor_by_takes S names m (c ∷ cs) n h =
    turn_within_if n (c == 42) _ _ (turn_within_bind (length cs) n (factor_at S names m cs) _ (factor_within S names m cs) (λ x k. omega arith)) tt

pub factor_turn_takes : (S : Space) (names : List ℕ) → TakesBytes (factor_turn S names)
factor_turn_takes S names m text = factor_by_takes S names m (after_blanks text) (length text) (behind_shorter Blank text)
