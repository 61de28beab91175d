-- The names of a line, one by one.
use Rattle.std.specs.Prelude.{ℕ, ◌≡◌, ◌≤◌, ◌<◌, ◌-◌, Bool, true, false, List, [], ◌∷◌, length, Ok, Err, refl}
use Rattle.std.specs.declared.result.Result.{Result}
use Rattle.std.proofs.Common.{arith}
use Rattle.lie_scan.specs.declared.runs.Class.TheVariants.{Blank, Word}
use Rattle.lie_scan.specs.declared.stop.Stop.{Stop}
use Rattle.lie_scan.specs.Runs.{run, behind, after_blanks, is_in}
use Rattle.lie_scan.specs.Stops.{◌>>=◌}
use Rattle.lie_scan.specs.Turns.{Turn}
use Rattle.lie_file.specs.FileLines.{name_of, name_by, name_turn}
use Rattle.lie_scan.proofs.TurnSteps.{TurnWithin, TakesBytes}
use Rattle.lie_scan.proofs.Shorter.{behind_shorter}

-- a word that gives a name has a byte
name_within : {S R : Type 0} (n : ℕ) (r : Result ℕ Stop) (f : ℕ → Result (Turn S R) Stop) → ((k : ℕ) → r ≡ Ok k → TurnWithin n (f k)) → TurnWithin n (r >>= f)
name_within n (Ok k) f h = h k refl
name_within n (Err e) f h = tt

word_less : (c : ℕ) (cs given : List ℕ) (count k n : ℕ) (t : Bool) → is_in Word c ≡ t → length (c ∷ cs) ≤ n → name_of given count (run Word (c ∷ cs)) (c ∷ cs) ≡ Ok k → length (behind Word (c ∷ cs)) < n
word_less c cs given count k n true in_word le is = let h = behind_shorter Word cs in rw in_word (omega arith)
word_less c cs given count k n false in_word le is = cc (rw in_word at is)

name_by_takes : (before : ℕ) (given bs : List ℕ) (n : ℕ) → length bs ≤ n → TurnWithin n (name_by before given bs)
name_by_takes before given [] n h = tt
name_by_takes before given (c ∷ cs) n h =
    name_within n (name_of given (length given - before) (run Word (c ∷ cs)) (c ∷ cs)) _ (λ k is. word_less c cs given (length given - before) k n (is_in Word c) refl h is)

pub name_turn_takes : (before : ℕ) → TakesBytes (name_turn before)
name_turn_takes before given text = name_by_takes before given (after_blanks text) (length text) (behind_shorter Blank text)
