-- Turns one by one: all turns are the first one and then all others.
use Rattle.std.specs.Prelude.{ℕ, zero, suc, ◌≡◌, ◌<◌, List, length, Ok, Err, refl}
use Rattle.std.specs.declared.result.Result.{Result}
use Rattle.std.proofs.Common.{ap, ◌∙◌, subst, arith}
use Rattle.lie_scan.specs.declared.stop.Stop.{Stop}
use Rattle.lie_scan.specs.declared.stop.LineFail.{LineFail}
use Rattle.lie_scan.specs.declared.stop.LineFail.TheVariants.{Fault, NoMemory}
use Rattle.lie_scan.specs.Stops.{◌>>=◌, Fails}
use Rattle.lie_scan.specs.Turns.{Turn, goes_on, ends, after, turns, all_turns}

-- a turn that goes on leaves less than n bytes
abbrev pub TurnWithin : {S R : Type 0} → ℕ → Result (Turn S R) Stop → Type 0
TurnWithin n (Ok (goes_on s rest)) = length rest < n
TurnWithin n (Ok (ends r)) = Unit {0}
TurnWithin n (Err e) = Unit {0}

-- each turn that goes on takes a byte
abbrev pub TakesBytes : {S R : Type 0} → (S → List ℕ → Result (Turn S R) Stop) → Type 0
TakesBytes {S} {R} turn = (s : S) (text : List ℕ) → TurnWithin (length text) (turn s text)

-- two ways to go on that agree on fewer bytes agree behind the turn
after_same : {S R : Type 0} (f g : S → List ℕ → Result R Stop) (n : ℕ) (r : Result (Turn S R) Stop) → TurnWithin n r
    → ((s : S) (rest : List ℕ) → length rest < n → f s rest ≡ g s rest) → (r >>= after f) ≡ (r >>= after g)
after_same f g n (Ok (goes_on s rest)) within same = same s rest within
after_same f g n (Ok (ends r)) within same = refl
after_same f g n (Err e) within same = refl

turns_same : {S R : Type 0} (turn : S → List ℕ → Result (Turn S R) Stop) → TakesBytes turn → (n m : ℕ) (s : S) (text : List ℕ) → length text < n → length text < m → turns turn n s text ≡ turns turn m s text
turns_same turn takes zero m s text ln lm = absurd (omega arith)
turns_same turn takes (suc n) zero s text ln lm = absurd (omega arith)
turns_same turn takes (suc n) (suc m) s text ln lm =
    after_same (turns turn n) (turns turn m) (length text) (turn s text) (takes s text) (λ t rest less. turns_same turn takes n m t rest (omega arith) (omega arith))

pub all_turns-step : {S R : Type 0} (turn : S → List ℕ → Result (Turn S R) Stop) → TakesBytes turn → (s : S) (text : List ℕ) → all_turns turn s text ≡ (turn s text >>= after (all_turns turn))
unfolding all_turns
all_turns-step turn takes s text =
    after_same (turns turn (length text)) (λ t rest. turns turn (suc (length rest)) t rest) (length text) (turn s text) (takes s text)
    (λ t rest less. turns_same turn takes (length text) (suc (length rest)) t rest (omega arith) (omega arith))

module _ {S R : Type 0} (turn : S → List ℕ → Result (Turn S R) Stop) (takes : TakesBytes turn) (s : S) (text : List ℕ) where
  pub turns_on : (t : S) (rest : List ℕ) → turn s text ≡ Ok (goes_on t rest) → all_turns turn s text ≡ all_turns turn t rest
  turns_on t rest is = all_turns-step turn takes s text ∙ ap (λ r. r >>= after (all_turns turn)) is

  pub turns_end : (r : R) → turn s text ≡ Ok (ends r) → all_turns turn s text ≡ Ok r
  turns_end r is = all_turns-step turn takes s text ∙ ap (λ r. r >>= after (all_turns turn)) is

  pub turns_stop : (e : Stop) → turn s text ≡ Err e → all_turns turn s text ≡ Err e
  turns_stop e is = all_turns-step turn takes s text ∙ ap (λ r. r >>= after (all_turns turn)) is

  pub turns_fail : (f : LineFail) → Fails f (turn s text) → Fails f (all_turns turn s text)
  turns_fail (Fault e) is = turns_stop e is
  turns_fail NoMemory is = tt

  pub turn_less : (t : S) (rest : List ℕ) → turn s text ≡ Ok (goes_on t rest) → length rest < length text
  turn_less t rest is = subst (TurnWithin (length text)) is (takes s text)
