-- Answers of exact operations on numbers.
use Rattle.std.specs.Prelude.{◌≡◌, ◌≤◌, ℤ, unsigned_abs, Option, Some, None, MatchOption}
use Rattle.lie_math.specs.Limits.{number_limit}
use Rattle.lie_ring.specs.Numbers.{IsExact}

-- what none and what a number tell
pub exact_answer : {A : Type 0} {P : ℤ → Type 0} (o : Option ℤ) (z : ℤ) → IsExact (λ w. w) o z → (number_limit ≤ unsigned_abs z → A)
    → ((m : ℤ) → m ≡ z → P m) → MatchOption o A P
exact_answer None z h f g = f h
exact_answer (Some m) z h f g = g m h.0

-- what follows of each answer
pub option_weaker : {X A B : Type 0} {P Q : X → Type 0} (o : Option X) → (A → B) → ((x : X) → P x → Q x) → MatchOption o A P
    → MatchOption o B Q
option_weaker None f g h = f h
option_weaker (Some x) f g h = g x h
