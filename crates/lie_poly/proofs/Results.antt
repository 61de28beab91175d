-- Clauses on an option.
use Rattle.std.specs.Prelude.{Option, Some, None, IfSome}

-- what follows from what holds of a value
pub some_weaker : {T : Type 0} (o : Option T) (P Q : T → Type 0) → ((x : T) → P x → Q x) → IfSome o P → IfSome o Q
some_weaker (Some x) P Q f h = f x h
some_weaker None P Q f h = tt
