-- Where the reading of a line stops, and what a reader gives.
use Rattle.std.specs.Prelude.{ℕ, ◌≡◌, List, length, Ok, Err}
use Rattle.std.specs.declared.result.Result.{Result}
use Rattle.lie_scan.specs.declared.fault.BadKind.{BadKind}
use Rattle.lie_scan.specs.declared.stop.Stop.{Stop}
use Rattle.lie_scan.specs.declared.stop.LineFail.{LineFail}
use Rattle.lie_scan.specs.declared.stop.LineFail.TheVariants.{Fault, NoMemory}

-- a fault at the first byte of a text
abbrev pub stop : BadKind → List ℕ → Stop
stop kind text = record { kind = kind; left = length text }

infixl 10 ◌>>=◌
abbrev pub ◌>>=◌ : {A B E : Type 0} → Result A E → (A → Result B E) → Result B E
(Ok x) >>= f = f x
(Err e) >>= f = Err e

-- what a call answered, seen by view, is what reading gives
abbrev pub Gives : {X Y E : Type 0} → (X → Y) → Result X E → Result Y E → Type 0
Gives view (Ok x) read = read ≡ Ok (view x)
Gives view (Err e) read = read ≡ Err e

-- the same, unless memory ran out
abbrev pub Fails : {Y : Type 0} → LineFail → Result Y Stop → Type 0
Fails (Fault s) read = read ≡ Err s
Fails NoMemory read = Unit {0}

abbrev pub Reads : {X Y : Type 0} → (X → Y) → Result X LineFail → Result Y Stop → Type 0
Reads view (Ok x) read = read ≡ Ok (view x)
Reads view (Err e) read = Fails e read
