-- What a call that reads a text answered.
use Rattle.std.specs.Prelude.{◌≡◌, Ok, Err}
use Rattle.std.specs.declared.result.Result.{Result}
use Rattle.lie_scan.specs.declared.fault.ReadFail.{ReadFail}
use Rattle.lie_scan.specs.declared.fault.ReadFail.TheVariants as reads

-- what a call answered, seen by view, is what reading gives, unless memory ran out
abbrev pub ReadFails : {Y : Type 0} → ReadFail → Result Y ReadFail → Type 0
ReadFails reads.NoMemory read = Unit {0}
ReadFails (reads.Bad b) read = read ≡ Err (reads.Bad b)

abbrev pub Answers : {X Y : Type 0} → (X → Y) → Result X ReadFail → Result Y ReadFail → Type 0
Answers view (Ok x) read = read ≡ Ok (view x)
Answers view (Err e) read = ReadFails e read
