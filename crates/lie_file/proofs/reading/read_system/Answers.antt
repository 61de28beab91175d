use Rattle.std.specs.Prelude.{ℕ, List, length, ◌≤◌, Result, Ok, Err, IfOk}
use Rattle.std.proofs.Common.{subst}
use Rattle.lie_scan.specs.declared.fault.ReadFail.{ReadFail}
use Rattle.lie_scan.specs.declared.fault.ReadFail.TheVariants.{Bad, NoMemory}
use Rattle.lie_system.specs.Systems.{SystemRead}
use Rattle.lie_scan.specs.ReadFails.{Answers}
use Rattle.lie_file.specs.Reading.{read}
use Rattle.lie_file.specs.FileGrammar.{IsFile}
use Rattle.lie_file.specs.FileFaults.{IsFaultToldOf}
use Rattle.lie_file.proofs.FileLaws.{read-is, is-read}
use Rattle.lie_file.proofs.FileFaults.{read-fails, is-fault}
use Rattle.lie_file.proofs.reading.read_system.Goals as goal

found_file : {X : Type 0} (view : X → SystemRead) (r : Result X ReadFail) (bytes : List ℕ) → Answers view r (read bytes) → IfOk r (λ s. IsFile bytes (view s) × (length bytes ≤ 65536))
found_file view (Ok x) bytes h = read-is bytes (view x) h
found_file view (Err e) bytes h = tt

told_fault : {X : Type 0} (view : X → SystemRead) (r : Result X ReadFail) (bytes : List ℕ) → Answers view r (read bytes) → IsFaultToldOf bytes r
told_fault view (Ok x) bytes h = tt
told_fault view (Err NoMemory) bytes h = tt
told_fault view (Err (Bad b)) bytes h = read-fails bytes (Bad b) h

pub returns : goal.returns
returns c = record {
  found = found_file _ c.read_bytes.result c.args.bytes.now c.read_bytes.ensures;
  only = λ s is short. subst (Answers _ c.read_bytes.result) (is-read c.args.bytes.now s is short) c.read_bytes.ensures;
  fault = told_fault _ c.read_bytes.result c.args.bytes.now c.read_bytes.ensures;
  stops = λ f is. subst (Answers _ c.read_bytes.result) (is-fault c.args.bytes.now f is) c.read_bytes.ensures;
}
