-- What the failures of the work are told as.
use Rattle.std.specs.Prelude.{ℕ}
use Rattle.lie_ring.specs.declared.failures.PolyFail.{PolyFail}
use Rattle.lie_ring.specs.declared.failures.PolyFail.TheVariants as poly
use Rattle.lie_scan.specs.declared.fault.ReadFail.{ReadFail}
use Rattle.lie_scan.specs.declared.fault.ReadFail.TheVariants as reads
use Rattle.lie_solved.specs.declared.solved.SolveFormFail.{SolveFormFail}
use Rattle.lie_solved.specs.declared.solved.SolveFormFail.TheVariants as solves
use Rattle.lie_analysis.specs.declared.analysis.Unfinished.{Unfinished}
use Rattle.lie_analysis.specs.declared.analysis.Unfinished.TheVariants as unfinished
use Rattle.lie_degree.specs.declared.bases.DegreeStop.{DegreeStop}
use Rattle.lie_degree.specs.declared.bases.DegreeStop.TheVariants as stops
use Rattle.lie_outer.specs.declared.sink.SinkFail.TheVariants as sinks
use Rattle.lie_outer.specs.declared.sink.SinkFail.{SinkFail}
use Rattle.std.specs.declared.result.Result.{Result}
use Rattle.std.specs.declared.result.Result.TheVariants.{Ok, Err}
use Rattle.lie_work.specs.declared.outcome.NoText.{NoText}
use Rattle.lie_work.specs.declared.outcome.NoText.TheVariants.{Refused, NoMemory}
use Rattle.lie_work.specs.declared.outcome.Outcome.{Outcome}
use Rattle.lie_work.specs.declared.outcome.Outcome.TheVariants as outcomes
use Rattle.lie_work.specs.declared.outcome.Failure.TheVariants as failures
use Rattle.lie_work.specs.declared.outcome.Refusal.TheVariants.{Bad, Not, Past, Spent}
use Rattle.lie_work.specs.declared.source.Source.{Source}

-- a text that is not read
abbrev pub not_read : Source → ReadFail → NoText
not_read source (reads.Bad bad) = Refused (Bad source bad)
not_read source reads.NoMemory = NoMemory

-- a system without a solved form
abbrev pub not_solved : SolveFormFail → NoText
not_solved (solves.Not kind k) = Refused (Not kind k)
not_solved solves.NoMemory = NoMemory

-- a step of the work that is past a limit
abbrev pub not_done : ℕ → PolyFail → NoText
not_done step (poly.Past what) = Refused (Past step what)
not_done step poly.NoMemory = NoMemory

-- an analysis without an end
abbrev pub not_analysed : ℕ → Unfinished → NoText
not_analysed budget (unfinished.Past step what) = Refused (Past step what)
not_analysed budget unfinished.Spent = Refused (Spent budget)
not_analysed budget unfinished.NoMemory = NoMemory

-- a system without a basis up to a degree
abbrev pub no_basis : DegreeStop → NoText
no_basis (stops.Past step what) = Refused (Past step what)
no_basis stops.NoMemory = NoMemory

-- a put of the whole output
abbrev pub put_outcome : {T : Type 0} → Result T SinkFail → Outcome
put_outcome (Ok taken) = outcomes.Done
put_outcome (Err sinks.Failed) = outcomes.Failed failures.WriteFault
put_outcome (Err sinks.NoMemory) = outcomes.Failed failures.NoMemory
