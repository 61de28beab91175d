-- Laws of the work on a file.
use Rattle.std.specs.Prelude.{ℕ, List}
use Rattle.lie_work.specs.declared.outcome.Outcome.{Outcome}
use Rattle.lie_work.specs.Commands.{AnyFileCommand}
use Rattle.lie_work.specs.Work.{IsWorkDue}

-- some outcome is due
abbrev pub SomeWorkIsDue : Type 0
SomeWorkIsDue = (c : AnyFileCommand) (bytes : List ℕ) → ¬ ((due : Outcome) → ¬ (IsWorkDue c bytes due))
