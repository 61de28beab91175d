-- How a call went: it is done, it was refused for a cause of the words or of what they name, or it failed for a cause outside.
use Rattle.lie_work.specs.declared.outcome.Outcome.{Outcome}
use Rattle.lie_work.specs.declared.outcome.Outcome.TheVariants.{Refused, Failed}
use Rattle.lie_work.specs.declared.outcome.Failure.TheVariants.{NoMemory}
use Rattle.lie_work.specs.declared.outcome.Refusal.{Refusal}
use Rattle.lie_work.specs.declared.outcome.NoText.{NoText}
use Rattle.lie_work.specs.declared.outcome.NoText.TheVariants as texts

-- how a call went whose work makes no text
abbrev pub untold : NoText → Outcome
untold (texts.Refused refusal) = Refused refusal
untold texts.NoMemory = Failed NoMemory

-- a refusal is one of these, and want of memory may be
abbrev pub IsRefusalOr : (Refusal → Type 0) → NoText → Type 0
IsRefusalOr P (texts.Refused refusal) = P refusal
IsRefusalOr P texts.NoMemory = Unit {0}
