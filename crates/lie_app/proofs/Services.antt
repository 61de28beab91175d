-- Where memory was wanting before a service began, no connection was served, and any other command leaves the link.
use Rattle.std.specs.Prelude.{refl}
use Rattle.std.proofs.Common.{Some, None, arith}
use Rattle.std.specs.declared.option.Option.{Option}
use Rattle.lie_outer.specs.Link.{Line}
use Rattle.lie_serve.specs.Replies.{Kept}
use Rattle.lie_service.specs.Serving.{none}
use Rattle.lie_work.specs.declared.outcome.Outcome.TheVariants.{Failed}
use Rattle.lie_work.specs.declared.outcome.Failure.TheVariants.{NoMemory}
use Rattle.lie_app.specs.declared.words.Command.TheVariants.{OnFile, OnDesk, Sample, OnLink}
use Rattle.lie_app.specs.Run.{LeavesWordsLink}
use Rattle.lie_app.specs.Words.{AnyCommand}

pub nothing_served : (kept : Kept) (line : Line) (command : Option AnyCommand) → LeavesWordsLink kept kept line line command (Failed NoMemory)
nothing_served kept line None = refl
nothing_served kept line (Some (OnFile path c)) = refl
nothing_served kept line (Some (OnDesk c)) = refl
nothing_served kept line (Some (Sample last budget)) = refl
nothing_served kept line (Some (OnLink address count budget)) = (0, omega arith, none)
