-- The command has the arguments that were added so far, and then the options.
use Rattle.std.proofs.Common.{◌≡◌, ◌++◌, [], map, take, false}
use Rattle.clap.specs.Simple.{new_shape}
use Rattle.clap.specs.Words.{app_of}
use Rattle.lie_app.specs.Interface.{argument, has_globals, option}
use Rattle.lie_app.proofs.words.subcommand.Given as goal

abbrev pub invariant-loop-id : goal.invariant-loop-id
invariant-loop-id l = record {
  shape : app_of l.command ≡ record { top = record (new_shape l.fn.name) { rules = map argument (map (λ a. a.now) (take l.id-index l.arguments)) }; subs = [] };
  local : has_globals l.command ≡ false;
}

abbrev pub invariant-loop-id-2 : goal.invariant-loop-id-2
invariant-loop-id-2 l = record {
  shape : app_of l.command ≡ record {
    top = record (new_shape l.fn.name) { rules = map argument (map (λ a. a.now) l.fn.arguments) ++ map option (map (λ o. o.now) (take l.id-index l.options)) };
    subs = [];
  };
  local : has_globals l.command ≡ false;
}
