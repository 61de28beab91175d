-- The command line as the crate clap is told of it, and the command that it meets there.
use Rattle.std.specs.Prelude.{Bool, true, false, List, ◌++◌, map, Some, None, codes}
use Rattle.std.specs.declared.option.Option.{Option}
use Rattle.clap.specs.Walk.{Row, Rule, Text, first_of}
use Rattle.clap.specs.Simple.{App, Shape, new_rule, new_shape}
use Rattle.clap.specs.declared.builder.command.Command.{Command}
use Rattle.clap.specs.declared.builder.command.Command.TheViews.{out-Command}
use Rattle.lie_app.specs.Words.{AnyCommand, Signature, signatures, signature_of, ◌>>=◌}

-- an argument that may not be left out
abbrev pub argument : Text → Rule
argument name = record (new_rule name) { required = true }

-- an option with a value
abbrev pub option : Text → Rule
option name = record (new_rule name) { long = Some name }

abbrev pub subcommand : Text → List Text → List Text → Shape
subcommand name arguments options = record (new_shape name) { rules = map argument arguments ++ map option options }

-- an argument of it is also one of its subcommands
abbrev pub has_globals : Command → Bool
has_globals c = (out-Command c).has_globals

abbrev pub subcommand_of : Signature → Shape
subcommand_of s = subcommand s.name s.arguments s.options

-- the first word is a command's, and there is no call for help
abbrev pub bare : Shape → Shape
bare s = record s { no_binary_name = true; disable_help_flag = true; disable_help_subcommand = true; subcommand_required = true }

abbrev pub interface : App
interface = record { top = record (bare (new_shape (codes "lie"))) { is_leaf = false }; subs = map subcommand_of signatures }

-- the command of this name, with the values that were found for its arguments and options
abbrev pub named_met : Text → List Row → Option AnyCommand
named_met name rows = signature_of name >>= λ s. s.made (λ id. first_of id rows)

abbrev pub command_met : Option (Text × List Row) → Option AnyCommand
command_met None = None
command_met (Some met) = named_met met.0 met.1
