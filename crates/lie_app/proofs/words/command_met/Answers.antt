-- The command that was met is that of its name.
use Rattle.std.specs.Prelude.{List, Some, None, option_map}
use Rattle.std.specs.Box.{box_value}
use Rattle.std.specs.declared.option.Option.{Option}
use Rattle.std.proofs.Common.{ap₂, ◌≡◌, ◌∙◌}
use Rattle.clap.specs.Walk.{Row, Text}
use Rattle.clap.specs.Words.{found_of, rows_of}
use Rattle.clap.specs.declared.parser.matches.ArgMatches.TheViews.{out-ArgMatches, out-SubCommand}
use Rattle.lie_app.specs.Interface.{command_met, named_met}
use Rattle.lie_app.proofs.words.command_met.Goals as goal

met_there : {B : Type 0} (name_of : B → Text) (rows_in : B → List Row) (met : Option B) (name : Text) (rows : List Row)
    → ◌≡◌ {A = Option Text} (Some name) (option_map name_of met)
    → ◌≡◌ {A = Option (List Row)} (Some rows) (option_map (λ (p : Text × List Row). p.1) (option_map (λ b. (name_of b, rows_in b)) met))
    → named_met name rows ≡ command_met (option_map (λ b. (name_of b, rows_in b)) met)
met_there name_of rows_in None name rows e f = absurd (cc)
met_there name_of rows_in (Some met) name rows e f =
    let same : name ≡ name_of met = cc in let rest : rows ≡ rows_in met = cc in ap₂ named_met same rest

pub returns-clause-met : goal.returns-clause-met
returns-clause-met c =
    c.named_met.ensures.met
    ∙ met_there (λ b. (out-SubCommand (box_value b)).name.now) (λ b. rows_of (found_of (out-SubCommand (box_value b)).matches))
    (out-ArgMatches c.args.found.now).subcommand _ _ c.in_ok-name.ensures.name c.in_ok-name.ensures.rows
