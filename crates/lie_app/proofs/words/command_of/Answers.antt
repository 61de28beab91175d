-- Clap meets the command that the words are, and a fault that it finds is one of words that are none.
use Rattle.std.proofs.Common.{true, false, ◌≡◌, ◌∙◌}
use Rattle.clap.specs.Words.{app_of, subcommand_rows_of}
use Rattle.clap.specs.declared.error.kind.ErrorKind.TheVariants.{OutOfMemory}
use Rattle.lie_app.proofs.Commands.{met_read, fault_read}
use Rattle.lie_app.proofs.words.command_of.Goals as goal

pub returns-in-Ok-clause-command : goal.returns-in-Ok-clause-command
returns-in-Ok-clause-command c =
    c.command_met.ensures.met
    ∙ met_read (app_of c.in_ok-interface.field-0) c.in_ok-interface.ensures c.args.words.now c.in-Ok.ensures.kinds (subcommand_rows_of c.in-Ok.found)
    (λ simple. (c.in-Ok.ensures.matches simple).1)

pub returns-clause-command : goal.returns-clause-command
returns-clause-command c =
    fault_read (app_of c.in_ok-interface.field-0) c.in_ok-interface.ensures c.args.words.now c.in-Err.error c.in-Err.ensures.kinds
    (λ memory. let is : c.kind.result ≡ OutOfMemory = c.kind.ensures ∙ memory in let bad : false ≡ true = rw is at c.if-eq.ensures in cc)
