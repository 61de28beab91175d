use Rattle.std.proofs.Common.{rules}
use Rattle.lie_print.specs.PrintedTerms.{printed}
use Rattle.lie_print.proofs.PrintedTexts.{term_text-parts}
use Rattle.lie_print.proofs.printer.Printer.push_term.Goals as goal

pub returns : goal.returns
returns c =
    term_text-parts c.args.self.now.space c.args.self.now.names.now (printed c.args.term.now) c.args.text.now.items c.push_shown.new.text.items c.push_powers.new.text.items c.push_last.new.text.items
    (search rules) (search rules) (search rules)
