use Rattle.lie_print.proofs.PrintedTexts.{derivative_text-parts}
use Rattle.lie_print.proofs.printer.Printer.push_derivative.Goals as goal

pub returns : goal.returns
returns c =
    derivative_text-parts c.args.self.now.names.now c.args.unknown c.args.counts.now c.args.text.now.items c.push_text.new.text.items c.push_number.new.text.items c.push_subscript.new.text.items
    c.in_ok-push_text.ensures c.in_ok-push_number.ensures c.in_ok-push_subscript.ensures
