use Rattle.std.proofs.Common.{ap, get_or, ◌∙◌, ◌++◌}
use Rattle.lie_print.specs.Printing.{repeated}
use Rattle.lie_print.proofs.PrintedTexts.{letters_from-push, letters_from-done}
use Rattle.lie_print.proofs.name_texts.push_letters.Goals as goal

pub loop-i-preserved : goal.loop-i-preserved
loop-i-preserved c =
    letters_from-push c.args.names.now c.args.counts.now c.loop-i.i 0 c.loop-i.text.items c.push_repeated.new.text.items _ c.loop-i-test.true
    (c.in_ok-push_repeated.ensures ∙ ap (λ n. c.loop-i.text.items ++ repeated (get_or c.args.counts.now c.loop-i.i 0) n) c.name_at.ensures) c.loop-i.invariant

pub returns : goal.returns
returns c = letters_from-done c.args.names.now c.args.counts.now c.loop-i.i c.loop-i.text.items _ c.loop-i-test.false c.loop-i.invariant
