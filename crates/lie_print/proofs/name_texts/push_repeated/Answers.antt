use Rattle.std.proofs.Common.{sym, append_assoc}
use Rattle.std.proofs.lemmas.List.{append-nil}
use Rattle.lie_print.specs.Printing.{repeated}
use Rattle.lie_print.proofs.PrintedTexts.{repeated-more}
use Rattle.lie_print.proofs.name_texts.push_repeated.Goals as goal

pub loop-init : goal.loop-init
unfolding repeated
loop-init c = sym (append-nil c.args.text.now.items)

pub loop-preserved : goal.loop-preserved
loop-preserved c = rw (repeated-more c.loop.counter c.args.piece.now, ← append_assoc c.args.text.now.items (repeated c.loop.counter c.args.piece.now) c.args.piece.now, ← c.loop.invariant) c.in_ok-push_text.ensures
