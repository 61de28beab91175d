use Rattle.std.proofs.Common.{◌≡◌, take}
use Rattle.lie_form.proofs.FormParts.{kept_absolutes}
use Rattle.lie_form.proofs.form.SymForm.absolute.Given as goal

abbrev pub invariant-loop-term : goal.invariant-loop-term
invariant-loop-term l = l.terms.items ≡ take l.term-index (kept_absolutes l.term-items)
