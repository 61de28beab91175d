use Rattle.std.proofs.Common.{◌≡◌, take}
use Rattle.lie_form.proofs.FormParts.{kept_absolutes}
use Rattle.lie_normal.proofs.absolutes.absolute_terms.Given as goal

abbrev pub invariant-loop-term : goal.invariant-loop-term
invariant-loop-term l = l.sizes.items ≡ take l.term-index (kept_absolutes l.terms)
