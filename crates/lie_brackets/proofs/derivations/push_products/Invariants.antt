use Rattle.std.proofs.Common.{◌≡◌, take}
use Rattle.std.specs.Prelude.{pos, unsigned_abs}
use Rattle.lie_math.specs.Polynomial.{term, ◌+ᴾ◌, ◌*ᴾ◌}
use Rattle.lie_jet.specs.Listed.{sum_listed, bulk_listed}
use Rattle.lie_brackets.proofs.derivations.push_products.Given as goal

abbrev pub invariant-loop-term : goal.invariant-loop-term
invariant-loop-term l = record {
  sum : sum_listed l.made.items ≡ sum_listed l.initial.made.items +ᴾ sum_listed (take l.term-index l.terms) *ᴾ term l.mono l.number;
  bulk : bulk_listed l.made.items
      ≡ bulk_listed l.initial.made.items +ᴾ bulk_listed (take l.term-index l.terms) *ᴾ term l.mono (pos (unsigned_abs l.number));
}
