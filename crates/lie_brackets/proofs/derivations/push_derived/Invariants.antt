use Rattle.std.proofs.Common.{◌≡◌, take}
use Rattle.std.specs.Prelude.{pos, unsigned_abs}
use Rattle.lie_math.specs.Limits.{absolute}
use Rattle.lie_math.specs.Polynomial.{◌+ᴾ◌}
use Rattle.lie_math.specs.VectorField.{component}
use Rattle.lie_jet.specs.Listed.{sum_listed, bulk_listed}
use Rattle.lie_jet.proofs.ChainRules.{parts}
use Rattle.lie_brackets.specs.FieldTerms.{field_of_terms}
use Rattle.lie_brackets.proofs.derivations.push_derived.Given as goal

abbrev pub invariant-loop-var : goal.invariant-loop-var
invariant-loop-var l = record {
  sum : sum_listed l.made.items
      ≡ sum_listed l.initial.made.items +ᴾ parts (component (field_of_terms l.values)) l.mono l.number (take l.var-index l.mono.list);
  bulk : bulk_listed l.made.items ≡ bulk_listed l.initial.made.items
      +ᴾ parts (λ w. absolute (component (field_of_terms l.values) w)) l.mono (pos (unsigned_abs l.number)) (take l.var-index l.mono.list);
}
