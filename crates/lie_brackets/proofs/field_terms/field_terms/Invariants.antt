use Rattle.std.proofs.Common.{◌≡◌, take, map}
use Rattle.lie_jet.specs.Listed.{sum_listed}
use Rattle.lie_brackets.specs.FieldTerms.{Part, AreInOrder}
use Rattle.lie_brackets.proofs.field_terms.field_terms.Given as goal

abbrev pub invariant-loop-part : goal.invariant-loop-part
invariant-loop-part l = record {
  parts : map (λ (x : Part). sum_listed x.items) l.parts.items ≡ take l.part-index l.part-items;
  ordered : AreInOrder l.parts.items;
}
