use Rattle.std.proofs.Common.{◌≡◌, take}
use Rattle.lie_math.specs.Derivation.{derivation}
use Rattle.lie_math.specs.Limits.{absolute}
use Rattle.lie_math.specs.Polynomial.{constant, ◌+ᴾ◌, ◌*ᴾ◌}
use Rattle.lie_math.specs.VectorField.{component}
use Rattle.lie_jet.specs.Listed.{sum_listed, bulk_listed}
use Rattle.lie_brackets.specs.FieldTerms.{field_of_terms}
use Rattle.lie_brackets.proofs.derivations.push_derivation.Given as goal

abbrev pub invariant-loop-term : goal.invariant-loop-term
invariant-loop-term l = record {
  sum : sum_listed l.made.items ≡ sum_listed l.initial.made.items
      +ᴾ constant l.sign *ᴾ derivation (component (field_of_terms l.values)) (sum_listed (take l.term-index l.terms));
  bulk : bulk_listed l.made.items ≡ bulk_listed l.initial.made.items
      +ᴾ derivation (λ w. absolute (component (field_of_terms l.values) w)) (bulk_listed (take l.term-index l.terms));
}
