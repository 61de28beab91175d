use Rattle.std.specs.Prelude.{◌≡◌, suc, min, take}
use Rattle.lie_math.specs.Limits.{greatest_exponent, greatest_term_count}
use Rattle.lie_math.specs.Powers.{total_degree}
use Rattle.lie_geometry.specs.Norms.{norm}
use Rattle.lie_prolong.specs.FieldBounds.{greatest_of}
use Rattle.lie_prolong.proofs.bounds.is_bounded_field.Given as goal

abbrev pub invariant-loop-part : goal.invariant-loop-part
invariant-loop-part l = record {
  norm : l.norm ≡ min (greatest_of norm (take l.part-index l.part-items)) (suc greatest_term_count);
  degree : l.degree ≡ min (greatest_of total_degree (take l.part-index l.part-items)) (suc greatest_exponent);
}
