use Rattle.std.proofs.Common.{ap, ◌∙◌, map}
use Rattle.lie_math.specs.Limits.{absolute}
use Rattle.lie_prolong.proofs.Absolutes.{absolute_field_is}
use Rattle.lie_prolong.proofs.absolute.absolute_field.Goals as goal
use Rattle.lie_ring.proofs.Fronts.{all_taken}

pub returns : goal.returns
returns c = absolute_field_is c.args.field.now c.new.result (c.new.ensures.den ∙ c.den.ensures.den) (c.new.ensures.parts ∙ c.loop-part.invariant ∙ ap (map absolute) (all_taken c.parts-part-items.result.now c.loop-part.part-index c.loop-part-test.false ∙ c.parts-part-items.ensures))

pub unreachable-requires : goal.unreachable-requires
unreachable-requires c = rw c.in-Err-Past.field-0-is at c.in-Err-Past.ensures.memory
