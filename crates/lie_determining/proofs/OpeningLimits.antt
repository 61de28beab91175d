-- Making an opening system is not both within its limits and past one, and past none it is within them.
use Rattle.lie_reduce.specs.Kinds.{limit_of}
use Rattle.lie_reduce.proofs.WorkKinds.{work_apart, past_none_is_within}
use Rattle.lie_determining.specs.Laws.{OpeningIsNotWithinAndPast, OpeningPastNoneIsWithin}
use Rattle.lie_determining.specs.Openings.{OpeningMakes}

pub opening_is_not_within_and_past : OpeningIsNotWithinAndPast
opening_is_not_within_and_past S rs kind within past = work_apart (OpeningMakes S rs) (limit_of kind) within past

pub opening_past_none_is_within : OpeningPastNoneIsWithin
opening_past_none_is_within S rs none = past_none_is_within (OpeningMakes S rs) none
