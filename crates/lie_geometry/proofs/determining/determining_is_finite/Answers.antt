use Rattle.lie_geometry.proofs.DeterminingLists.{listing, listing_is}
use Rattle.lie_geometry.proofs.determining.determining_is_finite.Goals as goal

pub returns : goal.returns
returns c = λ S rs. (listing S rs rs, listing_is S rs)
