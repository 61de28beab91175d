use Rattle.lie_canonical.proofs.CanonicalStays.{canonical_stays}
use Rattle.lie_canonical.proofs.laws.canonical_texts_stay_with_leads.Goals as goal

pub returns : goal.returns
returns c = canonical_stays
