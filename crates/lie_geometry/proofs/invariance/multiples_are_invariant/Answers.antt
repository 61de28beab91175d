use Rattle.std.proofs.Common.{sym}
use Rattle.lie_geometry.proofs.Ideals.{distinct_leads}
use Rattle.lie_geometry.proofs.Multiples.{invariant_multiple}
use Rattle.lie_geometry.proofs.invariance.multiples_are_invariant.Goals as goal

pub returns : goal.returns
returns c = λ S s rs h m n am an V W same. (
  invariant_multiple S s.0 s.1 rs h.factors (distinct_leads rs h.leads) h.rights m n am an V W same,
  invariant_multiple S s.0 s.1 rs h.factors (distinct_leads rs h.leads) h.rights n m an am W V (λ i g. sym (same i g)),
)
