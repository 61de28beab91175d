use Rattle.std.proofs.Common.{take}
use Rattle.lie_parts.specs.Parts.{is_inside}
use Rattle.lie_systems.specs.Triples.{triples_with}
use Rattle.lie_jet.specs.Derivatives.{derivative_of}
use Rattle.lie_parts.specs.Parts.{HaveMore, split_triples}
use Rattle.lie_parts.proofs.parts.put_terms.Given as goal

abbrev pub invariant-loop-mono : goal.invariant-loop-mono
invariant-loop-mono l = HaveMore (split_triples (is_inside l.inside) (triples_with (derivative_of l.term.0) (take l.mono-index l.mono-items))) l.fn.buckets.items l.buckets.items
