use Rattle.std.proofs.Common.{take, []}
use Rattle.lie_parts.specs.Parts.{is_inside}
use Rattle.lie_systems.specs.Triples.{triples_in}
use Rattle.lie_form.specs.DerivativeTerms.{derivative_terms}
use Rattle.lie_parts.specs.Parts.{HaveMore, split_triples}
use Rattle.lie_parts.proofs.parts.buckets_of.Given as goal

abbrev pub invariant-loop-term : goal.invariant-loop-term
invariant-loop-term l = HaveMore (split_triples (is_inside l.inside) (triples_in (derivative_terms (take l.term-index l.terms)))) [] l.buckets.items
