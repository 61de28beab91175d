use Rattle.std.proofs.Common.{ap, ◌∙◌, ◌++◌, ◌∷◌, []}
use Rattle.lie_jet.specs.Derivatives.{derivative_of}
use Rattle.lie_lin.specs.Forms.{triples_of}
use Rattle.lie_lin.proofs.Forms.{triples_of-append}
use Rattle.lie_parts.specs.declared.buckets.Bucket.{Bucket}
use Rattle.lie_parts.proofs.BucketSteps.{more_pushed}
use Rattle.lie_parts.proofs.buckets.push_at.Goals as goal

pub returns : goal.returns
returns c = λ μ found.
    more_pushed μ (derivative_of c.args.triple.0, c.args.triple.1, c.args.triple.2) c.args.buckets.now.items c.args.place (record { mono = c.index_mut.result.now.mono; triples = c.push.new.self }) c.index_mut.result.now
    (ap (λ (b : Bucket). b.mono) c.index_mut.ensures.value)
    (ap triples_of c.in_ok-push.ensures.items ∙ triples_of-append c.index_mut.result.now.triples.items (c.args.triple ∷ []) ∙ ap (λ (b : Bucket). triples_of b.triples.items ++ (derivative_of c.args.triple.0, c.args.triple.1, c.args.triple.2) ∷ []) c.index_mut.ensures.value)
    c.requires.within c.requires.sorted found
