use Rattle.std.proofs.Common.{sym, ap, subst, refl, ◌∙◌, ◌++◌, ◌∷◌, [], List}
use Rattle.lie_jet.specs.Derivatives.{derivative_of}
use Rattle.lie_lin.specs.Forms.{triples_of}
use Rattle.lie_parts.specs.declared.buckets.Bucket.{Bucket}
use Rattle.lie_parts.specs.Parts.{HaveMore}
use Rattle.lie_parts.proofs.BucketSteps.{more_inserted}
use Rattle.lie_parts.proofs.buckets.insert_at.Goals as goal

pub returns : goal.returns
returns c =
    subst (λ (bs : List Bucket). HaveMore ((c.args.mono, (derivative_of c.args.triple.0, c.args.triple.1, c.args.triple.2)) ∷ []) c.args.buckets.now.items bs) (sym c.in_ok-insert.ensures.items)
    (more_inserted c.args.mono (derivative_of c.args.triple.0, c.args.triple.1, c.args.triple.2) c.args.buckets.now.items c.args.place (record { mono = c.args.mono; triples = c.push.new.self }) refl
    (ap triples_of (c.in_ok-push.ensures.items ∙ ap (λ ts. ts ++ c.args.triple ∷ []) c.new-triples.ensures.items))
    c.requires.sorted c.requires.place)
