use Rattle.std.proofs.Common.{rules, ◌≡◌}
use Rattle.std.proofs.lemmas.Fn.{always_returns_same}
use Rattle.lie_math.specs.Monomial.{monomial_cmp}
use Rattle.lie_parts.specs.declared.buckets.Bucket.{Bucket}
use Rattle.lie_parts.proofs.BucketPlaces.{searched}
use Rattle.lie_parts.proofs.buckets.place_of.Goals as goal

pub returns : goal.returns
returns c =
    searched c.args.mono.now c.args.buckets.now c.binary_search_by.result c.requires c.binary_search_by.ensures.bound
    (c.binary_search_by.ensures.position (λ (b : Bucket). monomial_cmp b.mono c.args.mono.now)
    (always_returns_same _ (λ a r. r ≡ monomial_cmp a.0.now.mono c.args.mono.now) _ (λ a r f' k. search rules)))
