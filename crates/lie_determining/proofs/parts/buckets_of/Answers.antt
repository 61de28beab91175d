use Rattle.std.proofs.Common.{ℕ, Bool, List, IfOk, subst}
use mathlib.Core.Path.{fun_ext}
use Rattle.lie_math.specs.Counts.{Derivative}
use Rattle.lie_math.specs.Polynomial.{WholePolynomial}
use Rattle.lie_systems.specs.Triples.{triples_in}
use Rattle.lie_parts.specs.Parts.{AreBucketsOf, split_triples}
use Rattle.lie_determining.proofs.parts.buckets_of.Goals as goal

pub returns : goal.returns
returns c =
    subst (λ (x : (ℕ → Bool) × List (Derivative × WholePolynomial)). IfOk c.buckets_of.result (λ buckets. AreBucketsOf (split_triples x.0 (triples_in x.1)) buckets.items))
    (λ i. (fun_ext c.inside_of.ensures i, c.terms.ensures i)) c.buckets_of.ensures
