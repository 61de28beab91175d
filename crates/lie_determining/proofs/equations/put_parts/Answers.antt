use Rattle.std.proofs.Common.{arith, subst, List}
use Rattle.std.specs.Prelude.{ℤ}
use Rattle.lie_math.specs.Monomial.{Monomial}
use Rattle.lie_jet.specs.declared.derivative.Der.{Der}
use Rattle.lie_systems.specs.Triples.{sum_of_triples}
use Rattle.lie_lin.specs.Forms.{triples_of}
use Rattle.lie_parts.specs.declared.buckets.Bucket.{Bucket}
use Rattle.lie_lin.specs.EquationLists.{Adds, IsEquationOf}
use Rattle.lie_lin.proofs.AddedEquations.{adds_more, adds_none, adds_all}
use Rattle.lie_determining.proofs.equations.put_parts.Goals as goal

pub loop-bucket-init : goal.loop-bucket-init
loop-bucket-init c = adds_none (λ (b : Bucket) e. IsEquationOf (sum_of_triples (triples_of b.triples.items)) e) c.args.equations.now.items c.requires.sorted

pub loop-bucket-preserved : goal.loop-bucket-preserved
loop-bucket-preserved c =
    adds_more (λ (b : Bucket) e. IsEquationOf (sum_of_triples (triples_of b.triples.items)) e) c.args.buckets.now c.loop-bucket.bucket-index c.bucket-item.result c.args.equations.now.items c.loop-bucket.equations.items c.put_part.new.equations.items
    c.loop-bucket-test.true c.bucket-item.is c.loop-bucket.invariant
    (subst (λ (ts : List (Der × Monomial × ℤ)). Adds (IsEquationOf (sum_of_triples (triples_of ts))) c.loop-bucket.equations.items c.put_part.new.equations.items) c.as_slice.ensures.value c.in_ok-put_part.ensures)

pub returns : goal.returns
returns c =
    adds_all (λ (b : Bucket) e. IsEquationOf (sum_of_triples (triples_of b.triples.items)) e) c.args.buckets.now c.loop-bucket.bucket-index c.args.equations.now.items c.loop-bucket.equations.items (omega (arith, c.loop-bucket-test.false)) c.loop-bucket.invariant
