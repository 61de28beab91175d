use Rattle.std.proofs.Common.{take}
use Rattle.std.specs.List.{Any}
use Rattle.lie_systems.specs.Triples.{sum_of_triples}
use Rattle.lie_lin.specs.Forms.{triples_of}
use Rattle.lie_parts.specs.declared.buckets.Bucket.{Bucket}
use Rattle.lie_lin.specs.EquationLists.{Adds, IsEquationOf}
use Rattle.lie_determining.proofs.equations.put_parts.Given as goal

abbrev pub invariant-loop-bucket : goal.invariant-loop-bucket
invariant-loop-bucket l = Adds (λ e. Any (λ (b : Bucket). IsEquationOf (sum_of_triples (triples_of b.triples.items)) e) (take l.bucket-index l.buckets)) l.fn.equations.items l.equations.items
