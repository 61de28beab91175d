use Rattle.std.proofs.Common.{rules, arith, is_gt, true, false, ◌≡◌}
use Rattle.std.specs.List.Sorted.{IsPartitionPoint}
use Rattle.std.proofs.lemmas.List.Sorted.{IsPartitionPoint-from_clause}
use Rattle.lie_math.specs.Counts.{derivative_cmp}
use Rattle.lie_math.specs.Polynomial.{WholePolynomial}
use Rattle.lie_jet.specs.Derivatives.{derivative_of}
use Rattle.lie_jet.specs.declared.derivative.Der.{Der}
use Rattle.lie_form.proofs.DerivativeLists.{goes_to_point, stops_at_point, lesser_stand_first}
use Rattle.lie_form.proofs.form.place_of.Goals as goal

point : (c : goal.After-partition_point) → IsPartitionPoint
    (λ (t : Der × WholePolynomial). is_gt (derivative_cmp (derivative_of c.args.der.now) (derivative_of t.0)) ≡ true)
    (λ (t : Der × WholePolynomial). is_gt (derivative_cmp (derivative_of c.args.der.now) (derivative_of t.0)) ≡ false)
    c.args.terms.now c.partition_point.result
point c =
    IsPartitionPoint-from_clause (λ (t : Der × WholePolynomial). is_gt (derivative_cmp (derivative_of c.args.der.now) (derivative_of t.0)))
    c.args.terms.now c.partition_point.result c.partition_point.ensures.partitioned
    (lesser_stand_first (derivative_of c.args.der.now) c.args.terms.now c.requires) (λ a r f' k. search rules)

pub returns-clause-before : goal.returns-clause-before
returns-clause-before c = λ a.
    goes_to_point (derivative_of c.args.der.now) a c.args.terms.now c.partition_point.result c.partition_point.ensures.bound
    (λ k t lt. (point c).0 k t (omega arith) lt)

pub returns-clause-stop : goal.returns-clause-stop
returns-clause-stop c = stops_at_point (derivative_of c.args.der.now) c.args.terms.now c.partition_point.result (point c).1
