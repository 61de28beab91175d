use Rattle.std.proofs.Common.{arith}
use Rattle.std.proofs.lemmas.Result.{err_from_is_err_and}
use Rattle.lie_degree.proofs.SaidSums.{say_start, say_next, say_end, part_cause, add_cause}
use Rattle.lie_degree.proofs.equations.said_by_terms.Goals as goal

pub loop-term-init : goal.loop-term-init
loop-term-init c = say_start c.args.column.now c.requires c.args.terms.now c.zero-sum.result c.zero-sum.ensures

pub loop-term-preserved : goal.loop-term-preserved
loop-term-preserved c =
    say_next c.args.column.now c.requires c.args.terms.now c.loop-term.term-index c.loop-term.sum c.loop-term.invariant
    c.term-item.result (omega arith) c.term-item.is c.in_ok-part.part
    c.in_ok-part.ensures.value c.in_ok-sum.sum c.in_ok-sum.ensures.sum

pub returns-in_err-part-clause-past : goal.returns-in_err-part-clause-past
returns-in_err-part-clause-past c =
    let p = err_from_is_err_and c.from_residual.result c.from_residual.ensures.1 in
    rw (p.1, p.2) (part_cause c.args.column.now c.requires c.args.terms.now c.loop-term.term-index c.loop-term.sum c.loop-term.invariant
    c.term-item.result (omega arith) c.term-item.is
    c.in_err-part.field-0.0 c.in_err-part.ensures.past)

pub returns-in_err-sum-clause-past : goal.returns-in_err-sum-clause-past
returns-in_err-sum-clause-past c =
    let p = err_from_is_err_and c.from_residual-in_err-sum.result c.from_residual-in_err-sum.ensures.1 in
    rw (p.1, p.2) (add_cause c.args.column.now c.requires c.args.terms.now c.loop-term.term-index c.loop-term.sum c.loop-term.invariant
    c.term-item.result (omega arith) c.term-item.is
    c.in_ok-part.part c.in_ok-part.ensures.value c.in_err-sum.field-0.0 c.in_err-sum.ensures.past)

pub returns-clause-value : goal.returns-clause-value
returns-clause-value c =
    say_end c.args.column.now c.requires c.args.terms.now c.loop-term.term-index c.loop-term.sum c.loop-term.invariant (omega arith)
