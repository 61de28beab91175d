use Rattle.std.proofs.Common.{map, arith}
use Rattle.lie_lin.specs.Systems.{unknown_of}
use Rattle.lie_normal.proofs.LeadOrder.{every_taken}
use Rattle.lie_cross.proofs.DependentUnknowns.{IsNot, some_term, no_term, is_not}
use Rattle.lie_cross.proofs.dependence.some_is.Goals as goal

pub returns-then-depends-yes : goal.returns-then-depends-yes
returns-then-depends-yes c =
    some_term
    (map unknown_of c.args.unknowns.now) c.args.var c.args.yes c.args.form.now c.terms-term-items.result.now
    c.terms-term-items.ensures.list
    c.loop-term.term-index c.term-item.result c.depends.result c.loop-term-test.true c.term-item.is c.depends.ensures c.if-depends-yes.true

pub loop-term-preserved : goal.loop-term-preserved
loop-term-preserved c =
    every_taken
    (IsNot (map unknown_of c.args.unknowns.now) c.args.var c.args.yes) c.terms-term-items.result.now c.loop-term.term-index
    c.term-item.result
    c.loop-term-test.true c.term-item.is c.loop-term.invariant
    (is_not (map unknown_of c.args.unknowns.now) c.args.var c.args.yes c.term-item.result c.depends.result c.depends.ensures
    c.if-depends-yes.false)

pub returns : goal.returns
returns c =
    no_term (map unknown_of c.args.unknowns.now) c.args.var c.args.yes c.args.form.now c.terms-term-items.result.now
    c.terms-term-items.ensures.list
    c.loop-term.term-index (omega (arith, c.loop-term-test.false)) c.loop-term.invariant
