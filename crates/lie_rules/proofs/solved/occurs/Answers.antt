use Rattle.std.proofs.Common.{◌∙◌, ap, map, sym, subst, true≢false}
use Rattle.std.specs.List.{AllByRecursion as Every}
use Rattle.lie_math.specs.Monomial.{exponent}
use Rattle.lie_lin.specs.Forms.{triples_of}
use Rattle.lie_lin.specs.Systems.{unknown_of}
use Rattle.lie_ring.proofs.Fronts.{all_taken}
use Rattle.lie_rules.proofs.SolvedSteps.{TripleLacks, lacks_triples, lacks_of_triples, triples_every, triples_more}
use Rattle.lie_rules.proofs.solved.occurs.Goals as goal

pub returns-then-exponent-ne0 : goal.returns-then-exponent-ne0
returns-then-exponent-ne0 c E e = λ h.
    c.if-exponent-ne0.true (c.exponent.ensures ∙ ap (exponent c.triple-item.result.1) c.from.ensures
    ∙ (triples_every (TripleLacks (map unknown_of c.args.unknowns.now) c.args.var) c.args.list.now c.loop-triple.triple-index
    c.triple-item.result c.loop-triple-test.true c.triple-item.is
    (subst (Every (TripleLacks (map unknown_of c.args.unknowns.now) c.args.var)) (sym e)
    (lacks_triples (map unknown_of c.args.unknowns.now) c.args.var E h))).1)

pub returns-then-depends : goal.returns-then-depends
returns-then-depends c E e = λ h.
    true≢false (sym c.if-depends.true ∙ c.depends.ensures
    ∙ (triples_every (TripleLacks (map unknown_of c.args.unknowns.now) c.args.var) c.args.list.now c.loop-triple.triple-index
    c.triple-item.result c.loop-triple-test.true c.triple-item.is
    (subst (Every (TripleLacks (map unknown_of c.args.unknowns.now) c.args.var)) (sym e)
    (lacks_triples (map unknown_of c.args.unknowns.now) c.args.var E h))).0)

pub loop-triple-preserved : goal.loop-triple-preserved
loop-triple-preserved c =
    triples_more (TripleLacks (map unknown_of c.args.unknowns.now) c.args.var) c.args.list.now c.loop-triple.triple-index
    c.triple-item.result c.loop-triple-test.true c.triple-item.is c.loop-triple.invariant (
      sym c.depends.ensures ∙ c.if-depends.false,
      sym (c.exponent.ensures ∙ ap (exponent c.triple-item.result.1) c.from.ensures)
          ∙ c.if-exponent-ne0.false,
    )

pub returns : goal.returns
returns c E e =
    lacks_of_triples (map unknown_of c.args.unknowns.now) c.args.var E
    (subst (Every (TripleLacks (map unknown_of c.args.unknowns.now) c.args.var))
    (ap triples_of (all_taken c.args.list.now c.loop-triple.triple-index c.loop-triple-test.false) ∙ e) c.loop-triple.invariant)
