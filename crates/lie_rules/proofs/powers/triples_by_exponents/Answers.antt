use Rattle.std.proofs.Common.{◌∙◌, [], add-one, ap, length, replicate, suc, sym, take}
use Rattle.lie_lin.specs.Forms.{triples_of}
use Rattle.lie_rules.specs.Powers.{by_exponents}
use Rattle.lie_rules.proofs.PowerGroups.{exponent_fits, length-by, length-groups, no_triples, triples_more}
use Rattle.lie_rules.proofs.powers.triples_by_exponents.Goals as goal

pub loop-triple-init : goal.loop-triple-init
loop-triple-init c =
    c.in_ok-groups.ensures ∙ ap (λ n. replicate n []) (add-one c.in_ok-degree.degree)
    ∙ sym (no_triples c.args.var 0 (suc c.in_ok-degree.degree))

pub put_triple-requires : goal.put_triple-requires
put_triple-requires c =
    exponent_fits c.args.var c.args.eq.now c.as_slice-triple-items.result.now c.loop-triple.triple-index c.triple-item.result
    c.in_ok-degree.degree (length c.loop-triple.groups.items)
    (ap triples_of c.as_slice-triple-items.ensures.value ∙ c.in_ok-list.ensures) c.loop-triple-test.true c.triple-item.is
    c.in_ok-degree.ensures
    (sym (length-groups c.loop-triple.groups.items) ∙ ap length c.loop-triple.invariant
    ∙ length-by c.args.var 0 (suc c.in_ok-degree.degree) _)

pub loop-triple-preserved : goal.loop-triple-preserved
loop-triple-preserved c =
    c.in_ok-put_triple.ensures (triples_of (take c.loop-triple.triple-index c.as_slice-triple-items.result.now))
    (suc c.in_ok-degree.degree) c.loop-triple.invariant
    ∙ ap (by_exponents c.args.var 0 (suc c.in_ok-degree.degree))
    (triples_more c.as_slice-triple-items.result.now c.loop-triple.triple-index c.triple-item.result c.loop-triple-test.true
    c.triple-item.is)
