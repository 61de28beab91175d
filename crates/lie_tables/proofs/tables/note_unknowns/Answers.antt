use Rattle.std.proofs.Common.{◌<◌, ◌∙◌, sym, ap, subst, map, take, nat_eq}
use Rattle.std.proofs.lemmas.List.{take_all}
use Rattle.lie_math.specs.Polynomial.{WholePolynomial}
use Rattle.lie_jet.specs.declared.derivative.Der.{Der}
use Rattle.lie_tables.specs.Places.{IsTable, with_keys}
use Rattle.lie_tables.proofs.RowLists.{key_more, set_length}
use Rattle.lie_tables.proofs.Keys.{unknowns_kept, unknowns_more}
use Rattle.lie_tables.proofs.tables.note_unknowns.Goals as goal

pub loop-term-preserved : goal.loop-term-preserved
loop-term-preserved c = λ us h lt.
    let ks = map (λ (t : Der × WholePolynomial). (t.0).unknown) (take c.loop-term.term-index c.terms-terms.result.now) in
    subst (IsTable nat_eq c.note_key.new.table) (key_more us c.args.place ks ((c.term-item.result).0).unknown lt
    ∙ ap (with_keys us c.args.place) (unknowns_more c.terms-terms.result.now c.loop-term.term-index c.term-item.result c.loop-term-test.true
    c.term-item.is))
    (c.in_ok-note_key.ensures.noted (with_keys us c.args.place ks) (c.loop-term.invariant us h lt)
    (subst (λ n. c.args.place < n) (sym (set_length us c.args.place _)) lt))

pub returns-clause-noted : goal.returns-clause-noted
returns-clause-noted c = λ us h lt.
    subst (λ ks. IsTable nat_eq c.loop-term.table (with_keys us c.args.place ks))
    (ap (map (λ (t : Der × WholePolynomial). (t.0).unknown)) (take_all c.loop-term.term-index c.terms-terms.result.now c.loop-term-test.false)
    ∙ unknowns_kept c.terms-terms.result.now c.args.eq.now c.terms-terms.ensures.list)
    (c.loop-term.invariant us h lt)
