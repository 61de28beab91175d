use Rattle.lie_jet.specs.Derivatives.{derivative_of}
use Rattle.lie_solve.proofs.Pairs.{partner_by_lead, no_partner}
use Rattle.lie_solve.proofs.searching.next_partner.Goals as goal

pub returns-in-Some : goal.returns-in-Some
returns-in-Some c =
    partner_by_lead c.args.system.now.system c.args.first c.equations-equations.result.now c.index-equations-first.result
    c.equations-equations.ensures c.requires.place c.index-equations-first.is (derivative_of c.in-Some.lead) c.in-Some.ensures
    c.args.from c.next_place.result c.next_place.ensures

pub returns-in-None : goal.returns-in-None
returns-in-None c =
    no_partner c.args.system.now.system c.args.first c.equations-equations.result.now c.index-equations-first.result
    c.equations-equations.ensures c.requires.place c.index-equations-first.is c.in-None.ensures c.args.from
