use Rattle.std.proofs.Common.{ap}
use Rattle.std.specs.Prelude.{option_map}
use Rattle.lie_jet.specs.Jets.{coordinate_of}
use Rattle.lie_system.specs.Equations.{equation_read}
use Rattle.lie_solved.proofs.Leading.{variables_low, none_is, lead_greatest, lead_given}
use Rattle.lie_solved.proofs.lead.lead_of.Goals as goal

pub greatest_of-requires : goal.greatest_of-requires
greatest_of-requires c =
    variables_low c.args.space (equation_read c.args.space c.args.equation.now) c.requires.written c.space_is_small.ensures c.args.terms.now c.requires.terms

pub returns-in-None : goal.returns-in-None
returns-in-None c = none_is c.args.space c.args.equation.now.diff c.args.terms.now c.requires.terms c.in-None.ensures

pub returns-in-Some-lead : goal.returns-in-Some-lead
returns-in-Some-lead c =
    lead_given c.args.space c.in-Some.ensures.jet.space (equation_read c.args.space c.args.equation.now) c.requires.written c.args.terms.now c.requires.terms c.in-Some.greatest c.in-Some.ensures
    c.within.result (coordinate_of c.args.space c.in-Some-lead.jet) (ap (option_map (coordinate_of c.args.space)) c.in-Some-lead.is) c.within.ensures.jet c.within.ensures.same

pub returns-in-None-lead : goal.returns-in-None-lead
returns-in-None-lead c =
    lead_greatest c.args.space c.in-Some.ensures.jet.space (equation_read c.args.space c.args.equation.now) c.requires.written c.args.terms.now c.requires.terms c.in-Some.greatest c.in-Some.ensures
    (ap (option_map (coordinate_of c.args.space)) c.in-None-lead.is)
