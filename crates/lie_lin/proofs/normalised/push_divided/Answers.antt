use Rattle.lie_lin.proofs.DividedForms.{term_back}
use Rattle.lie_lin.proofs.normalised.push_divided.Goals as goal

pub returns : goal.returns
returns c =
    term_back c.args.mono.now c.args.number c.args.out.now.items c.push.new.self.items c.args.term.now c.in_ok-rest.rest c.exact_quotient.result c.in_ok-push.ensures.items c.in_ok-rest.ensures c.exact_quotient.ensures
    c.requires.divides.1
