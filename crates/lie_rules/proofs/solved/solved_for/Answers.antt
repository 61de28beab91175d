use Rattle.std.proofs.Common.{map, sym, subst}
use Rattle.lie_jet.specs.Derivatives.{derivative_of}
use Rattle.lie_lin.specs.Systems.{unknown_of}
use Rattle.lie_rules.specs.Solutions.{IsFormIn}
use Rattle.lie_rules.proofs.SolvedSteps.{rest_in}
use Rattle.lie_rules.proofs.solved.solved_for.Goals as goal

pub is_within-requires : goal.is_within-requires
is_within-requires c = subst (IsFormIn (map unknown_of c.args.unknowns.now)) (sym c.in_ok-rest-in-Some.ensures)
    (rest_in (map unknown_of c.args.unknowns.now) (derivative_of c.args.term.now.0) c.args.eq.now c.requires.form)
