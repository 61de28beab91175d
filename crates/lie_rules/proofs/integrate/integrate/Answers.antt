use Rattle.lie_rules.proofs.IntegrationSteps.{number_listed}
use Rattle.lie_rules.proofs.integrate.integrate.Goals as goal

pub unreachable-requires : goal.unreachable-requires
unreachable-requires c = number_listed _ c.args.system.now.system c.args.place c.args.found.now c.system_is_valid.ensures.valid c.requires.is
    c.unknowns.result.now c.unknowns.ensures c.in-None.ensures
