use Rattle.lie_integral.proofs.LowestFractions.{whole_lowest}
use Rattle.lie_integral.proofs.fractions.whole_fraction.Goals as goal

pub returns : goal.returns
returns c = whole_lowest c.args.number c.one.result c.one.ensures
