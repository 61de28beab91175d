use Rattle.lie_canonical.proofs.RightSideLists.{printable_at}
use Rattle.lie_canonical.proofs.canonical_text.push_equations.Goals as goal

pub push_equation-requires : goal.push_equation-requires
push_equation-requires c = printable_at c.args.printer.now.space c.args.equations.now c.loop-equation.equation-index c.equation-item.result c.loop-equation-test.true c.equation-item.is c.requires
