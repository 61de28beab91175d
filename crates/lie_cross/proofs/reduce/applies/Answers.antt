use Rattle.lie_cross.proofs.ReducibleForms.{reducible_behind}
use Rattle.lie_cross.proofs.reduce.applies.Goals as goal

pub returns-else-is_reducible : goal.returns-else-is_reducible
returns-else-is_reducible c =
    reducible_behind c.args.equations.now c.args.place c.index-equations-place.result c.requires c.index-equations-place.is
    c.is_reducible-else-is_reducible.result c.if-is_reducible.ensures c.is_reducible-else-is_reducible.ensures
