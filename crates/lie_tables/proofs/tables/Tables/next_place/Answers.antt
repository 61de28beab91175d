use Rattle.lie_steps.specs.Equations.{mentions}
use Rattle.lie_tables.proofs.EquationRows.{kept_places}
use Rattle.lie_tables.proofs.NextPlaces.{lesser_stand_first, next_is_first}
use Rattle.lie_tables.proofs.tables.Tables.next_place.Goals as goal

pub first_from-requires : goal.first_from-requires
first_from-requires c =
    lesser_stand_first (mentions c.args.unknown) c.args.from c.args.equations.now c.places.result.now
    (c.places.ensures c.args.equations.now (kept_places c.args.self.now c.args.equations.now c.if-not-self.false c.requires))

pub returns : goal.returns
returns c =
    next_is_first (mentions c.args.unknown) c.args.equations.now c.args.from c.places.result.now c.first_from.result
    (c.places.ensures c.args.equations.now (kept_places c.args.self.now c.args.equations.now c.if-not-self.false c.requires))
    c.first_from.ensures
