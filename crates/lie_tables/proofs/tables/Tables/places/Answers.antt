use Rattle.std.proofs.Common.{◌∙◌, ap}
use Rattle.lie_tables.proofs.TableSteps.{listed, is_listed}
use Rattle.lie_tables.proofs.Keys.{unknown_places}
use Rattle.lie_tables.proofs.tables.Tables.places.Goals as goal

pub returns-in-Some : goal.returns-in-Some
returns-in-Some c = λ Es h.
    c.as_slice.ensures.value ∙ ap listed c.in-Some.ensures.value ∙ is_listed _ _ ((h.unknowns).at c.args.unknown) ∙ unknown_places c.args.unknown Es

pub returns-in-None : goal.returns-in-None
returns-in-None c = λ Es h.
    ap listed c.in-None.ensures.value ∙ is_listed _ _ ((h.unknowns).at c.args.unknown) ∙ unknown_places c.args.unknown Es
