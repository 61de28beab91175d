use Rattle.std.proofs.Common.{◌∙◌, ap, map}
use Rattle.lie_jet.specs.Derivatives.{derivative_of}
use Rattle.lie_tables.specs.Places.{places_where}
use Rattle.lie_tables.specs.Tables.{leads_in, lead_eq}
use Rattle.std.specs.List.{list_any}
use Rattle.lie_tables.proofs.TableSteps.{listed, is_listed}
use Rattle.lie_tables.proofs.Keys.{lead_places}
use Rattle.lie_tables.proofs.tables.Tables.with_lead.Goals as goal

pub returns-in-Some : goal.returns-in-Some
returns-in-Some c = λ Es h.
    c.as_slice.ensures.value ∙ ap listed c.in-Some.ensures.value ∙ is_listed _ _ ((h.leads).at c.key_of.result)
    ∙ ap (λ k. places_where (list_any (lead_eq k)) (map leads_in Es)) c.key_of.ensures ∙ lead_places (derivative_of c.args.lead.now) Es

pub returns-in-None : goal.returns-in-None
returns-in-None c = λ Es h.
    ap listed c.in-None.ensures.value ∙ is_listed _ _ ((h.leads).at c.key_of.result)
    ∙ ap (λ k. places_where (list_any (lead_eq k)) (map leads_in Es)) c.key_of.ensures ∙ lead_places (derivative_of c.args.lead.now) Es
