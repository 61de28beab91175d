use Rattle.std.proofs.Common.{◌∙◌, ap, subst, refl, cond, Some}
use Rattle.std.proofs.lemmas.Result.{on_ok_weaker}
use Rattle.std.specs.Option.{IsSome}
use Rattle.indexmap.specs.IndexMap.{get}
use Rattle.lie_tables.specs.Places.{placed}
use Rattle.lie_tables.proofs.TableSteps.{listed, noted}
use Rattle.lie_tables.proofs.rows.note_key.Goals as goal

pub returns-in-Some-clause-noted : goal.returns-in-Some-clause-noted
returns-in-Some-clause-noted g c =
    on_ok_weaker c.put_place.result (λ is rows t lt.
    noted g.met.K.Eq.laws c.args.table.now (c.get_mut.follows.lender c.put_place.new.list) c.args.key c.args.place c.put_place.new.list
    ((c.get_mut.follows.holds c.put_place.new.list).3 (subst IsSome c.in-Some.ensures.value refl)).0 rows t lt
    (is ∙ ap (λ o. placed c.args.place (listed o)) c.in-Some.ensures.value)) c.put_place.ensures.put

pub returns-clause-noted : goal.returns-clause-noted
returns-clause-noted g c = λ rows t lt.
    noted g.met.K.Eq.laws c.args.table.now c.insert.new.self c.args.key c.args.place c.put_place-2.new.list
    (λ q. (c.in_ok-insert.ensures.updates).0 q
    ∙ ap (λ m. cond (g.K.PartialEq.eq c.args.key q) (Some c.put_place-2.new.list) (get g.K.PartialEq.eq m q)) c.get_mut.follows.holds-at-none) rows t lt
    (c.in_ok-put_place.ensures.put ∙ ap (placed c.args.place) c.new-list.ensures.items ∙ ap (λ o. placed c.args.place (listed o)) c.in_default.ensures.value)
