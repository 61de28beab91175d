use Rattle.std.proofs.Common.{refl, rules, []}
use Rattle.std.specs.List.{list_any}
use Rattle.lie_tables.specs.Places.{opened}
use Rattle.lie_tables.proofs.PlaceLists.{opened_insert}
use Rattle.lie_tables.proofs.TableSteps.{retained}
use Rattle.lie_tables.proofs.rows.open_row.Goals as goal

pub returns : goal.returns
returns g c = λ rows h le lt.
    retained g.met.K.Eq.laws c.args.table.now c.retain.new.self _ (opened c.args.place) _ (λ k v b w f' t. search rules) refl c.len.ensures.unique
    c.retain.ensures.filtered rows _ h (λ k. opened_insert (list_any (g.K.PartialEq.eq k)) [] rows c.args.place refl le lt)
