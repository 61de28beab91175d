use Rattle.std.proofs.Common.{refl, rules}
use Rattle.std.specs.List.{list_any}
use Rattle.lie_tables.specs.Places.{closed}
use Rattle.lie_tables.proofs.PlaceLists.{closed_remove}
use Rattle.lie_tables.proofs.TableSteps.{retained}
use Rattle.lie_tables.proofs.rows.close_row.Goals as goal

pub returns : goal.returns
returns g c = λ rows h lt.
    retained g.met.K.Eq.laws c.args.table.now c.retain.new.self _ (closed c.args.place) _ (λ k v b w f' t. search rules) refl c.len.ensures.unique
    c.retain.ensures.filtered rows _ h (λ k. closed_remove (list_any (g.K.PartialEq.eq k)) rows c.args.place lt)
