use Rattle.std.proofs.Common.{refl, nat_eq, map}
use Rattle.lie_tables.specs.Tables.{unknowns_in, leads_in, lead_eq}
use Rattle.lie_tables.proofs.EquationRows.{index_of_places, kept_places, place_mapped, row_removed}
use Rattle.lie_tables.proofs.tables.Tables.remove.Goals as goal

pub returns-then-self : goal.returns-then-self
returns-then-self c = λ Es h lt.
    let i = c.args.place in
    let p = kept_places c.args.self.now Es c.if-self.true h in (
      refl,
      index_of_places _ _ (record {
        unknowns = row_removed nat_eq c.close_row.new.table unknowns_in Es i
            (c.close_row.ensures (map unknowns_in Es) p.unknowns (place_mapped unknowns_in Es i lt));
        leads = row_removed lead_eq c.close_row-then-self.new.table leads_in Es i
            (c.close_row-then-self.ensures (map leads_in Es) p.leads (place_mapped leads_in Es i lt));
      }),
    )
