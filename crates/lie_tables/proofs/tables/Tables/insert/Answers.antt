use Rattle.std.proofs.Common.{◌≡◌, true, nat_eq, map, rules}
use Rattle.lie_tables.specs.Tables.{unknowns_in, leads_in, lead_eq}
use Rattle.lie_tables.proofs.EquationRows.{index_of_places, kept_places, opened_few, opened_within, partly_within, row_dropped}
use Rattle.lie_tables.proofs.tables.Tables.insert.Goals as goal

pub returns-in-Ok-clause-put : goal.returns-in-Ok-clause-put
returns-in-Ok-clause-put c = λ Es h le lt.
    let i = c.args.place in
    let k : c.args.self.now.kept ≡ true = search (rules, c.if-not-self.false) in
    let p = kept_places c.args.self.now Es k h in (
      c.note.ensures.kept,
      index_of_places _ _ (c.in-Ok.ensures.noted Es (record {
        unknowns = c.open_row.ensures (map unknowns_in Es) p.unknowns (opened_within unknowns_in Es i le) (opened_few unknowns_in Es lt);
        leads = c.open_row-2.ensures (map leads_in Es) p.leads (opened_within leads_in Es i le) (opened_few leads_in Es lt);
      }) le),
    )

pub returns-in-Err-clause-kept : goal.returns-in-Err-clause-kept
returns-in-Err-clause-kept c = λ Es h le lt.
    let i = c.args.place in
    let k : c.args.self.now.kept ≡ true = search (rules, c.if-not-self.false) in
    let p = kept_places c.args.self.now Es k h in
    let n = c.in-Err.ensures.part Es (record {
      unknowns = c.open_row.ensures (map unknowns_in Es) p.unknowns (opened_within unknowns_in Es i le) (opened_few unknowns_in Es lt);
      leads = c.open_row-2.ensures (map leads_in Es) p.leads (opened_within leads_in Es i le) (opened_few leads_in Es lt);
    }) le in (
      c.note.ensures.kept,
      index_of_places _ _ (record {
        unknowns = row_dropped nat_eq c.close_row.new.table unknowns_in Es i n.0 le
            (c.close_row.ensures _ (n.2).unknowns (partly_within unknowns_in Es i n.0 le));
        leads = row_dropped lead_eq c.close_row-in-Err.new.table leads_in Es i n.1 le
            (c.close_row-in-Err.ensures _ (n.2).leads (partly_within leads_in Es i n.1 le));
      }),
    )
