use Rattle.std.proofs.Common.{[], sym, subst, map, nat_eq}
use Rattle.std.specs.List.{insert}
use Rattle.std.proofs.lemmas.Result.{on_ok_weaker, on_err_weaker}
use Rattle.lie_tables.specs.Places.{IsTable}
use Rattle.lie_tables.specs.Tables.{unknowns_in, leads_in, lead_eq}
use Rattle.lie_tables.proofs.RowLists.{no_keys}
use Rattle.lie_tables.proofs.EquationRows.{noted_row, opened_place}
use Rattle.lie_tables.proofs.tables.Tables.note.Goals as goal

pub returns-in-Err-clause-part : goal.returns-in-Err-clause-part
returns-in-Err-clause-part c = λ Es o le.
    let i = c.args.place in
    let p = c.in-Err.ensures.part (insert (map unknowns_in Es) i []) o.unknowns (opened_place unknowns_in Es i le) in (
      p.0,
      [],
      record {
        unknowns = p.1;
        leads = subst (IsTable lead_eq c.args.self.now.by_lead) (sym (no_keys (insert (map leads_in Es) i []) i)) o.leads;
      },
    )

pub returns-in-Ok-clause-noted : goal.returns-in-Ok-clause-noted
returns-in-Ok-clause-noted c =
    on_ok_weaker c.note_lead.result (λ noted Es o le.
    let i = c.args.place in
    record {
      unknowns = noted_row nat_eq c.note_unknowns.new.table unknowns_in Es i c.args.eq.now le
          (c.in-Ok.ensures.noted (insert (map unknowns_in Es) i []) o.unknowns (opened_place unknowns_in Es i le));
      leads = noted_row lead_eq c.note_lead.new.table leads_in Es i c.args.eq.now le
          (noted (insert (map leads_in Es) i []) o.leads (opened_place leads_in Es i le));
    }) c.note_lead.ensures.noted

pub returns-in-Ok-clause-part : goal.returns-in-Ok-clause-part
returns-in-Ok-clause-part c =
    on_err_weaker c.note_lead.result (λ kept Es o le.
    let i = c.args.place in (
      unknowns_in c.args.eq.now,
      [],
      record {
        unknowns = c.in-Ok.ensures.noted (insert (map unknowns_in Es) i []) o.unknowns (opened_place unknowns_in Es i le);
        leads = subst (IsTable lead_eq c.note_lead.new.table) (sym (no_keys (insert (map leads_in Es) i []) i))
            (kept (insert (map leads_in Es) i []) o.leads);
      },
    )) c.note_lead.ensures.kept
