use Rattle.std.proofs.Common.{subst}
use Rattle.std.proofs.lemmas.Result.{on_ok_weaker}
use Rattle.lie_tables.specs.Places.{IsTable, with_keys}
use Rattle.lie_tables.specs.Tables.{lead_eq}
use Rattle.lie_tables.proofs.Keys.{lead_first}
use Rattle.lie_tables.proofs.tables.note_lead.Goals as goal

pub returns-in-len1-up-clause-noted : goal.returns-in-len1-up-clause-noted
returns-in-len1-up-clause-noted c =
    on_ok_weaker c.note_key.result (λ noted ls h lt.
    subst (λ ks. IsTable lead_eq c.note_key.new.table (with_keys ls c.args.place ks))
    (lead_first c.terms.result.now c.args.eq.now c.term-item.result c.key_of.result c.terms.ensures.list c.in-len1-up.len_at_least c.term-item.is
    c.key_of.ensures) (noted ls h lt)) c.note_key.ensures.noted
