-- The names and the systems as they are written that values of the program are.
use Rattle.std.specs.Prelude.{List, map}
use Rattle.std.specs.Global.{Vec}
use Rattle.lie_lin.specs.Systems.{unknown_of}
use Rattle.lie_print.specs.Printing.{PrintedTerm}
use Rattle.lie_print.specs.PrintedTerms.{printed}
use Rattle.lie_print.specs.declared.printed_term.Term.{Term}
use Rattle.lie_report.specs.Reports.{Named}
use Rattle.lie_readback.specs.declared.drafts.Names.{Names}
use Rattle.lie_readback.specs.declared.drafts.Draft as kept
use Rattle.lie_readback.specs.SystemDrafts.{Draft}

abbrev pub terms_seen : Vec Term → List PrintedTerm
terms_seen ts = map printed ts.items

abbrev pub named_seen : Names → Named
named_seen n = record { space = n.space; names = n.letters.items }

abbrev pub draft_seen : kept.Draft → Draft
draft_seen d = record {
  named = named_seen d.names;
  unknowns = map unknown_of d.unknowns.items;
  general = map terms_seen d.general.items;
  equations = map terms_seen d.equations.items;
}
