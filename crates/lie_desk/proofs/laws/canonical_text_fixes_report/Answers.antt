-- The canonical text is the file of the system with its leads, which has the same solved form.
use Rattle.lie_desk.proofs.CanonicalReports.{text_fixes_report}
use Rattle.lie_desk.proofs.laws.canonical_text_fixes_report.Goals as goal

pub returns : goal.returns
returns c = text_fixes_report c.canonical_texts_are_files.ensures c.leads_keep_solved_form.ensures
