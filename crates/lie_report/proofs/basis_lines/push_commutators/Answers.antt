use Rattle.std.specs.Prelude.{length, map, ◌++◌}
use Rattle.std.proofs.Common.{sym, ap, ◌∙◌}
use Rattle.std.proofs.lemmas.List.{length-map}
use Rattle.lie_report.specs.Reports.{entry_of}
use Rattle.lie_report.specs.SystemLines.{ended}
use Rattle.lie_report.specs.BasisLines.{commutators_line, commutator_lines_from}
use Rattle.lie_report.proofs.Lines.{line_first}
use Rattle.lie_report.proofs.basis_lines.push_commutators.Goals as goal

pub returns : goal.returns
returns c =
    line_first (commutators_line (length (map entry_of c.args.entries.now))) (commutator_lines_from c.args.count (1, 2) (map entry_of c.args.entries.now)) c.args.text.now.items c.push_count.new.text.items _
    (c.in_ok-push_count.ensures ∙ ap (λ n. c.args.text.now.items ++ ended (commutators_line n)) (sym (length-map c.args.entries.now entry_of))) c.in_ok-push_entries.ensures
