use Rattle.std.proofs.Common.{◌≡◌, drop}
use Rattle.lie_file.specs.Leads.{not_zeros}
use Rattle.lie_file.proofs.lead.not_zeros.Given as goal

abbrev pub invariant-loop-count : goal.invariant-loop-count
invariant-loop-count l = not_zeros l.counts ≡ not_zeros (drop l.count-index l.counts)
