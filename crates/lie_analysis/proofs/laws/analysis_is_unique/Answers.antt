use Rattle.lie_analysis.proofs.OneAnalysis.{analysis_is_unique}
use Rattle.lie_analysis.proofs.laws.analysis_is_unique.Goals as goal

pub returns : goal.returns
returns c =
    analysis_is_unique c.opening_is_unique.ensures c.opening_is_valid.ensures c.run_ends_once.ensures c.system_basis_is_unique.ensures
    c.table_is_unique.ensures
