-- The lemmas that the answers cite.
pub mod SolvedFiles
pub mod FileRefusals
pub mod DueReports
pub mod DueChecks
pub mod DueSymmetries
pub mod DueDegrees
pub mod Outcomes
pub mod SomeDue
