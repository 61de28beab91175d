-- The lemmas of this crate.
mod FoundRows
mod KeeperAnswers
mod HonestRows
mod Entering
pub mod RefusedFiles
mod DueReports
mod DueStudies
mod CanonicalReports
mod RepeatedStudies
mod SomeStudyDue
mod ReportBytes
