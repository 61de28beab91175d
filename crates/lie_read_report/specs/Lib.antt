-- Reading reports back from their texts.
pub mod Combinations
pub mod ReportDrafts
pub mod Views
pub mod FieldTerms
pub mod WellFormed
pub mod ReadReports
