-- Reports that can be read back.
pub mod Readings
pub mod Factors
pub mod Sums
pub mod SystemDrafts
pub mod DraftViews
pub mod Groups
pub mod WellFormed
