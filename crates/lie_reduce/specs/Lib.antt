pub mod Applications
pub mod Bulks
pub mod ReducedTerms
pub mod Reductions
pub mod SolvedRule
pub mod Occurrences
pub mod Kinds
