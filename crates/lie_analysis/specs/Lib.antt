pub mod Limits
pub mod Symmetries
pub mod Analyses
pub mod Works
pub mod Answers
pub mod Laws
