pub mod Places
pub mod Searches
pub mod StepRuns
pub mod Pairs
