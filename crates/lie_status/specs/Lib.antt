-- The definitions that the contracts cite: what a status tells, its code and its line.
pub mod Status
pub mod Outcomes
