-- The definitions that the contracts cite. Each command has a file of its own.
pub mod Commands
pub mod Outcomes
pub mod Causes
pub mod SolvedFile
pub mod Determine
pub mod Checking
pub mod Analyse
pub mod Degree
pub mod Work
pub mod Laws
