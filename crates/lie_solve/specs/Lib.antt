pub mod RuleNames
pub mod Places
pub mod Partners
pub mod Attempts
pub mod Runs
