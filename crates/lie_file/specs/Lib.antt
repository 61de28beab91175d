pub mod FileGrammar
pub mod Leads
pub mod Places
pub mod FileLines
pub mod Files
pub mod Reading
pub mod FileFaults
