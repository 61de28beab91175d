-- The lemmas that the answers cite.
pub mod Rules
pub mod Rows
pub mod Dashes
pub mod Walks
pub mod Turns
pub mod Readings
pub mod Commands
pub mod Numbers
pub mod StudyNames
pub mod Outcomes
pub mod StudiesOnFiles
pub mod Samples
mod Services
pub mod SomeDue
