-- The definitions that the contracts cite: what an answer says, and what a count shows.
pub mod Causes
pub mod Files
pub mod Sink
pub mod Names
pub mod Rows
pub mod Keeper
pub mod Plans
pub mod Memory
pub mod Link
pub mod MemoryLink
pub mod HostLink
