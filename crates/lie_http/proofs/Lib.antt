-- The lemmas of this crate.
pub mod Fields
pub mod Heads
pub mod Steps
pub mod Agreement
pub mod Writing
pub mod Walk
pub mod Paths
pub mod NamesJson
