-- The lemmas of this crate.
mod Leaves
mod Replying
mod Many
mod Entries
mod Headline
pub mod OpenFaults
