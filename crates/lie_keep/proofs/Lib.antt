-- The lemmas of this crate.
mod Windows
