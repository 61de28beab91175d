pub mod Bulk
pub mod Sorted
pub mod Tallies
pub mod Failures
pub mod Words
pub mod Packed
