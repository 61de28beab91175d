pub mod Absolutes
pub mod Causes
pub mod Coefficients
pub mod Multiples
pub mod Recursion
pub mod FieldBounds
pub mod FieldNumbers
