pub mod Bulks
pub mod FieldBounds
