pub mod Causes
pub mod Bulks
pub mod FieldTerms
pub mod Tables
pub mod Generators
pub mod Laws
