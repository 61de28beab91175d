pub mod Columns
pub mod Conditions
pub mod SmallTerms
pub mod Said
pub mod Gathered
pub mod DegreeBases
pub mod Works
pub mod Laws
