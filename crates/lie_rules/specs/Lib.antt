pub mod Powers
pub mod LowestTerms
pub mod Solutions
pub mod IntegrableForms
