pub mod Printing
pub mod PrintedTerms
