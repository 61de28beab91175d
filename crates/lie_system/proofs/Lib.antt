pub mod Entries
pub mod LeadNumbers
pub mod KeptEquations
pub mod DerivativesAlone
