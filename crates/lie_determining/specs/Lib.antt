pub mod AppliedForms
pub mod Conditions
pub mod Equations
pub mod Openings
pub mod SymbolicBulks
pub mod Laws
