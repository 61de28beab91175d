pub mod Leads
pub mod SolvedForms
pub mod Refusals
pub mod Equations
pub mod SolvedRules
pub mod Solved
pub mod Causes
pub mod Laws
