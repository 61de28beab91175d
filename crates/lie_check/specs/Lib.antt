pub mod Coefficients
pub mod Actions
pub mod Verdicts
pub mod Laws
