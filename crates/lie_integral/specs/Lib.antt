pub mod Fractions
pub mod Integrals
