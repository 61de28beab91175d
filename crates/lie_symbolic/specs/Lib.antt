pub mod SymbolicBulks
pub mod SymbolicCoefficients
