pub mod SymbolicLimits
pub mod SymbolicMultiples
pub mod SymbolicSteps
pub mod SymbolicWithin
