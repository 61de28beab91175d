mod NameSteps
mod EquationSteps
pub mod LeadLaws
pub mod EquationLaws
mod WordLaws
mod LineLaws
pub mod FileLaws
mod SumFaults
mod EquationFaults
mod NameFaults
mod BodyFaults
pub mod FileFaults
pub mod FileTerms
mod TermCounts
mod EquationLimits
mod ShortLines
pub mod FaultPlaces
mod NameBytes
pub mod WellNamed
pub mod DistinctNames
pub mod LeadSides
pub mod FileEquations
