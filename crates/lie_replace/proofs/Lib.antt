mod CleaningSteps
mod Tidied
mod DerivativesBy
mod GrowingCoefficients
mod DerivativeBounds
mod LastingForms
mod LastingTerms
mod LastingEntries
mod CarriedCauses
mod IteratedSteps
mod ReplacingSteps
pub mod JointForms
