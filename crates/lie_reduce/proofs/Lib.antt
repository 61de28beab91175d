pub mod Products
pub mod Places
pub mod Differences
mod PowerSteps
mod Factors
pub mod Replacing
pub mod ReductionSteps
pub mod AbsoluteRules
pub mod GreatestExponents
pub mod ApplicationSteps
mod AbsoluteSides
pub mod GreatestVariables
mod OccurringNumbers
pub mod WorkKinds
