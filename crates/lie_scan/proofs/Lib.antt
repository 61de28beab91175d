mod RunSteps
pub mod Blanks
pub mod NumberLaws
pub mod CoordinateLaws
pub mod PowerLaws
mod CountSteps
pub mod TurnSteps
pub mod Shorter
pub mod ExponentSteps
pub mod FactorSteps
pub mod SizeSteps
pub mod TermSteps
pub mod FactorLaws
pub mod TermLaws
pub mod SumLaws
pub mod CoordinateFaults
pub mod PowerFaults
pub mod TermFaults
pub mod FileCoordinates
pub mod TermLimits
pub mod TurnCounts
