mod InnerVariables
mod Bounds
mod AppliedForms
mod CoordinateForms
mod DerivativesInZ
mod ConditionSums
mod ConditionSteps
mod ReducedForms
mod SortedLists
mod OpeningEquations
mod OpeningSteps
mod EquationSteps
mod ValidForms
pub mod ValidOpening
mod OpeningLimits
mod OpeningLaws
