pub mod Forms
pub mod Gathering
pub mod Placing
pub mod FormLimits
pub mod Steps
pub mod OpeningSystem
pub mod PowerLists
pub mod ContentSteps
pub mod DividedForms
pub mod DividedLimits
pub mod OrderSteps
pub mod SortedPlaces
pub mod AddedEquations
mod EquationPlaces
mod EquationTies
mod SystemSteps
mod DecidingParts
mod ValidParts
