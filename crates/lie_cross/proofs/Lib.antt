mod ReducibleForms
mod OtherEquations
mod ReducedEquations
mod AddedForms
mod PassedVariables
mod ForeignForms
mod CommonMultiples
mod CrossedForms
mod EarliestForms
mod OuterParts
mod FreedForms
mod IsolatedForms
mod DependentUnknowns
mod FreeDegrees
pub mod TestedRules
