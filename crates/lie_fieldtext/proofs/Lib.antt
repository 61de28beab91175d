mod FieldSteps
mod FieldShorter
mod FieldSizes
mod FieldParts
mod FieldTold
mod FieldSums
mod FieldBack
mod FieldSumsBack
mod FieldTexts
pub mod FieldLaws
mod FieldPlaces
mod CommonDenominators
mod FieldLimits
mod FieldTermCounts
