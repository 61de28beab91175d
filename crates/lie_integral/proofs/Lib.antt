pub mod WholeIdentities
pub mod LowestFractions
pub mod ExactAnswers
pub mod KeptTerms
pub mod IntegralNumbers
pub mod IntegralForms
