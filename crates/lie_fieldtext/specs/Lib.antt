pub mod FieldMeaning
pub mod FieldGrammar
pub mod FieldFaults
pub mod FieldReading
pub mod FieldAnswers
