pub mod PrintedVariables
mod PrintedTexts
pub mod PrintedLists
